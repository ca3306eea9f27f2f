-- HKDF derives as many bytes as are asked for.
use Rattle.suite_table.proofs.KeyLemmas.{length-derived}
use Rattle.suite_table.proofs.laws.derived_length.Goals as goal

pub returns : goal.returns
returns c = length-derived
