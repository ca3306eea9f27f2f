-- HKDF derives as many bytes as are asked for.
use Rattle.suite_table.proofs.KeyLemmas.{length-commitment}
use Rattle.suite_table.proofs.laws.commitment_length.Goals as goal

pub returns : goal.returns
returns c = length-commitment
