-- HKDF derives bytes.
use Rattle.suite_table.proofs.KeyLemmas.{bytes-derived}
use Rattle.suite_table.proofs.laws.derived_bytes.Goals as goal

pub returns : goal.returns
returns c = bytes-derived
