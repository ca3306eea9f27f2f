-- HKDF derives bytes.
use Rattle.suite_table.proofs.KeyLemmas.{bytes-commitment}
use Rattle.suite_table.proofs.laws.commitment_bytes.Goals as goal

pub returns : goal.returns
returns c = bytes-commitment
