-- The commitment is expanded from the key that was extracted.
use Rattle.std.proofs.Common.{rules}
use Rattle.cipher_spec.specs.Hkdf.{hkdf, hkdf512}
use Rattle.suite_table.specs.Keys.{commitment}
use Rattle.suite_table.proofs.keys.committed_keys.Goals as goal

pub returns-clause-commitment : goal.returns-clause-commitment
unfolding commitment hkdf512 hkdf
returns-clause-commitment c = search rules
