-- The commitment is expanded from the key that was extracted.
use Rattle.std.proofs.Common.{rules}
use Rattle.cipher_spec.specs.Hkdf.{hkdf, hkdf512}
use Rattle.suite_table.specs.Keys.{commitment}
use Rattle.suite_table.proofs.keys.commitment.Goals as goal

pub returns : goal.returns
unfolding commitment hkdf512 hkdf
returns c = search rules
