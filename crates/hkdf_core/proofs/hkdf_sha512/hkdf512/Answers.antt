-- What is expanded is the key that was extracted.
use Rattle.cipher_spec.specs.Hkdf.{hkdf, hkdf512}
use Rattle.hkdf_core.proofs.hkdf_sha512.hkdf512.Goals as goal

pub returns : goal.returns
unfolding hkdf512 hkdf
returns c = rw c.extract-key.ensures at c.expand.ensures
