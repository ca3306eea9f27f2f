use Rattle.cipher_spec.proofs.Inverses.{inverse_is}
use Rattle.cipher_spec.proofs.aes.inverse_is_found.Goals as goal

pub returns : goal.returns
returns c = inverse_is
