use Rattle.cipher_spec.proofs.AesBytes.{aes_long, aes_bytes}
use Rattle.cipher_spec.proofs.aes.aes_gives_bytes.Goals as goal

pub returns : goal.returns
returns c = record { long = aes_long; bytes = aes_bytes }
