-- A key longer than a block is hashed before it is padded.
use Rattle.std.proofs.Common.{rules}
use Rattle.cipher_spec.specs.Hmac.{key_block}
use Rattle.hkdf_core.proofs.hmac_sha512.key_block.Goals as goal

pub returns-then-key-gt-BLOCK : goal.returns-then-key-gt-BLOCK
unfolding key_block
returns-then-key-gt-BLOCK c = search rules
