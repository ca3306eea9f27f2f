use Rattle.std.proofs.Common.{refl}
use Rattle.keyring_file.proofs.rewrite.is_at.Goals as goal

pub returns-in-Some : goal.returns-in-Some
returns-in-Some c = rw c.in-Some.is refl
