use Rattle.keyring_file.proofs.Files.{file_is_low}
use Rattle.keyring_file.proofs.laws.trees_are_small.Goals as goal

pub returns : goal.returns
returns g c = λ wraps bytes plugs tree few is. file_is_low wraps bytes plugs tree few is
