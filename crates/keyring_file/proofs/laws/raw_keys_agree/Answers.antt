use Rattle.keyring_file.proofs.Files.{file_agrees}
use Rattle.keyring_file.proofs.laws.raw_keys_agree.Goals as goal

pub returns : goal.returns
returns g c = λ wraps bytes plugs tree is. file_agrees wraps bytes plugs tree is
