use Rattle.keyring_file.proofs.Files.{leaves_few}
use Rattle.keyring_file.proofs.laws.leaves_are_few.Goals as goal

pub returns : goal.returns
returns g c = λ wraps leaf bytes plugs node few is. leaves_few wraps leaf bytes plugs node few is
