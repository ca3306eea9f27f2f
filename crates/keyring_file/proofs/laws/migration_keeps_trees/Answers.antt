use Rattle.keyring_file.proofs.NewFiles.{file_kept}
use Rattle.keyring_file.proofs.laws.migration_keeps_trees.Goals as goal

pub returns : goal.returns
returns g c = λ wraps plugs retire bytes new d is file. file_kept wraps plugs retire new bytes d is file
