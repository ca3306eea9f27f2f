-- A node of eight levels can be written.
use Rattle.std.proofs.Common.{arith}
use Rattle.serde_json.specs.View.{view}
use Rattle.keyring_file.specs.Found.{met}
use Rattle.keyring_file.proofs.Plains.{deeper, migrated_plain}
use Rattle.keyring_file.proofs.migration.migrated_json.Goals as goal

pub file_with-requires : goal.file_with-requires
file_with-requires c =
    deeper 24 126 (view c.in_ok-node.node)
    (migrated_plain c.args.retire c.in-Some.version 8 (view c.in-Some.node.now) (met c.new-walk.result) ((view c.in_ok-node.node, c.in_ok-node.found), met c.migrated.new.self) c.in_ok-node.ensures)
    (omega arith)
