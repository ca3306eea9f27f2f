-- The file of a node that can be written can be written.
use Rattle.serde_json.specs.View.{view}
use Rattle.keyring_file.proofs.Plains.{file_found, file_made, file_unasked}
use Rattle.keyring_file.proofs.migration.file_with.Goals as goal

pub returns-in_ok-file_of-in-Some : goal.returns-in_ok-file_of-in-Some
returns-in_ok-file_of-in-Some c =
    let file = c.in_ok-file_of-in-Some in (
      file_found c.args.retire c.in-Some.number (view c.args.node) (view file.field-0) c.args.found c.in-Some.is c.if-found.true file.ensures,
      file_made (view c.args.node) (view file.field-0) c.requires file.ensures,
    )

pub returns-in_ok-file_of-in-None : goal.returns-in_ok-file_of-in-None
returns-in_ok-file_of-in-None c =
    let file = c.in_ok-file_of-in-None in (
      file_unasked c.args.retire (view c.args.node) (view file.field-0) c.args.found c.in-None.is file.ensures,
      file_made (view c.args.node) (view file.field-0) c.requires file.ensures,
    )
