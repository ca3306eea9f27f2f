use Rattle.c_session.proofs.Trees.{has_few}
use Rattle.c_session.proofs.file_tree.read_manager.Goals as goal

pub new-requires-in-Ok : goal.new-requires-in-Ok
new-requires-in-Ok c =
    has_few c.args.file.now c.new.result.items c.in-Ok.tree c.new.ensures.items c.in-Ok.ensures.answers
