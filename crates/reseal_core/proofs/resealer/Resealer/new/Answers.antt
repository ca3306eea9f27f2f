use Rattle.reseal_core.proofs.Sessions.{stands_new}
use Rattle.reseal_core.proofs.resealer.Resealer.new.Goals as goal

pub returns : goal.returns
returns c = stands_new c.args.settings c.args.given c.args.frame_length c.args.random.now c.new-2.result c.in_ok-message.message c.new-2.ensures c.in_ok-message.ensures
