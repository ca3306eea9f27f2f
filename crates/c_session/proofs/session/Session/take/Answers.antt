use Rattle.c_session.proofs.Sessions.{handed_out}
use Rattle.c_session.proofs.session.Session.take.Goals as goal

pub returns : goal.returns
returns g c =
    handed_out g.M.Manager.state c.args.self.now c.hand_out.new.self c.hand_out.result
    c.hand_out.ensures.left c.args.room.now c.hand_out.new.room c.hand_out.ensures
