use Rattle.c_session.proofs.Openings.{opens_first}
use Rattle.c_session.proofs.opening.OpenMachine.new.Goals as goal

pub returns : goal.returns
returns g c =
    opens_first g.M.Manager.state c.args.manager.now c.new.result c.args.settings c.args.given
    c.new.ensures c.wraps-wraps.ensures.stays
