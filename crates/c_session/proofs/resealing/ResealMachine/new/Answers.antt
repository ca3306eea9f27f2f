use Rattle.c_session.proofs.Resealings.{reseals_none}
use Rattle.c_session.proofs.resealing.ResealMachine.new.Goals as goal

pub returns : goal.returns
returns g c =
    reseals_none g.A.Manager.state g.B.Manager.state c.args.settings c.args.given c.args.frame_length c.args.random.now c.args.opening.now c.args.sealing.now
    c.in_ok-resealer.resealer c.wraps-wraps.result c.in_ok-resealer.ensures c.wraps-wraps.ensures.value c.wraps-opening.ensures.stays c.wraps-wraps.ensures.stays
