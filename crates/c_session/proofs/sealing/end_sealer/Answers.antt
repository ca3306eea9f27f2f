use Rattle.c_session.proofs.Sealings.{end_given, end_not}
use Rattle.c_session.proofs.sealing.end_sealer.Goals as goal

pub returns-in-Ok : goal.returns-in-Ok
returns-in-Ok c = λ v given seals.
    end_given (Unit {0}) c.args.sealer.now c.args.waiting.now c.finish_into.new.output v given seals
    (c.in-Ok.ensures.ends v seals.stands)

pub returns-in-Err : goal.returns-in-Err
returns-in-Err c = λ v given seals.
    rw c.unsealed.ensures
    (end_not _ c.args.sealer.now c.args.waiting.now c.finish_into.new.output v given seals
    c.in-Err.error (c.in-Err.ensures.ends v seals.stands))
