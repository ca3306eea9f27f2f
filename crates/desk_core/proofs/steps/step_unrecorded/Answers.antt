-- What the opener answers is what the desk answers, under its names for errors.
use Rattle.std.proofs.Common.{◌≡◌, Err, ap, sym}
use Rattle.desk_core.specs.Session.{open_answer}
use Rattle.desk_core.proofs.Openers.{uses_some}
use Rattle.desk_core.proofs.steps.step_unrecorded.Goals as goal

pub returns-in-Ok-clause-steps : goal.returns-in-Ok-clause-steps
returns-in-Ok-clause-steps g c = λ v stands. record {
  own = c.step.result;
  steps = c.step.ensures.steps v stands;
  answer = sym (ap open_answer c.in-Ok.is);
}

pub returns-in-Err-clause-steps : goal.returns-in-Err-clause-steps
returns-in-Err-clause-steps g c = λ v stands.
    let answer : Err c.opener_failed.result ≡ open_answer c.step.result = rw (c.in-Err.is, c.opener_failed.ensures) in
    record { own = c.step.result; steps = c.step.ensures.steps v stands; answer = answer }

pub returns-in-Ok-clause-some : goal.returns-in-Ok-clause-some
returns-in-Ok-clause-some g c = λ v stands some.
    uses_some _ _ c.args.now v c.args.piece.now c.step.result c.step.new.self c.in-Ok.used (c.step.ensures.steps v stands) c.in-Ok.is some
