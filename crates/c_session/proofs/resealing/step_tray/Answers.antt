use Rattle.std.proofs.Common.{Ok, Err, refl}
use Rattle.keyring_trait.specs.Saying.{said_last}
use Rattle.reseal_core.specs.Session.{gone_on, new_resealing_session}
use Rattle.c_session.proofs.Resealings.{not_stopped, ready_step, step_not, step_on, step_used}
use Rattle.c_session.specs.Resealing.{put_so_far}
use Rattle.c_session.proofs.resealing.step_tray.Goals as goal

pub step-requires-clause-session : goal.step-requires-clause-session
step-requires-clause-session g c = c.requires.ready.session

pub step-requires-clause-random : goal.step-requires-clause-random
step-requires-clause-random g c = λ v stands locked. c.requires.ready.drawn v stands locked.going

pub returns-in-Ok-clause-some : goal.returns-in-Ok-clause-some
returns-in-Ok-clause-some g c =
    step_used g.A.Manager.state c.args.opening.now c.step.new.opening c.args.resealer.now c.step.new.self c.requires.ready.session c.args.left.now c.requires.some
    (put_so_far c.args.tray.now.faults c.args.tray.now.waiting) (put_so_far c.step.new.output.faults c.step.new.output.waiting)
    _ _ (said_last (g.B.Manager.state c.args.sealing.now) (g.B.Manager.state c.step.new.sealing)) c.in-Ok.used c.in-Ok.ensures.steps
    (λ v stands off. not_stopped c.in-Ok.used (c.in-Ok.ensures.stopped v stands off).0)

pub returns-in-Ok-clause-on : goal.returns-in-Ok-clause-on
returns-in-Ok-clause-on g c = λ how begun first taken given so.
    step_on g.A.Manager.state g.B.Manager.state how begun c.args.opening.now c.step.new.opening first c.args.sealing.now c.step.new.sealing taken given c.args.tray.now c.step.new.output
    c.args.resealer.now c.step.new.self so c.requires.none c.args.left.now c.requires.some
    (c.step.ensures.unasked (gone_on (new_resealing_session how.settings how.pairs how.size how.random) so.fed.session so.materials) so.stands) c.in-Ok.used
    (c.in-Ok.ensures.steps (gone_on (new_resealing_session how.settings how.pairs how.size how.random) so.fed.session so.materials) so.stands refl)

pub returns-in-Ok-clause-ready : goal.returns-in-Ok-clause-ready
returns-in-Ok-clause-ready g c =
    ready_step (g.A.Manager.state c.args.opening.now) (g.A.Manager.state c.step.new.opening) (said_last (g.B.Manager.state c.args.sealing.now) (g.B.Manager.state c.step.new.sealing))
    c.args.resealer.now c.step.new.self c.args.left.now
    (put_so_far c.args.tray.now.faults c.args.tray.now.waiting) (put_so_far c.step.new.output.faults c.step.new.output.waiting) _ _
    (g.B.Manager.state c.args.sealing.now).meaning.wraps (g.B.Manager.state c.step.new.sealing).meaning.wraps c.step.ensures.sealing.goes.wraps c.requires.ready
    (Ok c.in-Ok.used) c.in-Ok.ensures.steps (λ v stands off. (c.in-Ok.ensures.stopped v stands off).1)

pub returns-in-Err-clause-ready : goal.returns-in-Err-clause-ready
returns-in-Err-clause-ready g c =
    ready_step (g.A.Manager.state c.args.opening.now) (g.A.Manager.state c.step.new.opening) (said_last (g.B.Manager.state c.args.sealing.now) (g.B.Manager.state c.step.new.sealing))
    c.args.resealer.now c.step.new.self c.args.left.now
    (put_so_far c.args.tray.now.faults c.args.tray.now.waiting) (put_so_far c.step.new.output.faults c.step.new.output.waiting) _ _
    (g.B.Manager.state c.args.sealing.now).meaning.wraps (g.B.Manager.state c.step.new.sealing).meaning.wraps c.step.ensures.sealing.goes.wraps c.requires.ready
    (Err c.in-Err.error) c.in-Err.ensures.steps (λ v stands off. (c.in-Err.ensures.stopped v stands off).1)

pub returns-in-Err-clause-not : goal.returns-in-Err-clause-not
returns-in-Err-clause-not g c = λ how begun first taken given so.
    rw c.unresealed.ensures
    (step_not g.A.Manager.state g.B.Manager.state how begun c.args.opening.now c.step.new.opening first c.args.sealing.now c.step.new.sealing taken given c.args.tray.now c.step.new.output
    c.args.resealer.now c.step.new.self so c.requires.none c.args.left.now c.requires.some
    (c.step.ensures.unasked (gone_on (new_resealing_session how.settings how.pairs how.size how.random) so.fed.session so.materials) so.stands) c.requires.few c.in-Err.error
    (c.in-Err.ensures.steps (gone_on (new_resealing_session how.settings how.pairs how.size how.random) so.fed.session so.materials) so.stands refl))
