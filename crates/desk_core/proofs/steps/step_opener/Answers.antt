-- Until the header is unlocked a step may be recorded, and no answer is kept.
use Rattle.std.proofs.Common.{sym}
use Rattle.desk_core.proofs.Openers.{locked_still, steps_from, steps_short, steps_unlocked}
use Rattle.desk_core.specs.Session.{Opening}
use Rattle.desk_core.proofs.steps.step_opener.Goals as goal

pub returns-in-Some-clause-steps : goal.returns-in-Some-clause-steps
returns-in-Some-clause-steps g c = λ v stands live.
    steps_unlocked _ _ v c.args.id c.args.now c.args.piece.now c.step_unrecorded.result c.step_unrecorded.new.opener c.args.journal.now.items c.in-Some.field-0.now live
    (sym (c.in-Some.ensures v stands)) (c.step_unrecorded.ensures.steps v stands)

pub returns-in-Ok-clause-steps : goal.returns-in-Ok-clause-steps
returns-in-Ok-clause-steps g c = λ v stands live.
    let still = locked_still c.args.opener.now v stands live.0 (sym (c.in-None.ensures v stands)) in
    steps_from _ _ (Opening v) c.args.id c.args.now c.args.piece.now c.step_locked.result _ _ _ _ c.in-Ok.ensures.items (c.step_locked.ensures.steps v stands live (live.1 still.unheard))

pub returns-in-Err-clause-steps : goal.returns-in-Err-clause-steps
returns-in-Err-clause-steps g c = λ v stands live.
    let still = locked_still c.args.opener.now v stands live.0 (sym (c.in-None.ensures v stands)) in
    steps_short _ _ v c.args.id c.args.now c.args.piece.now c.args.opener.now c.args.journal.now.items c.try_reserve.new.self.items still (λ lines h. h) c.in-Err.ensures.items
