-- What the opener kept of the manager's answer is recorded.
use Rattle.desk_core.proofs.Openers.{steps_locked}
use Rattle.desk_core.proofs.steps.step_locked.Goals as goal

pub returns-clause-steps : goal.returns-clause-steps
returns-clause-steps g c = λ v stands live none.
    steps_locked _ _ v c.args.id c.args.now c.args.piece.now c.step_unrecorded-answer.result c.step_unrecorded-answer.new.opener c.args.journal.now.items c.record_served.new.journal.items live none
    (c.step_unrecorded-answer.ensures.steps v stands) c.record_served.ensures
