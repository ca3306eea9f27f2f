-- What holds of an opener's sessions holds of the machine's.
use Rattle.std.proofs.Common.{ℕ, ◌-◌, ◌<◌, ◌≤◌, length, Some, IfOk}
use Rattle.desk_core.specs.declared.session.Session.TheVariants as machines
use Rattle.desk_core.specs.Session.{SessionValue}
use Rattle.desk_core.specs.Stands.{IsLive, work_in}
use Rattle.desk_core.specs.Steps.{DeskSteps}
use Rattle.desk_core.proofs.Machines.{by_opener}
use Rattle.desk_core.proofs.Openers.{falls_opening}
use Rattle.desk_core.proofs.steps.step.Goals as goal

pub returns-in-Opening-clause-steps : goal.returns-in-Opening-clause-steps
returns-in-Opening-clause-steps g c =
    by_opener
    (λ (s : SessionValue). IsLive s
    → DeskSteps (g.M.Manager.state c.args.manager.now) (g.M.Manager.state c.step_opener.new.manager) s c.args.id c.args.now c.args.piece.now c.step_opener.result (machines.Opening c.step_opener.new.opener) c.args.journal.now.items c.step_opener.new.journal.items)
    c.args.session.now c.in-Opening.opener c.in-Opening.is c.step_opener.ensures.steps

pub returns-in-Opening-clause-within : goal.returns-in-Opening-clause-within
returns-in-Opening-clause-within g c =
    by_opener (λ (s : SessionValue). IfOk c.step_opener.result (λ (used : ℕ). used ≤ length c.args.piece.now)) c.args.session.now c.in-Opening.opener c.in-Opening.is c.step_opener.ensures.within

pub returns-in-Opening-clause-falls : goal.returns-in-Opening-clause-falls
returns-in-Opening-clause-falls g c =
    by_opener
    (λ (s : SessionValue). IfOk c.step_opener.result
    (λ (used : ℕ). 1 ≤ length c.args.piece.now → length c.args.piece.now - used < work_in (Some c.args.session.now) (length c.args.piece.now)))
    c.args.session.now c.in-Opening.opener c.in-Opening.is
    (λ v stands. falls_opening c.args.session.now c.in-Opening.opener c.step_opener.result c.args.piece.now c.in-Opening.is
    (c.step_opener.ensures.within v stands) (c.step_opener.ensures.some v stands))
