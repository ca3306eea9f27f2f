use Rattle.std.proofs.Common.{refl, sym, ◌∙◌, rules}
use Rattle.keyring_trait.specs.Manager.{ManagerNow}
use Rattle.stream_open.specs.declared.unlocked.Unlocked.{Unlocked}
use Rattle.stream_open.proofs.Stepping.{inside, steps_unlocked}
use Rattle.stream_open.proofs.Steps.{steps_behind, steps_stopped, unlocked_at}
use Rattle.stream_open.proofs.session.Opener.step.Goals as goal

pub returns-then-self-clause-steps : goal.returns-then-self-clause-steps
returns-then-self-clause-steps g c = λ v stands.
    let old : ManagerNow = g.M.Manager.state c.args.manager.now in
    let quiet = c.give_nothing.ensures in
    steps_stopped old old c.args.now c.args.self.now c.give_nothing.new.self v c.args.piece.now stands (sym stands.stopped ∙ c.if-self.true) (λ lines h. h) quiet.settings quiet.given quiet.reader quiet.served
    (quiet.stopped ∙ c.if-self.true) quiet.unlocked

pub returns-in-Some-clause-steps : goal.returns-in-Some-clause-steps
returns-in-Some-clause-steps g c = λ v stands.
    let old : ManagerNow = g.M.Manager.state c.args.manager.now in
    let going = sym stands.stopped ∙ c.if-self.false in
    let u : Unlocked = c.in-Some.unlocked in
    let at = unlocked_at c.args.self.now v u c.in-Some.is stands in
    let within = inside u v at going in
    let took = c.step-answer.ensures in
    let steps = steps_unlocked u v c.args.piece.now c.step-answer.result c.step-answer.new.self at going took.same (took.answer within) (took.steps within) took.kept took.nothing in
    steps_behind old old c.args.now c.args.self.now _ v c.args.piece.now c.step-answer.result (record u { body = c.step-answer.new.self }) stands going (λ lines h. h) steps refl refl refl (search rules) refl
