use Rattle.std.proofs.Common.{sym, ◌∙◌}
use Rattle.stream_seal.proofs.Standing.{finish_stopped, finish_on, stands_still, stands_finished}
use Rattle.stream_seal.proofs.session.Sealer.finish.Goals as goal

pub returns-then-self-clause-answer : goal.returns-then-self-clause-answer
returns-then-self-clause-answer c = λ v stands. sym (finish_stopped v (sym stands.stopped ∙ c.if-self.true))

pub returns-then-self-clause-stands : goal.returns-then-self-clause-stands
returns-then-self-clause-stands c = λ v stands.
    stands_still c.args.self.now v c.go_on.new.self stands c.go_on.ensures (sym stands.stopped ∙ c.if-self.true)

pub returns-clause-answer : goal.returns-clause-answer
returns-clause-answer c = λ v stands. sym (finish_on v (sym stands.stopped ∙ c.if-self.false))

pub returns-clause-stands : goal.returns-clause-stands
returns-clause-stands c = λ v stands.
    rw c.seal_final.ensures.same
    (stands_finished c.args.self.now v c.go_on.new.self c.seal_final.new.self stands (sym stands.stopped ∙ c.if-self.false) c.go_on.ensures
    c.seal_final.ensures.sealed)
