use Rattle.std.proofs.Common.{◌∙◌, sym, refl}
use Rattle.header_codec.proofs.Sessions.{answer_found, answer_wanting, stands_found, stands_stopped}
use Rattle.header_codec.proofs.session.HeaderReader.step.Goals as goal

pub returns-then-is_some-clause-answer : goal.returns-then-is_some-clause-answer
returns-then-is_some-clause-answer c = λ v stands.
    answer_found v c.args.self.now.found c.args.piece.now stands.found (sym c.is_some.ensures ∙ c.if-is_some.true) (sym stands.stopped ∙ c.if-self.false)

pub returns-in-Ok-clause-stands : goal.returns-in-Ok-clause-stands
returns-in-Ok-clause-stands c = λ v stands.
    stands_found c.args.self.now _ v c.args.piece.now _ c.in-Ok.found.header c.len-had.result c.saturating_sub.result c.in-Ok.found.end c.in-Ok.ensures.finds.0 stands
    c.if-self.false c.if-is_some.ensures c.len-had.ensures refl c.saturating_sub.ensures c.in-Ok.ensures.finds.1 c.in-Ok.ensures.settings refl refl

pub returns-in-Err-Wanting-clause-answer : goal.returns-in-Err-Wanting-clause-answer
returns-in-Err-Wanting-clause-answer c = λ v stands.
    answer_wanting c.args.self.now v c.args.piece.now stands c.if-self.false (sym c.if-is_some.false ∙ c.is_some.ensures) (rw c.in-Err-Wanting.field-0-is at c.in-Err-Wanting.ensures.finds)

pub returns-in-Err-Fault-clause-stands : goal.returns-in-Err-Fault-clause-stands
returns-in-Err-Fault-clause-stands c = λ v stands. stands_stopped c.args.self.now _ v stands c.take.ensures.settings refl refl

pub returns-in-Err-Memory-clause-stands : goal.returns-in-Err-Memory-clause-stands
returns-in-Err-Memory-clause-stands c = λ v stands. stands_stopped c.args.self.now _ v stands c.take.ensures.settings refl refl
