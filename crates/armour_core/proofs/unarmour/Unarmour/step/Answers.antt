use Rattle.std.proofs.Common.{refl, slice_index, sym, subst, ◌∙◌}
use Rattle.armour_core.specs.Stands.{StandsReading, TakesByte}
use Rattle.armour_core.proofs.Reading.{stays_stopped}
use Rattle.armour_core.proofs.Stepping.{step_begins, step_ends, step_gives, step_goes_on, step_refuses, step_stopped}
use Rattle.armour_core.proofs.unarmour.Unarmour.step.Goals as goal

pub returns-then-self-clause-answer : goal.returns-then-self-clause-answer
returns-then-self-clause-answer c = λ v reads. sym (step_stopped v c.args.piece.now (sym reads.stopped ∙ c.if-self.true)).0

pub returns-then-self-clause-reads : goal.returns-then-self-clause-reads
returns-then-self-clause-reads c = λ v reads.
    subst (StandsReading _) (sym (step_stopped v c.args.piece.now (sym reads.stopped ∙ c.if-self.true)).1) (stays_stopped _ v c.if-self.true refl)

pub loop-used-init : goal.loop-used-init
loop-used-init c = step_begins c.args.self.now _ c.args.piece.now refl refl refl refl c.if-self.false refl

pub loop-used-preserved : goal.loop-used-preserved
loop-used-preserved c =
    step_goes_on c.args.self.now c.loop-used.self c.take_byte.new.self c.args.piece.now c.loop-used.used _ c.loop-used.invariant c.loop-used-test.true refl
    (λ text holds. subst (λ b. TakesByte text (slice_index c.args.piece.now c.loop-used.used) b c.take_byte.new.self) c.in-Ok-false.field-0-test (c.in-Ok-false.ensures.takes text holds)) c.in-Ok-false.ensures.goes (c.in-Ok-false.ensures.none c.in-Ok-false.field-0-test)

pub returns-in-Ok-true-clause-answer : goal.returns-in-Ok-true-clause-answer
returns-in-Ok-true-clause-answer c =
    (step_gives c.args.self.now c.loop-used.self c.take_byte.new.self c.args.piece.now c.loop-used.used _ c.if-self.false c.loop-used.invariant c.loop-used-test.true refl
    (λ text holds. subst (λ b. TakesByte text (slice_index c.args.piece.now c.loop-used.used) b c.take_byte.new.self) c.in-Ok-true.field-0-test (c.in-Ok-true.ensures.takes text holds))).answer

pub returns-in-Ok-true-clause-reads : goal.returns-in-Ok-true-clause-reads
returns-in-Ok-true-clause-reads c =
    (step_gives c.args.self.now c.loop-used.self c.take_byte.new.self c.args.piece.now c.loop-used.used _ c.if-self.false c.loop-used.invariant c.loop-used-test.true refl
    (λ text holds. subst (λ b. TakesByte text (slice_index c.args.piece.now c.loop-used.used) b c.take_byte.new.self) c.in-Ok-true.field-0-test (c.in-Ok-true.ensures.takes text holds))).reads

pub returns-in-Err-clause-answer : goal.returns-in-Err-clause-answer
returns-in-Err-clause-answer c =
    (step_refuses c.args.self.now c.loop-used.self c.take_byte.new.self c.args.piece.now c.loop-used.used _ c.in-Err.error c.if-self.false c.loop-used.invariant c.loop-used-test.true refl c.in-Err.ensures.takes).answer

pub returns-in-Err-clause-reads : goal.returns-in-Err-clause-reads
returns-in-Err-clause-reads c =
    (step_refuses c.args.self.now c.loop-used.self c.take_byte.new.self c.args.piece.now c.loop-used.used _ c.in-Err.error c.if-self.false c.loop-used.invariant c.loop-used-test.true refl c.in-Err.ensures.takes).reads

pub returns-clause-answer : goal.returns-clause-answer
returns-clause-answer c = (step_ends c.args.self.now c.loop-used.self c.args.piece.now c.loop-used.used c.if-self.false c.loop-used.invariant c.loop-used-test.false).answer

pub returns-clause-reads : goal.returns-clause-reads
returns-clause-reads c = (step_ends c.args.self.now c.loop-used.self c.args.piece.now c.loop-used.used c.if-self.false c.loop-used.invariant c.loop-used-test.false).reads
