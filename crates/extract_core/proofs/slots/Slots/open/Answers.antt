use Rattle.std.proofs.Common.{◌≡◌, List, ℕ, None, Some, refl, subst}
use Rattle.frame_codec.specs.UnitBuffer.{opened_of}
use Rattle.extract_core.proofs.slots.Slots.open.Goals as goal

pub returns-then-is_right-clause-opens : goal.returns-then-is_right-clause-opens
returns-then-is_right-clause-opens c =
    let s = c.args.self.now in
    subst (λ (id : List ℕ). opened_of s.key id c.args.head.now s.unit.held ≡ Some c.open-is_right.new.self.out) c.bytes.ensures.value (rw c.if-is_right.true at c.open-is_right.ensures.answer)

pub returns-then-is_right-clause-last : goal.returns-then-is_right-clause-last
returns-then-is_right-clause-last c = c.is_last.ensures

pub returns-then-is_right-clause-empty : goal.returns-then-is_right-clause-empty
returns-then-is_right-clause-empty c = c.open-is_right.ensures.given c.if-is_right.true

pub returns-then-is_right-clause-fault : goal.returns-then-is_right-clause-fault
returns-then-is_right-clause-fault c = tt

pub returns-clause-opens : goal.returns-clause-opens
returns-clause-opens c = tt

pub returns-clause-last : goal.returns-clause-last
returns-clause-last c = tt

pub returns-clause-empty : goal.returns-clause-empty
returns-clause-empty c = tt

pub returns-clause-fault : goal.returns-clause-fault
returns-clause-fault c =
    let s = c.args.self.now in (
      refl,
      subst (λ (id : List ℕ). opened_of s.key id c.args.head.now s.unit.held ≡ None) c.bytes.ensures.value (rw c.if-is_right.false at c.open-is_right.ensures.answer),
    )
