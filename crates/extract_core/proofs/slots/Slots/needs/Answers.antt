use Rattle.std.proofs.Common.{◌≡◌, ◌∙◌, ℕ, List, sym, ap}
use Rattle.frame_codec.specs.UnitHead.{head_of}
use Rattle.extract_core.proofs.Heads.{needs_head, needs_unit}
use Rattle.extract_core.proofs.slots.Slots.needs.Goals as goal

pub returns-in-NeedMore : goal.returns-in-NeedMore
returns-in-NeedMore c =
    let s = c.args.self.now in
    needs_head s c.args.want c.in-NeedMore.end
    (ap (λ (b : List ℕ). head_of s.content c.args.want s.max_unit b) (sym c.held-held.ensures) ∙ sym c.in-NeedMore.ensures.answer)

pub returns-then-held-end : goal.returns-then-held-end
returns-then-held-end c =
    let s = c.args.self.now in
    needs_unit s c.args.want c.in-Unit.head
    (ap (λ (b : List ℕ). head_of s.content c.args.want s.max_unit b) (sym c.held-held.ensures) ∙ sym c.in-Unit.ensures.answer)
    c.in-Unit.ensures.short (omega (Rattle.std.proofs.Common.arith, c.if-held-end.true, ap Rattle.std.proofs.Common.length c.held-held.ensures))
