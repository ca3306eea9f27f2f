use Rattle.std.proofs.Common.{◌≡◌, ◌+◌, ℕ, List, [], length, Option, Some, None, refl, ap, arith}
use Rattle.frame_codec.specs.declared.unit_buffer.Span.{Span}
use Rattle.frame_codec.specs.UnitBuffer.{UnitValue, held_in, unit_out}
use Rattle.frame_codec.proofs.unit_buffer.UnitBuffer.open.Goals as goal

-- while bytes of a unit are held, no content is given
holding : (opened : Option Span) (old new : List ℕ) (n : ℕ) → length (held_in opened old) ≡ n + 16 → unit_out opened new ≡ []
holding None old new n long = refl
holding (Some span) old new n long = absurd (omega arith)

pub returns-then-not-open_in_place-clause-kept : goal.returns-then-not-open_in_place-clause-kept
returns-then-not-open_in_place-clause-kept c = λ wrong.
    holding c.self.inside.opened c.self.inside.bytes.items _ (c.args.head.now.size + c.args.head.now.length) (omega (arith, ap (λ (u : UnitValue). length u.held) c.self.view_is, c.requires.whole))
