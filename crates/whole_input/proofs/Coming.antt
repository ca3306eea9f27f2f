-- Bytes that come piece by piece.
use Rattle.std.proofs.Common.{◌∙◌, ℕ, List, [], ◌++◌, ap, sym, subst, arith, append_assoc, append-nil, length-append}
use Rattle.std.proofs.KnownBytes.{Consumes-trans, Consumes-nil}
use Rattle.esdk_base.specs.Streams.{SourceState}
use Rattle.whole_input.specs.Taken.{Came}

-- no byte came yet
pub came_none : (first : SourceState) → Came first first []
came_none first = record { told = sym (append-nil first.came); consumed = Consumes-nil first.left; given = omega arith; most = omega arith }

-- the bytes of a piece join those that came before
pub came_more : (first old new : SourceState) (bytes piece : List ℕ) → Came first old bytes → Came old new piece → Came first new (bytes ++ piece)
came_more first old new bytes piece came more = record {
  told = more.told ∙ ap (λ (b : List ℕ). b ++ piece) came.told ∙ append_assoc first.came bytes piece;
  consumed = Consumes-trans first.left old.left new.left bytes piece came.consumed more.consumed;
  given = omega (arith, came.given, more.given, length-append bytes piece);
  most = omega (arith, came.most, more.most, length-append bytes piece);
}

-- where no more came, the same bytes are those that came
pub came_still : (first old new : SourceState) (bytes : List ℕ) → Came first old bytes → Came old new [] → Came first new bytes
came_still first old new bytes came none =
    let P : List ℕ → Type 0 = λ b. Came first new b in subst P (append-nil bytes) (came_more first old new bytes [] came none)
