-- Bytes, and some of them.
use Rattle.std.proofs.Common.{ℕ, ◌<◌, List, length, take, drop, get_or, arith, inl, inr}
use Rattle.std.proofs.lemmas.Bool.{cases_lt}
use Rattle.std.proofs.lemmas.List.{get_or_past}
use Rattle.std.proofs.lemmas.List.Elements.{All-drop, All-take}
use Rattle.esdk_fields.specs.Bytes.{AreBytes}

-- the byte at each index, or 0 behind the last
pub byte_at : (bytes : List ℕ) → AreBytes bytes → (i : ℕ) → get_or bytes i 0 < 256
byte_at bytes fits i =
    elim (cases_lt i (length bytes)) [
      | inl inside ↦ fits i 0 inside
      | inr behind ↦ rw (get_or_past bytes i 0 behind) (omega arith)
    ]

pub AreBytes-drop : (n : ℕ) (bytes : List ℕ) → AreBytes bytes → AreBytes (drop n bytes)
AreBytes-drop n bytes fits = All-drop (λ b. b < 256) n bytes fits

pub AreBytes-take : (n : ℕ) (bytes : List ℕ) → AreBytes bytes → AreBytes (take n bytes)
AreBytes-take n bytes fits = All-take (λ b. b < 256) n bytes fits
