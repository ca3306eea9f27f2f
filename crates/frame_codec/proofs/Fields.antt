-- Fields at a place: there, or not all of them.
use Rattle.std.proofs.Common.{◌≡◌, ℕ, ◌+◌, ◌<◌, ◌≤◌, List, length, take, drop, refl, sym, ap, ◌∙◌, arith}
use Rattle.std.specs.Int.{w32, w64}
use Rattle.std.proofs.lemmas.Bool.{le-ltb, lt-ltb}
use Rattle.std.proofs.lemmas.List.{drop-drop, length-drop}
use Rattle.esdk_fields.specs.Place.{Place}
use Rattle.esdk_fields.specs.Numbers.{from_big_endian}
use Rattle.esdk_fields.specs.Reading.{Reading, Read, Wanting, field, number, bytes}
use Rattle.esdk_fields.proofs.Inverse.{read_same}
use Rattle.frame_codec.specs.Rows.{number_at, long_number_at}

abbrev pub place : ℕ → List ℕ → Place
place at left = record { at = at; left = left }

-- what was read, at an offset that is said in another way
pub read_at : {A : Type 0} (x : A) (m n : ℕ) (left : List ℕ) → m ≡ n → Read x (place m left) ≡ Read x (place n left)
read_at x m n left e = ap (λ (k : ℕ). Read x (place k left)) e

-- one reading has one value and one end
pub read_once : {A : Type 0} (r : Reading A) (x y : A) (p q : Place) → r ≡ Read x p → r ≡ Read y q → (x ≡ y) × (p ≡ q)
read_once r x y p q e f = read_same x y p q (sym e ∙ f)

-- ---- a field that stands n bytes behind the place

field_there : {A : Type 0} (means : List ℕ → A) (n m at : ℕ) (left : List ℕ) → n + m ≤ length left
    → field means m (place (at + n) (drop n left)) ≡ Read (means (take m (drop n left))) (place (at + (n + m)) (drop (n + m) left))
field_there means n m at left h =
    rw (le-ltb (length (drop n left)) m (omega (arith, length-drop n left)), drop-drop m n left) (read_at (means (take m (drop n left))) (at + n + m) (at + (n + m)) (drop (n + m) left) (omega arith))

field_short : {A : Type 0} (means : List ℕ → A) (n m at : ℕ) (left : List ℕ) → 0 < m → length left < n + m → field means m (place (at + n) (drop n left)) ≡ Wanting
field_short means n m at left some h = rw (lt-ltb (length (drop n left)) m (omega (arith, length-drop n left))) refl

pub bytes_there : (n m at : ℕ) (left : List ℕ) → n + m ≤ length left → bytes m (place (at + n) (drop n left)) ≡ Read (take m (drop n left)) (place (at + (n + m)) (drop (n + m) left))
bytes_there n m at left h = field_there (λ b. b) n m at left h

pub bytes_short : (n m at : ℕ) (left : List ℕ) → 0 < m → length left < n + m → bytes m (place (at + n) (drop n left)) ≡ Wanting
bytes_short n m at left some h = field_short (λ b. b) n m at left some h

pub number32_there : (n at : ℕ) (left : List ℕ) → n + 4 ≤ length left → number w32 (place (at + n) (drop n left)) ≡ Read (number_at n left) (place (at + (n + 4)) (drop (n + 4) left))
number32_there n at left h = field_there (from_big_endian w32) n 4 at left h

pub number32_short : (n at : ℕ) (left : List ℕ) → length left < n + 4 → number w32 (place (at + n) (drop n left)) ≡ Wanting
number32_short n at left h = field_short (from_big_endian w32) n 4 at left (omega arith) h

pub number64_there : (n at : ℕ) (left : List ℕ) → n + 8 ≤ length left → number w64 (place (at + n) (drop n left)) ≡ Read (long_number_at n left) (place (at + (n + 8)) (drop (n + 8) left))
number64_there n at left h = field_there (from_big_endian w64) n 8 at left h

pub number64_short : (n at : ℕ) (left : List ℕ) → length left < n + 8 → number w64 (place (at + n) (drop n left)) ≡ Wanting
number64_short n at left h = field_short (from_big_endian w64) n 8 at left (omega arith) h

-- ---- the field at the place itself

here : (at : ℕ) → at ≡ at + 0
here at = omega arith

pub first_number_there : (at : ℕ) (left : List ℕ) → 4 ≤ length left → number w32 (place at left) ≡ Read (number_at 0 left) (place (at + 4) (drop 4 left))
first_number_there at left h = ap (λ (k : ℕ). number w32 (place k left)) (here at) ∙ number32_there 0 at left h

pub first_number_short : (at : ℕ) (left : List ℕ) → length left < 4 → number w32 (place at left) ≡ Wanting
first_number_short at left h = ap (λ (k : ℕ). number w32 (place k left)) (here at) ∙ number32_short 0 at left h

pub first_bytes_there : (m at : ℕ) (left : List ℕ) → m ≤ length left → bytes m (place at left) ≡ Read (take m left) (place (at + m) (drop m left))
first_bytes_there m at left h = rw (le-ltb (length left) m h) refl

pub first_bytes_short : (m at : ℕ) (left : List ℕ) → length left < m → bytes m (place at left) ≡ Wanting
first_bytes_short m at left h = rw (lt-ltb (length left) m h) refl
