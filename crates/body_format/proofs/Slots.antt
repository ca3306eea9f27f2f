-- Slots of a row of units, and the first one that isn't followed by another.
use Rattle.std.proofs.Common.{◌≡◌, ℕ, zero, suc, mul-le-mul_left, get_or, ◌+◌, ◌*◌, ◌<◌, ◌≤◌, Bool, true, false, List, length, refl, sym, ap, ◌∙◌, arith, inl, inr}
use Rattle.std.specs.List.{range_with_len}
use Rattle.std.proofs.lemmas.Bool.{cases_lt}
use Rattle.std.proofs.lemmas.List.{length-drop}
use Rattle.std.proofs.lemmas.List.Sums.{prefix_len-le-length, prefix_len_passes, prefix_len_stops, prefix_len_is}
use Rattle.std.proofs.lemmas.List.FromFn.{length-range_with_len, get_or-range_with_len}
use Rattle.esdk_fields.specs.Place.{Place, past}
use Rattle.esdk_fields.specs.Reading.{Reading, Read, Refused, Wanting, FieldReader}
use Rattle.frame_codec.specs.Unit.{Piece, More, Last}
use Rattle.body_format.specs.Rows.{slot, is_more, first_other, IsRow}

-- a unit that another one follows was read
pub record MoreRead (r : Reading Piece) : Type 0 where
  pub content : List ℕ
  pub next : Place
  pub is : r ≡ Read (More content) next

pub more_read : (r : Reading Piece) → is_more r ≡ true → MoreRead r
more_read (Read (More content) next) h = record { content = content; next = next; is = refl }
more_read (Read (Last content) next) h = absurd cc
more_read (Refused fault at) h = absurd cc
more_read Wanting h = absurd cc

-- a unit that another one follows stands within the bytes
pub more_within : (width : ℕ) (unit : ℕ → FieldReader Piece) (p : Place) (k : ℕ) → IsRow width unit → is_more (slot width unit p k) ≡ true → k * width + width ≤ length p.left
more_within width unit p k row h =
    let read = more_read (slot width unit p k) h in
    let long = (row.sized k (past (k * width) p) read.next read.content read.is).0 in
    let wide = row.wide in
    omega (arith, long, length-drop (k * width) p.left, wide)

more_of_range : (width : ℕ) (unit : ℕ → FieldReader Piece) (p : Place) (k n : ℕ) → k < n → is_more (slot width unit p (get_or (range_with_len 0 n) k 0)) ≡ is_more (slot width unit p k)
more_of_range width unit p k n h = ap (λ (j : ℕ). is_more (slot width unit p j)) (get_or-range_with_len 0 n k 0 h ∙ zero_add k)
  where
    zero_add : (k : ℕ) → 0 + k ≡ k
    zero_add k = omega arith

-- each slot before the first other one has a unit that another one follows
pub good_before : (width : ℕ) (unit : ℕ → FieldReader Piece) (p : Place) (k : ℕ) → k < first_other width unit p → is_more (slot width unit p k) ≡ true
unfolding first_other
good_before width unit p k h =
    let most : first_other width unit p ≤ length p.left = omega (arith, prefix_len-le-length (λ k. is_more (slot width unit p k)) (range_with_len 0 (length p.left)), length-range_with_len 0 (length p.left)) in
    sym (more_of_range width unit p k (length p.left) (omega arith)) ∙ prefix_len_passes (λ k. is_more (slot width unit p k)) (range_with_len 0 (length p.left)) k 0 h

-- a slot behind all bytes has none
none_behind : (width : ℕ) (unit : ℕ → FieldReader Piece) (p : Place) (k : ℕ) (b : Bool) → IsRow width unit → length p.left ≤ k → is_more (slot width unit p k) ≡ b → b ≡ false
none_behind width unit p k true row h e =
    let within : k * width + width ≤ length p.left = more_within width unit p k row e in
    let wide : 1 ≤ width = row.wide in
    let many : k * 1 ≤ k * width = mul-le-mul_left k wide in
    absurd (omega arith)
none_behind width unit p k false row h e = refl

-- and that one hasn't
pub other_at : (width : ℕ) (unit : ℕ → FieldReader Piece) (p : Place) → IsRow width unit → is_more (slot width unit p (first_other width unit p)) ≡ false
unfolding first_other
other_at width unit p row =
    let len : length (range_with_len 0 (length p.left)) ≡ length p.left = length-range_with_len 0 (length p.left) in
    elim (cases_lt (first_other width unit p) (length p.left)) [
      | inl inside ↦ sym (more_of_range width unit p (first_other width unit p) (length p.left) inside) ∙ prefix_len_stops (λ k. is_more (slot width unit p k)) (range_with_len 0 (length p.left)) 0 (omega arith)
      | inr behind ↦ none_behind width unit p (first_other width unit p) _ row behind refl
    ]

-- the units before slot n stand within the bytes
pub slots_within : (width : ℕ) (unit : ℕ → FieldReader Piece) (p : Place) (n : ℕ) → IsRow width unit → ((k : ℕ) → k < n → is_more (slot width unit p k) ≡ true) → n * width ≤ length p.left
slots_within width unit p zero row good = omega arith
slots_within width unit p (suc n) row good = omega (arith, more_within width unit p n row (good n (omega arith)))

-- the first slot that has none is the only one with units before it that others follow, and none at it
pub first_is : (width : ℕ) (unit : ℕ → FieldReader Piece) (p : Place) (n : ℕ) → IsRow width unit
    → ((k : ℕ) → k < n → is_more (slot width unit p k) ≡ true) → is_more (slot width unit p n) ≡ false → first_other width unit p ≡ n
unfolding first_other
first_is width unit p n row good other =
    let len : length (range_with_len 0 (length p.left)) ≡ length p.left = length-range_with_len 0 (length p.left) in
    let within : n * width ≤ length p.left = slots_within width unit p n row good in
    let wide : 1 ≤ width = row.wide in
    let many : n * 1 ≤ n * width = mul-le-mul_left n wide in
    let few : n ≤ length p.left = omega arith in
    prefix_len_is (λ k. is_more (slot width unit p k)) (range_with_len 0 (length p.left)) n 0 (omega arith)
    (λ k h. more_of_range width unit p k (length p.left) (omega arith) ∙ good k h)
    (λ h. more_of_range width unit p n (length p.left) (omega arith) ∙ other)
