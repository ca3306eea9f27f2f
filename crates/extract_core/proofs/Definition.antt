-- What is extracted, where it is known which slots are good.
use Rattle.std.proofs.Common.{◌≡◌, ℕ, zero, suc, ◌+◌, ◌-◌, ◌<◌, ◌≤◌, Bool, true, false, List, [], ◌++◌, length, take, drop, get_or, Option, Some, None, refl, sym, ap, ◌∙◌, arith, inl, inr}
use Rattle.std.specs.Prelude.{◌==◌}
use Rattle.std.specs.List.{flat_map, prefix_len, range_with_len}
use Rattle.std.proofs.lemmas.Bool.{cases_lt, ne_eqb}
use Rattle.std.proofs.lemmas.List.{append-nil}
use Rattle.std.proofs.lemmas.List.Concat.{flat_map-cons}
use Rattle.std.proofs.lemmas.List.FromFn.{length-range_with_len, get_or-range_with_len}
use Rattle.std.proofs.lemmas.List.Sums.{prefix_len_is, prefix_len_stops}
use Rattle.std.proofs.lemmas.Grind.{flat_map-append}
use Rattle.esdk_fields.specs.declared.faults.Fault.{Fault}
use Rattle.esdk_fields.specs.Reading.{Reading, Read, Refused, Wanting}
use Rattle.frame_codec.specs.Unit.{Piece, More, Last}
use Rattle.body_format.specs.Rows.{is_more}
use Rattle.body_format.proofs.Ranges.{range_add}
use Rattle.extract_core.specs.Extracted.{ByteRange, Extraction, OpenBody, extracted_body, extracted_slots, first_slot, in_range, nothing, slot_count, slot_part, slot_read, slots_taken, unit_content, unit_fault}

-- ---- lists made of numbers in a row

-- one number more
pub flat_map_next : (f : ℕ → List ℕ) (a m : ℕ) → flat_map f (range_with_len a (m + 1)) ≡ flat_map f (range_with_len a m) ++ f (a + m)
flat_map_next f a m =
    ap (flat_map f) (range_add a m 1) ∙ flat_map-append f (range_with_len a m) (range_with_len (a + m) 1)
    ∙ ap (λ (l : List ℕ). flat_map f (range_with_len a m) ++ l) (flat_map-cons f (a + m) [] ∙ append-nil (f (a + m)))

-- the first of them, and the others
pub flat_map_split : (f : ℕ → List ℕ) (a m n : ℕ) → m ≤ n → flat_map f (range_with_len a n) ≡ flat_map f (range_with_len a m) ++ flat_map f (range_with_len (a + m) (n - m))
flat_map_split f a m n few =
    let e : n ≡ m + (n - m) = omega arith in
    ap (λ (k : ℕ). flat_map f (range_with_len a k)) e ∙ ap (flat_map f) (range_add a m (n - m)) ∙ flat_map-append f (range_with_len a m) (range_with_len (a + m) (n - m))

-- how many numbers in a row pass a test, by how far they do
pub range_prefix : (p : ℕ → Bool) (a n m : ℕ) → m ≤ n → ((k : ℕ) → a ≤ k → k < a + m → p k ≡ true) → (m < n → p (a + m) ≡ false) → prefix_len p (range_with_len a n) ≡ m
range_prefix p a n m few passes stops =
    let len : length (range_with_len a n) ≡ n = length-range_with_len a n in
    prefix_len_is p (range_with_len a n) m 0 (omega arith)
    (λ k h. ap p (get_or-range_with_len a n k 0 (omega arith)) ∙ passes (a + k) (omega arith) (omega arith))
    (λ h. ap p (get_or-range_with_len a n m 0 (omega arith)) ∙ stops (omega arith))

-- at least so many pass
pub range_prefix_least : (p : ℕ → Bool) (a n m : ℕ) → m ≤ n → ((k : ℕ) → a ≤ k → k < a + m → p k ≡ true) → m ≤ prefix_len p (range_with_len a n)
range_prefix_least p a n m few passes =
    let len : length (range_with_len a n) ≡ n = length-range_with_len a n in
    let found : ℕ = prefix_len p (range_with_len a n) in
    elim (cases_lt found m) [
      | inl less ↦
          (let yes : p (a + found) ≡ true = passes (a + found) (omega arith) (omega arith) in
          let here : p (get_or (range_with_len a n) found 0) ≡ p (a + found) = ap p (get_or-range_with_len a n found 0 (omega arith)) in
          let no : p (get_or (range_with_len a n) found 0) ≡ false = prefix_len_stops p (range_with_len a n) 0 (omega arith) in
          absurd (true_false (sym (here ∙ yes) ∙ no)))
      | inr enough ↦ enough
    ]
  where
    true_false : true ≡ false → ⊥
    true_false e = cc

-- ---- the slots that are taken

abbrev pub good : OpenBody → ℕ → Bool
good b k = is_more (slot_read b k)

-- each slot from the first on, before this one, is one that another follows
pub record AreGood (b : OpenBody) (range : ByteRange) (slot : ℕ) : Type 0 where
  pub order : first_slot b.content range ≤ slot
  pub each : (k : ℕ) → first_slot b.content range ≤ k → k < slot → good b k ≡ true

pub taken_at : (b : OpenBody) (range : ByteRange) (slot : ℕ) → AreGood b range slot → slot < first_slot b.content range + slot_count b.content range → good b slot ≡ false
    → slots_taken b range ≡ slot - first_slot b.content range + 1
unfolding slots_taken
taken_at b range slot before within here =
    let first : ℕ = first_slot b.content range in
    let count : ℕ = slot_count b.content range in
    let at : first + (slot - first) ≡ slot = omega (arith, before.order) in
    let found : prefix_len (good b) (range_with_len first count) ≡ slot - first =
    range_prefix (good b) first count (slot - first) (omega (arith, within, before.order)) (λ k low high. before.each k low (omega (arith, high, at))) (λ h. ap (good b) at ∙ here) in
    omega (arith, found, within, before.order)

pub taken_all : (b : OpenBody) (range : ByteRange) → AreGood b range (first_slot b.content range + slot_count b.content range) → slots_taken b range ≡ slot_count b.content range
unfolding slots_taken
taken_all b range before =
    let first : ℕ = first_slot b.content range in
    let count : ℕ = slot_count b.content range in
    let found : prefix_len (good b) (range_with_len first count) ≡ count = range_prefix (good b) first count count (omega arith) (λ k low high. before.each k low high) (λ h. absurd (omega (arith, h))) in
    omega (arith, found)

pub taken_least : (b : OpenBody) (range : ByteRange) (slot : ℕ) → AreGood b range slot → slot < first_slot b.content range + slot_count b.content range
    → slot - first_slot b.content range + 1 ≤ slots_taken b range
unfolding slots_taken
taken_least b range slot before within =
    let first : ℕ = first_slot b.content range in
    let count : ℕ = slot_count b.content range in
    let found : slot - first ≤ prefix_len (good b) (range_with_len first count) =
    range_prefix_least (good b) first count (slot - first) (omega (arith, within, before.order)) (λ k low high. before.each k low (omega (arith, high, before.order))) in
    omega (arith, found, within, before.order)

-- no more are taken than the range names
pub taken_most : (b : OpenBody) (range : ByteRange) → slots_taken b range ≤ slot_count b.content range
unfolding slots_taken
taken_most b range = omega arith

-- ---- of a range that isn't empty

pub not_zero : (n : ℕ) → 1 ≤ n → (n == 0) ≡ false
not_zero zero h = absurd (omega (arith, h))
not_zero (suc n) h = ne_eqb (suc n) 0 (λ e. no_zero n e)
  where
    no_zero : (n : ℕ) → suc n ≡ 0 → ⊥
    no_zero n e = cc

pub of_slots : (b : OpenBody) (range : ByteRange) → 1 ≤ range.count → extracted_body b range ≡ extracted_slots b range (slots_taken b range)
unfolding extracted_body
of_slots b range some = rw (not_zero range.count some) refl

pub of_taken : (b : OpenBody) (range : ByteRange) (taken : ℕ) → 1 ≤ range.count → slots_taken b range ≡ taken → extracted_body b range ≡ extracted_slots b range taken
of_taken b range taken some e = of_slots b range some ∙ ap (extracted_slots b range) e

-- the parts of the slots before this one
abbrev pub parts_before : OpenBody → ByteRange → ℕ → List ℕ
parts_before b range slot = flat_map (slot_part b range) (range_with_len (first_slot b.content range) (slot - first_slot b.content range))

-- and those up to it
pub parts_next : (b : OpenBody) (range : ByteRange) (slot : ℕ) → first_slot b.content range ≤ slot → parts_before b range (slot + 1) ≡ parts_before b range slot ++ slot_part b range slot
parts_next b range slot order =
    let first : ℕ = first_slot b.content range in
    let e : slot + 1 - first ≡ (slot - first) + 1 = omega arith in
    let at : first + (slot - first) ≡ slot = omega arith in
    ap (λ (n : ℕ). flat_map (slot_part b range) (range_with_len first n)) e ∙ flat_map_next (slot_part b range) first (slot - first)
    ∙ ap (λ (k : ℕ). flat_map (slot_part b range) (range_with_len first (slot - first)) ++ slot_part b range k) at

-- where this slot ends it
pub ends_at : (b : OpenBody) (range : ByteRange) (slot : ℕ) → 1 ≤ range.count → AreGood b range slot → slot < first_slot b.content range + slot_count b.content range → good b slot ≡ false
    → extracted_body b range ≡ record { part = parts_before b range slot ++ slot_part b range slot; fault = unit_fault (slot_read b slot) }
ends_at b range slot some before within here =
    let first : ℕ = first_slot b.content range in
    let last : first + (slot - first + 1) - 1 ≡ slot = omega (arith, before.order) in
    let e : slot - first + 1 ≡ slot + 1 - first = omega (arith, before.order) in
    of_taken b range (slot - first + 1) some (taken_at b range slot before within here)
    ∙ ap (λ (part : List ℕ). record { part = part; fault = unit_fault (slot_read b (first + (slot - first + 1) - 1)) })
    (ap (λ (n : ℕ). flat_map (slot_part b range) (range_with_len first n)) e ∙ parts_next b range slot before.order)
    ∙ ap (λ (k : ℕ). record { part = parts_before b range slot ++ slot_part b range slot; fault = unit_fault (slot_read b k) }) last

more_without_fault : (r : Reading Piece) → is_more r ≡ true → unit_fault r ≡ None
more_without_fault (Read (More content) next) e = refl
more_without_fault (Read (Last content) next) e = refl
more_without_fault (Refused fault at) e = absurd cc
more_without_fault Wanting e = absurd cc

-- where all slots of the range are good
pub ends_behind : (b : OpenBody) (range : ByteRange) (behind : ℕ) → 1 ≤ range.count → 1 ≤ slot_count b.content range → behind ≡ first_slot b.content range + slot_count b.content range
    → AreGood b range behind → extracted_body b range ≡ record { part = parts_before b range behind; fault = None }
ends_behind b range behind some slots is before =
    let first : ℕ = first_slot b.content range in
    let count : ℕ = slot_count b.content range in
    let e : count ≡ behind - first = omega (arith, is) in
    let all : AreGood b range (first + count) = record { order = omega arith; each = λ k low high. before.each k low (omega (arith, high, is)) } in
    of_taken b range count some (taken_all b range all)
    ∙ ap (λ (fault : Option Fault). record { part = flat_map (slot_part b range) (range_with_len first count); fault = fault })
    (more_without_fault (slot_read b (first + count - 1)) (all.each (first + count - 1) (omega (arith, slots)) (omega (arith, slots))))
    ∙ ap (λ (n : ℕ). record { part = flat_map (slot_part b range) (range_with_len first n); fault = None }) e

-- what comes first of the part
pub begins_part : (b : OpenBody) (range : ByteRange) (slot : ℕ) → 1 ≤ range.count → AreGood b range slot → slot < first_slot b.content range + slot_count b.content range
    → (more : List ℕ) × ((extracted_body b range).part ≡ parts_before b range (slot + 1) ++ more)
begins_part b range slot some before within =
    let first : ℕ = first_slot b.content range in
    let least = taken_least b range slot before within in (
      flat_map (slot_part b range) (range_with_len (first + (slot + 1 - first)) (slots_taken b range - (slot + 1 - first))),
      ap (λ (x : Extraction). x.part) (of_slots b range some)
          ∙ flat_map_split (slot_part b range) first (slot + 1 - first) (slots_taken b range) (omega (arith, least, before.order)),
    )

-- ---- what is read at a slot

pub fault_ends : (r : Reading Piece) (fault : Fault) → unit_fault r ≡ Some fault → (is_more r ≡ false) × (unit_content r ≡ [])
fault_ends (Read (More content) next) fault e = absurd cc
fault_ends (Read (Last content) next) fault e = absurd cc
fault_ends (Refused other at) fault e = (refl, refl)
fault_ends Wanting fault e = (refl, refl)

-- the range has nothing of nothing
nothing_taken : (m n : ℕ) → drop {A = ℕ} m (take {A = ℕ} n []) ≡ []
nothing_taken zero zero = refl
nothing_taken zero (suc n) = refl
nothing_taken (suc m) zero = refl
nothing_taken (suc m) (suc n) = refl

pub nothing_in_range : (range : ByteRange) (first : ℕ) (content : List ℕ) → content ≡ [] → in_range range first content ≡ []
nothing_in_range range first content e = ap (in_range range first) e ∙ nothing_taken (range.at - first) (range.at + range.count - first)

-- nothing comes of an empty range
pub of_nothing : (b : OpenBody) (range : ByteRange) → range.count ≡ 0 → extracted_body b range ≡ nothing None
unfolding extracted_body
of_nothing b range e = rw e refl
