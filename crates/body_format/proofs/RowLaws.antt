-- What is said of the front of a row of units, and of all of it.
use Rattle.std.proofs.Common.{◌≡◌, ℕ, ◌+◌, ◌-◌, ◌*◌, ◌<◌, ◌≤◌, true, false, List, [], ◌++◌, length, refl, sym, ap, subst, ◌∙◌, arith, inl, inr}
use Rattle.std.specs.List.{flat_map, range_with_len}
use Rattle.std.proofs.lemmas.Bool.{cases_lt, ne_eqb}
use Rattle.std.proofs.lemmas.List.{append-nil, length-drop}
use Rattle.esdk_fields.specs.declared.faults.Fault.{Fault}
use Rattle.esdk_fields.specs.declared.faults.Fault.TheVariants.{TrailingBytes}
use Rattle.esdk_fields.specs.Place.{Place, past, cut}
use Rattle.esdk_fields.specs.Reading.{Reading, Read, Refused, Wanting, FieldReader}
use Rattle.esdk_fields.specs.Sequential.{cut_reading}
use Rattle.esdk_fields.proofs.Fronts.{end_of, end_stays}
use Rattle.frame_codec.specs.Unit.{Piece, More, Last}
use Rattle.body_format.specs.declared.verdicts.Verdict.{Verdict}
use Rattle.body_format.specs.declared.verdicts.Verdict.TheVariants.{Going, Whole, Faulty}
use Rattle.body_format.specs.Rows.{slot, is_more, released, verdict_of, first_other, judged_at, judged_units, JudgedBody, IsRow}
use Rattle.body_format.proofs.CutReadings.{Cut, Unknown, KnownRead, KnownRefused, cut_cases, StaysMore, stays_more, stays_faulty}
use Rattle.body_format.proofs.Places.{past_cut, length-cut}
use Rattle.body_format.proofs.Ranges.{flat_map_same, flat_map_add, flat_map_one}
use Rattle.body_format.proofs.Slots.{good_before, other_at, first_is, slots_within}

-- ---- a slot

-- the slot begins before that offset, where whole units stand before it
pub reached : (width : ℕ) (unit : ℕ → FieldReader Piece) (p : Place) (n k : ℕ) → IsRow width unit → p.at ≤ n → k ≤ first_other width unit (cut n p) → p.at + k * width ≤ n
reached width unit p n k row within few =
    let fits : k * width ≤ length (cut n p).left = slots_within width unit (cut n p) k row (λ j h. good_before width unit (cut n p) j (omega arith)) in
    omega (arith, length-cut n p)

pub slot_cut : (width : ℕ) (unit : ℕ → FieldReader Piece) (p : Place) (n k : ℕ) → IsRow width unit → p.at ≤ n → k ≤ first_other width unit (cut n p) → slot width unit (cut n p) k ≡ cut_reading n (slot width unit p k)
slot_cut width unit p n k row within few = ap (unit k) (past_cut (k * width) n p) ∙ (row.sequential k).cuts n (past (k * width) p) (reached width unit p n k row within few)

-- the slots before the first other one of the front stay
pub slot_stays : (width : ℕ) (unit : ℕ → FieldReader Piece) (p : Place) (n k : ℕ) → IsRow width unit → p.at ≤ n → k < first_other width unit (cut n p) → StaysMore (slot width unit (cut n p) k) (slot width unit p k)
slot_stays width unit p n k row within h =
    let e = slot_cut width unit p n k row within (omega arith) in
    subst (λ (front : Reading Piece). StaysMore front (slot width unit p k)) (sym e) (stays_more n (slot width unit p k) (cut_cases n (slot width unit p k)) (sym (ap is_more e) ∙ good_before width unit (cut n p) k h))

good_stays : (width : ℕ) (unit : ℕ → FieldReader Piece) (p : Place) (n : ℕ) → IsRow width unit → p.at ≤ n → (k : ℕ) → k < first_other width unit (cut n p) → is_more (slot width unit p k) ≡ true
good_stays width unit p n row within k h = (slot_stays width unit p n k row within h).more

-- so the first other one of all bytes is no earlier
first_later : (width : ℕ) (unit : ℕ → FieldReader Piece) (p : Place) (n : ℕ) → IsRow width unit → p.at ≤ n → first_other width unit (cut n p) ≤ first_other width unit p
first_later width unit p n row within =
    elim (cases_lt (first_other width unit p) (first_other width unit (cut n p))) [
      | inl early ↦ let no : true ≡ false = sym (good_stays width unit p n row within (first_other width unit p) early) ∙ other_at width unit p row in absurd cc
      | inr late ↦ late
    ]

-- the contents before it are the same
pub front_same : (width : ℕ) (unit : ℕ → FieldReader Piece) (p : Place) (n : ℕ) → IsRow width unit → p.at ≤ n
    → flat_map (λ k. released (slot width unit (cut n p) k)) (range_with_len 0 (first_other width unit (cut n p))) ≡ flat_map (λ k. released (slot width unit p k)) (range_with_len 0 (first_other width unit (cut n p)))
front_same width unit p n row within =
    flat_map_same (λ k. released (slot width unit (cut n p) k)) (λ k. released (slot width unit p k)) 0 (first_other width unit (cut n p)) (λ k low high. (slot_stays width unit p n k row within (omega arith)).same)

-- ---- a fault stays

-- the judgement of all bytes, where the first other slot is known
pub judged_is : (width : ℕ) (unit : ℕ → FieldReader Piece) (p : Place) (n : ℕ) → first_other width unit p ≡ n → judged_units width unit p ≡ judged_at width unit p n
unfolding judged_units
judged_is width unit p n e = ap (judged_at width unit p) e

pub verdict_is : (width : ℕ) (unit : ℕ → FieldReader Piece) (p : Place) → (judged_units width unit p).verdict ≡ verdict_of (slot width unit p (first_other width unit p))
unfolding judged_units
verdict_is width unit p = refl

pub units_are : (width : ℕ) (unit : ℕ → FieldReader Piece) (p : Place)
    → (judged_units width unit p).units ≡ flat_map (λ k. released (slot width unit p k)) (range_with_len 0 (first_other width unit p)) ++ released (slot width unit p (first_other width unit p))
unfolding judged_units
units_are width unit p = flat_map_one (λ k. released (slot width unit p k)) (first_other width unit p)

pub same_judged : (a b : JudgedBody) → a.units ≡ b.units → a.verdict ≡ b.verdict → a ≡ b
same_judged a b e f = ap (λ (units : List (List ℕ)). record { units = units; verdict = a.verdict }) e ∙ ap (λ (verdict : Verdict). record { units = b.units; verdict = verdict }) f

-- A fault stays when bytes follow, and so does what was handed out before it.
pub fault_stays : (width : ℕ) (unit : ℕ → FieldReader Piece) (p : Place) (n : ℕ) (fault : Fault) → IsRow width unit → p.at ≤ n
    → (judged_units width unit (cut n p)).verdict ≡ Faulty fault → judged_units width unit p ≡ judged_units width unit (cut n p)
fault_stays width unit p n fault row within h =
    let last : ℕ = first_other width unit (cut n p) in
    let e = slot_cut width unit p n last row within (omega arith) in
    let faulty : verdict_of (cut_reading n (slot width unit p last)) ≡ Faulty fault = sym (ap verdict_of e) ∙ sym (verdict_is width unit (cut n p)) ∙ h in
    let stays = stays_faulty n (slot width unit p last) fault (cut_cases n (slot width unit p last)) faulty in
    let first : first_other width unit p ≡ last = first_is width unit p last row (good_stays width unit p n row within) stays.other in
    let same : released (slot width unit (cut n p) last) ≡ released (slot width unit p last) = ap released e ∙ stays.same in
    same_judged (judged_units width unit p) (judged_units width unit (cut n p))
    (units_are width unit p
    ∙ ap (λ (k : ℕ). flat_map (λ k. released (slot width unit p k)) (range_with_len 0 k) ++ released (slot width unit p k)) first
    ∙ ap (λ (l : List (List ℕ)). l ++ released (slot width unit p last)) (sym (front_same width unit p n row within))
    ∙ ap (λ (l : List (List ℕ)). flat_map (λ k. released (slot width unit (cut n p) k)) (range_with_len 0 last) ++ l) (sym same)
    ∙ sym (units_are width unit (cut n p)))
    (verdict_is width unit p ∙ ap (λ (k : ℕ). verdict_of (slot width unit p k)) first ∙ stays.verdict ∙ sym h)

-- ---- what was handed out stays

-- some contents, and more
pub record Begins (front whole : List (List ℕ)) : Type 0 where
  pub more : List (List ℕ)
  pub is : whole ≡ front ++ more

-- nothing was handed out at the slot where the front ends
begins_before : (width : ℕ) (unit : ℕ → FieldReader Piece) (p : Place) (n : ℕ) → IsRow width unit → p.at ≤ n → released (slot width unit (cut n p) (first_other width unit (cut n p))) ≡ []
    → Begins (judged_units width unit (cut n p)).units (judged_units width unit p).units
unfolding judged_units
begins_before width unit p n row within none =
    let last : ℕ = first_other width unit (cut n p) in
    let late : last ≤ first_other width unit p = first_later width unit p n row within in
    let split : first_other width unit p + 1 ≡ last + (first_other width unit p + 1 - last) = omega arith in
    record {
      more = flat_map (λ k. released (slot width unit p k)) (range_with_len last (first_other width unit p + 1 - last));
      is = ap (λ (k : ℕ). flat_map (λ k. released (slot width unit p k)) (range_with_len 0 k)) split
          ∙ flat_map_add (λ k. released (slot width unit p k)) last (first_other width unit p + 1 - last)
          ∙ ap (λ (l : List (List ℕ)). l ++ flat_map (λ k. released (slot width unit p k)) (range_with_len last (first_other width unit p + 1 - last)))
          (sym (front_same width unit p n row within) ∙ sym (append-nil (flat_map (λ k. released (slot width unit (cut n p) k)) (range_with_len 0 last)))
          ∙ ap (λ (l : List (List ℕ)). flat_map (λ k. released (slot width unit (cut n p) k)) (range_with_len 0 last) ++ l) (sym none)
          ∙ sym (units_are width unit (cut n p)));
    }

-- the last unit was handed out there
begins_last : (width : ℕ) (unit : ℕ → FieldReader Piece) (p : Place) (n : ℕ) → IsRow width unit → p.at ≤ n
    → is_more (slot width unit p (first_other width unit (cut n p))) ≡ false
    → released (slot width unit (cut n p) (first_other width unit (cut n p))) ≡ released (slot width unit p (first_other width unit (cut n p)))
    → (judged_units width unit p).units ≡ (judged_units width unit (cut n p)).units
begins_last width unit p n row within other same =
    let last : ℕ = first_other width unit (cut n p) in
    let first : first_other width unit p ≡ last = first_is width unit p last row (good_stays width unit p n row within) other in
    units_are width unit p
    ∙ ap (λ (k : ℕ). flat_map (λ k. released (slot width unit p k)) (range_with_len 0 k) ++ released (slot width unit p k)) first
    ∙ ap (λ (l : List (List ℕ)). l ++ released (slot width unit p last)) (sym (front_same width unit p n row within))
    ∙ ap (λ (l : List (List ℕ)). flat_map (λ k. released (slot width unit (cut n p) k)) (range_with_len 0 last) ++ l) (sym same)
    ∙ sym (units_are width unit (cut n p))

-- a last unit, where it isn't one that another one follows
is_last : (piece : Piece) (early next : Place) → is_more (Read piece early) ≡ false → (is_more (Read piece next) ≡ false) × (released (Read piece early) ≡ released (Read piece next))
is_last (More content) early next h = absurd cc
is_last (Last content) early next h = (refl, refl)

units_front_by : (width : ℕ) (unit : ℕ → FieldReader Piece) (p : Place) (n : ℕ) → IsRow width unit → p.at ≤ n → Cut n (slot width unit p (first_other width unit (cut n p)))
    → Begins (judged_units width unit (cut n p)).units (judged_units width unit p).units
units_front_by width unit p n row within (Unknown e) = begins_before width unit p n row within (ap released (slot_cut width unit p n (first_other width unit (cut n p)) row within (omega arith) ∙ e))
units_front_by width unit p n row within (KnownRefused fault at is e) = begins_before width unit p n row within (ap released (slot_cut width unit p n (first_other width unit (cut n p)) row within (omega arith) ∙ e))
units_front_by width unit p n row within (KnownRead piece next is inside e) =
    let here = slot_cut width unit p n (first_other width unit (cut n p)) row within (omega arith) ∙ e in
    let last = is_last piece (cut n next) next (sym (ap is_more here) ∙ other_at width unit (cut n p) row) in
    record {
      more = [];
      is = begins_last width unit p n row within (ap is_more is ∙ last.0) (ap released here ∙ last.1 ∙ sym (ap released is)) ∙ sym (append-nil (judged_units width unit (cut n p)).units);
    }

-- What was handed out stays, whatever follows.
pub units_front : (width : ℕ) (unit : ℕ → FieldReader Piece) (p : Place) (n : ℕ) → IsRow width unit → p.at ≤ n → Begins (judged_units width unit (cut n p)).units (judged_units width unit p).units
units_front width unit p n row within = units_front_by width unit p n row within (cut_cases n (slot width unit p (first_other width unit (cut n p))))

-- ---- what is whole

is_whole_piece : (piece : Piece) (early : Place) → verdict_of (Read piece early) ≡ Whole → (content : List ℕ) × (piece ≡ Last content)
is_whole_piece (More content) early h = absurd cc
is_whole_piece (Last content) early h = (content, refl)

trails : (content : List ℕ) (next : Place) → 0 < length next.left → verdict_of (Read (Last content) next) ≡ Faulty TrailingBytes
trails content next some = rw (ne_eqb (length next.left) 0 (omega arith)) refl

too_many_by : (width : ℕ) (unit : ℕ → FieldReader Piece) (p : Place) (n : ℕ) → IsRow width unit → p.at ≤ n → Cut n (slot width unit p (first_other width unit (cut n p)))
    → (judged_units width unit (cut n p)).verdict ≡ Whole → n < p.at + length p.left → (judged_units width unit p).verdict ≡ Faulty TrailingBytes
too_many_by width unit p n row within (Unknown e) whole more =
    let no : verdict_of Wanting ≡ Whole = sym (ap verdict_of (slot_cut width unit p n (first_other width unit (cut n p)) row within (omega arith) ∙ e)) ∙ sym (verdict_is width unit (cut n p)) ∙ whole in absurd cc
too_many_by width unit p n row within (KnownRefused fault at is e) whole more =
    let no : verdict_of (Refused fault at) ≡ Whole = sym (ap verdict_of (slot_cut width unit p n (first_other width unit (cut n p)) row within (omega arith) ∙ e)) ∙ sym (verdict_is width unit (cut n p)) ∙ whole in absurd cc
too_many_by width unit p n row within (KnownRead piece next is inside e) whole more =
    let last : ℕ = first_other width unit (cut n p) in
    let here : verdict_of (Read piece (cut n next)) ≡ Whole = sym (ap verdict_of (slot_cut width unit p n last row within (omega arith) ∙ e)) ∙ sym (verdict_is width unit (cut n p)) ∙ whole in
    let ends = is_whole_piece piece (cut n next) here in
    let read : slot width unit p last ≡ Read (Last ends.0) next = is ∙ ap (λ (x : Piece). Read x next) ends.1 in
    let first : first_other width unit p ≡ last = first_is width unit p last row (good_stays width unit p n row within) (ap is_more read) in
    let end : end_of next ≡ end_of (past (last * width) p) = end_stays (unit last) (past (last * width) p) (Last ends.0) next (row.sequential last) read in
    let begun : p.at + last * width ≤ n = reached width unit p n last row within (omega arith) in
    let some : 0 < length next.left = omega (arith, end, length-drop (last * width) p.left) in
    verdict_is width unit p ∙ ap (λ (k : ℕ). verdict_of (slot width unit p k)) first ∙ ap verdict_of read ∙ trails ends.0 next some

-- A byte behind what was whole is a fault.
pub too_many : (width : ℕ) (unit : ℕ → FieldReader Piece) (p : Place) (n : ℕ) → IsRow width unit → p.at ≤ n
    → (judged_units width unit (cut n p)).verdict ≡ Whole → n < p.at + length p.left → (judged_units width unit p).verdict ≡ Faulty TrailingBytes
too_many width unit p n row within whole more = too_many_by width unit p n row within (cut_cases n (slot width unit p (first_other width unit (cut n p)))) whole more

-- A front of what is whole is going.
pub front_going : (width : ℕ) (unit : ℕ → FieldReader Piece) (p : Place) (n : ℕ) → IsRow width unit → p.at ≤ n
    → (judged_units width unit p).verdict ≡ Whole → n < p.at + length p.left → (judged_units width unit (cut n p)).verdict ≡ Going
front_going width unit p n row within whole more = by_verdict (judged_units width unit (cut n p)).verdict refl
  where
    by_verdict : (v : Verdict) → (judged_units width unit (cut n p)).verdict ≡ v → (judged_units width unit (cut n p)).verdict ≡ Going
    by_verdict Going e = e
    by_verdict Whole e = let no : Faulty TrailingBytes ≡ Whole = sym (too_many width unit p n row within e more) ∙ whole in absurd cc
    by_verdict (Faulty fault) e = let no : Faulty fault ≡ Whole = sym e ∙ sym (ap (λ (j : JudgedBody). j.verdict) (fault_stays width unit p n fault row within e)) ∙ whole in absurd cc
