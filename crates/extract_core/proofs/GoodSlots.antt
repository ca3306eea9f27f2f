-- What is so of a slot of frames that is good, by the table.
use Rattle.std.proofs.Common.{◌≡◌, ℕ, ◌+◌, ◌*◌, ◌^◌, ◌<◌, ◌≤◌, Bool, true, false, cond, not, ◌&&◌, List, length, take, drop, Option, Some, None, refl, sym, subst, ◌∙◌, arith, inl, inr}
use Rattle.std.specs.Prelude.{nat_lt, ◌==◌}
use Rattle.std.proofs.lemmas.Bool.{cases_lt, eq-eqb, eqb-true, le-ltb, lt-ltb}
use Rattle.std.proofs.lemmas.List.{length-drop, length-take}
use Rattle.esdk_fields.specs.declared.contents.Content.TheVariants.{Framed}
use Rattle.esdk_fields.specs.declared.faults.Fault.{Fault}
use Rattle.esdk_fields.specs.declared.faults.Fault.TheVariants.{TrailingBytes}
use Rattle.esdk_fields.specs.Bytes.{AreBytes}
use Rattle.esdk_fields.specs.Numbers.{from_big_endian}
use Rattle.esdk_fields.specs.Place.{Place, start}
use Rattle.esdk_fields.proofs.Bytes.{AreBytes-drop, AreBytes-take, byte_at}
use Rattle.frame_codec.specs.declared.kinds.UnitKind.TheVariants as kinds
use Rattle.frame_codec.specs.Rows.{number_at}
use Rattle.frame_codec.specs.UnitAad.{unit_aad}
use Rattle.frame_codec.specs.UnitHead.{is_final, unit_head}
use Rattle.frame_codec.specs.Unit.{Under, frame, unit}
use Rattle.body_format.specs.declared.verdicts.Verdict.TheVariants.{Whole, Faulty}
use Rattle.body_format.specs.OneSlot.{IsTabled}
use Rattle.body_format.specs.Body.{beside_content}
use Rattle.body_format.specs.Table.{framed_verdict, good_final, good_regular, slice_at, slot_bytes}
use Rattle.body_format.proofs.FrameTable.{final_content, frame_tabled}
use Rattle.extract_core.specs.Extracted.{OpenBody, last_slot, slot_read}
use Rattle.extract_core.proofs.Heads.{length_opened}
use Rattle.extract_core.proofs.SlotNumbers.{slot_alone}

-- ---- numbers of slots

number_small : (bytes : List ℕ) (n : ℕ) → AreBytes bytes → 4 ≤ length (drop n bytes) → number_at n bytes < 2 ^ 32
unfolding from_big_endian
number_small bytes n fits long =
    let four : List ℕ = take 4 (drop n bytes) in
    let small : AreBytes four = AreBytes-take 4 (drop n bytes) (AreBytes-drop n bytes fits) in
    omega (arith, byte_at four small 0, byte_at four small 1, byte_at four small 2, byte_at four small 3)

-- ---- frames

frame_same : (n : ℕ) (max_unit : Option ℕ) (key id : List ℕ) (k : ℕ) (p : Place) → unit (Framed n) max_unit key id (k + 1) p ≡ frame n (record { key = key; id = id }) k p
unfolding frame unit unit_head
frame_same n max_unit key id k p = refl

abbrev pub under : List ℕ → List ℕ → Under
under key id = record { key = key; id = id }

abbrev pub open_frames : ℕ → Option ℕ → List ℕ → List ℕ → List ℕ → OpenBody
open_frames n max_unit key id bytes = record { content = Framed n; max_unit = max_unit; key = key; id = id; bytes = bytes }

-- a slot that has a number is what the table says of its bytes
pub slot_tabled : (n : ℕ) (max_unit : Option ℕ) (key id bytes : List ℕ) (k : ℕ) → k ≤ last_slot
    → IsTabled n (under key id) k (slot_bytes n bytes k) (slot_read (open_frames n max_unit key id bytes) k)
slot_tabled n max_unit key id bytes k few =
    let u : Under = under key id in
    subst (IsTabled n u k (slot_bytes n bytes k))
    (sym (slot_alone (open_frames n max_unit key id bytes) k few ∙ frame_same n max_unit key id k (start (drop (k * (n + 32)) bytes))))
    (frame_tabled n u k 0 (slot_bytes n bytes k))

-- a test that gives a value holds
test_holds : (b : Bool) (o : Option (List ℕ)) (text : List ℕ) → cond b o None ≡ Some text
    → (b ≡ true) × (o ≡ Some text)
test_holds true o text e = (refl, e)
test_holds false o text e = absurd cc

both : (a b : Bool) → (a && b) ≡ true → (a ≡ true) × (b ≡ true)
both true b e = (refl, e)
both false b e = absurd cc

not_less : (m n : ℕ) (b : Bool) → nat_lt m n ≡ b → not b ≡ true → n ≤ m
not_less m n true e h = absurd cc
not_less m n false e h = elim (cases_lt m n) [
  | inl less ↦ absurd (let no : true ≡ false = sym (lt-ltb m n less) ∙ e in cc)
  | inr within ↦ within
]

not_marked : (m n : ℕ) (b : Bool) → (m == n) ≡ b → not b ≡ true → m ≡ n → ⊥
not_marked m n true e h same = cc
not_marked m n false e h same = let no : true ≡ false = sym (eq-eqb m n same) ∙ e in cc

-- a good slot has a number of four bytes
pub regular_few : (n : ℕ) (u : Under) (k : ℕ) (bytes text : List ℕ) → AreBytes bytes → good_regular n u k bytes ≡ Some text → k < last_slot
unfolding good_regular
regular_few n u k bytes text fits e =
    let there : Bool = not (nat_lt (length bytes) (n + beside_content)) in
    let plain : Bool = not (is_final bytes) in
    let numbered : Bool = number_at 0 bytes == k + 1 in
    let held = test_holds (there && plain && numbered) _ text e in
    let rest = both (there && plain) numbered held.0 in
    let first = both there plain rest.0 in
    let long : n + 32 ≤ length bytes = not_less (length bytes) (n + 32) _ refl first.0 in
    let same : number_at 0 bytes ≡ k + 1 = eqb-true (number_at 0 bytes) (k + 1) rest.1 in
    let small : number_at 0 bytes < 2 ^ 32 = number_small bytes 0 fits (omega (arith, long)) in
    elim (cases_lt k last_slot) [
      | inl less ↦ less
      | inr not_less ↦ absurd (not_marked (number_at 0 bytes) 4294967295 _ refl first.1 (omega (arith, same, small, not_less)))
    ]

-- what is so of a good final slot, up to how many bytes its content has
pub record IsFinalSlot (n k : ℕ) (bytes text : List ℕ) : Type 0 where
  pub long : 24 ≤ length bytes
  pub marked : is_final bytes ≡ true
  pub numbered : (number_at 4 bytes == k + 1) ≡ true
  pub short : nat_lt n (number_at 20 bytes) ≡ false
  pub all : number_at 20 bytes + 40 ≤ length bytes
  pub size : length text ≡ number_at 20 bytes

not_true : (b : Bool) → not b ≡ true → b ≡ false
not_true true e = absurd cc
not_true false e = refl

pub final_slot : (n : ℕ) (u : Under) (k : ℕ) (bytes text : List ℕ) → good_final n u k bytes ≡ Some text
    → IsFinalSlot n k bytes text
unfolding good_final
final_slot n u k bytes text e =
    let size : ℕ = number_at 20 bytes in
    let there : Bool = not (nat_lt (length bytes) 24) in
    let marked : Bool = is_final bytes in
    let numbered : Bool = number_at 4 bytes == k + 1 in
    let short : Bool = not (nat_lt n size) in
    let whole : Bool = not (nat_lt (length bytes) (size + 40)) in
    let held = test_holds (there && marked && numbered && short && whole)
    (final_content n u k bytes) text e in
    let a = both (there && marked && numbered && short) whole held.0 in
    let b = both (there && marked && numbered) short a.0 in
    let c = both (there && marked) numbered b.0 in
    let d = both there marked c.0 in
    let all : size + 40 ≤ length bytes = not_less (length bytes) (size + 40) _ refl a.1 in
    let same = length_opened u.key (slice_at 8 12 bytes) (unit_aad u.id kinds.Final (k + 1) size)
    (slice_at 24 size bytes) (slice_at (24 + size) 16 bytes) text held.1 in
    record {
      long = not_less (length bytes) 24 _ refl d.0;
      marked = d.1;
      numbered = c.1;
      short = not_true (nat_lt n size) b.1;
      all = all;
      size = omega (arith, same, all, length-take size (drop 24 bytes), length-drop 24 bytes);
    }

pub final_few : (n : ℕ) (u : Under) (k : ℕ) (bytes text : List ℕ) → AreBytes bytes
    → good_final n u k bytes ≡ Some text → k ≤ last_slot
final_few n u k bytes text fits e =
    let f = final_slot n u k bytes text e in
    let same : number_at 4 bytes ≡ k + 1 = eqb-true (number_at 4 bytes) (k + 1) f.numbered in
    let small : number_at 4 bytes < 2 ^ 32 =
    number_small bytes 4 fits (omega (arith, f.long, length-drop 4 bytes)) in
    omega (arith, same, small)

-- ---- where the verdict is that all is whole

is_last_line : (b : Bool) (fault : Fault) → cond b Whole (Faulty fault) ≡ Whole → b ≡ true
is_last_line true fault e = refl
is_last_line false fault e = absurd cc

-- a whole body ends with the tag of the final frame
pub whole_ends : (n : ℕ) (u : Under) (k : ℕ) (bytes text : List ℕ) → good_final n u k bytes ≡ Some text
    → framed_verdict n u k bytes ≡ Whole → length bytes ≡ length text + 40
unfolding framed_verdict
whole_ends n u k bytes text good e =
    let f = final_slot n u k bytes text good in
    let size : ℕ = number_at 20 bytes in
    let line : framed_verdict n u k bytes
    ≡ cond (length bytes == size + 40) Whole (Faulty TrailingBytes) =
    rw (
      le-ltb (length bytes) 4 (omega (arith, f.long)),
      f.marked,
      le-ltb (length bytes) 8 (omega (arith, f.long)),
      f.numbered,
      le-ltb (length bytes) 24 f.long,
      f.short,
      le-ltb (length bytes) (size + 40) f.all,
      good,
    ) refl in
    let same = eqb-true (length bytes) (size + 40) (is_last_line _ TrailingBytes (sym line ∙ e)) in
    omega (arith, same, f.size)
