-- What stands behind the last slot of a whole body: at most eight bytes, and no unit.
use Rattle.std.proofs.Common.{◌≡◌, ◌⊎◌, ℕ, ◌+◌, ◌*◌, ◌<◌, ◌≤◌, false, List, [], length, drop, Option, Some, refl, sym, ap, subst, arith, inl, inr, mul-le-mul_right}
use Rattle.std.proofs.lemmas.Bool.{cases_lt}
use Rattle.std.proofs.lemmas.List.{length-drop}
use Rattle.esdk_fields.specs.declared.contents.Content.TheVariants.{Framed}
use Rattle.esdk_fields.specs.declared.faults.Fault.{Fault}
use Rattle.esdk_fields.specs.declared.faults.Fault.TheVariants.{Truncated, WrongSequence}
use Rattle.esdk_fields.specs.Place.{start}
use Rattle.esdk_fields.specs.Reading.{Reading, Refused, Wanting, then_read}
use Rattle.frame_codec.specs.declared.unit_heads.UnitHead.{UnitHead}
use Rattle.frame_codec.specs.UnitHead.{frame_start, unit_head}
use Rattle.frame_codec.specs.Unit.{Piece, unit}
use Rattle.frame_codec.proofs.Steps.{after_head}
use Rattle.frame_codec.proofs.Ways.{Short, Other, Numbered, Regular, Marked, FinalOther, FinalNumbered, FinalLong, Final, frame_way}
use Rattle.body_format.specs.Rows.{is_more}
use Rattle.extract_core.specs.Extracted.{OpenBody, last_slot, slot_read, unit_content, unit_fault}
use Rattle.extract_core.proofs.GoodSlots.{open_frames}
use Rattle.extract_core.proofs.SlotNumbers.{slot_alone, slot_behind}

-- ---- a few bytes

-- These bytes have another number where the frame's stands.
pub record HasOtherNumber (want : ℕ) (bytes : List ℕ) (fault : Fault) : Type 0 where
  pub got : ℕ
  pub is : fault ≡ WrongSequence want got
  pub long : 4 ≤ length bytes

-- What is read is no unit: it's cut, or has another number.
pub record IsNoUnit (want : ℕ) (bytes : List ℕ) (r : Reading Piece) : Type 0 where
  pub other : is_more r ≡ false
  pub empty : unit_content r ≡ []
  pub fault : Fault
  pub is : unit_fault r ≡ Some fault
  pub because : (fault ≡ Truncated) ⊎ HasOtherNumber want bytes fault

wanting_is_none : (want : ℕ) (bytes : List ℕ) → IsNoUnit want bytes Wanting
wanting_is_none want bytes =
    record { other = refl; empty = refl; fault = Truncated; is = refl; because = inl refl }

refused_is_none : (want got at : ℕ) (bytes : List ℕ) → 4 ≤ length bytes
    → IsNoUnit want bytes (Refused (WrongSequence want got) at)
refused_is_none want got at bytes long = record {
  other = refl;
  empty = refl;
  fault = WrongSequence want got;
  is = refl;
  because = inr (record { got = got; is = refl; long = long });
}

-- a frame whose number is read so
frame_by : (n want : ℕ) (max_unit : Option ℕ) (key id bytes : List ℕ) (r : Reading UnitHead)
    → frame_start want n (start bytes) ≡ r
    → unit (Framed n) max_unit key id want (start bytes) ≡ then_read r (after_head key id)
unfolding unit unit_head
frame_by n want max_unit key id bytes r e =
    ap (λ (r : Reading UnitHead). then_read r (after_head key id)) e

eight_are_none : (n want : ℕ) (max_unit : Option ℕ) (key id bytes : List ℕ) → length bytes ≤ 8
    → IsNoUnit want bytes (unit (Framed n) max_unit key id want (start bytes))
eight_are_none n want max_unit key id bytes few =
    elim (frame_way want n bytes) [
      | Short short is ↦ cut (is 0)
      | Other long unmarked other is ↦ refused _ _ long (is 0)
      | Numbered long short unmarked same is ↦ cut (is 0)
      | Regular long unmarked same is ↦ absurd (omega (arith, long, few))
      | Marked long short marked is ↦ cut (is 0)
      | FinalOther long marked other is ↦ refused _ _ (omega (arith, long)) (is 0)
      | FinalNumbered long short marked same is ↦ cut (is 0)
      | FinalLong long marked same over is ↦ absurd (omega (arith, long, few))
      | Final long marked same within is ↦ absurd (omega (arith, long, few))
    ]
  where
    cut : frame_start want n (start bytes) ≡ Wanting
        → IsNoUnit want bytes (unit (Framed n) max_unit key id want (start bytes))
    cut e = subst (IsNoUnit want bytes) (sym (frame_by n want max_unit key id bytes Wanting e))
        (wanting_is_none want bytes)

    refused : (got at : ℕ) → 4 ≤ length bytes
        → frame_start want n (start bytes) ≡ Refused (WrongSequence want got) at
        → IsNoUnit want bytes (unit (Framed n) max_unit key id want (start bytes))
    refused got at long e =
        subst (IsNoUnit want bytes)
        (sym (frame_by n want max_unit key id bytes (Refused (WrongSequence want got) at) e))
        (refused_is_none want got at bytes long)

-- ---- behind the last slot

-- how many bytes stand behind the last slot, whose content has so many
few_left : (n last k size : ℕ) (bytes : List ℕ) → size ≤ n → last < k
    → length bytes ≡ last * (n + 32) + size + 40 → length (drop (k * (n + 32)) bytes) ≤ 8
few_left n last k size bytes short behind long =
    let up : (last + 1) * (n + 32) ≤ k * (n + 32) = mul-le-mul_right (n + 32) (omega (arith, behind)) in
    let on : (last + 1) * (n + 32) ≡ last * (n + 32) + (n + 32) = omega arith in
    omega (arith, length-drop (k * (n + 32)) bytes, up, on, long, short)

-- Four of them stand only in the next slot, where the last one is full, or lacks no more.
pub next_full : (n last k size : ℕ) (bytes : List ℕ) → size ≤ n → last < k
    → length bytes ≡ last * (n + 32) + size + 40 → 4 ≤ length (drop (k * (n + 32)) bytes)
    → (k ≡ last + 1) × (n ≤ size + 4)
next_full n last k size bytes short behind long four =
    let left = length-drop (k * (n + 32)) bytes in
    let up : (last + 1) * (n + 32) ≤ k * (n + 32) = mul-le-mul_right (n + 32) (omega (arith, behind)) in
    let on : (last + 1) * (n + 32) ≡ last * (n + 32) + (n + 32) = omega arith in (
      elim (cases_lt (last + 1) k) [
        | inl far ↦
            (let up_far : (last + 2) * (n + 32) ≤ k * (n + 32) =
            mul-le-mul_right (n + 32) (omega (arith, far)) in
            let on_far : (last + 2) * (n + 32) ≡ last * (n + 32) + (n + 32) + (n + 32) =
            omega arith in
            absurd (omega (arith, left, up_far, on_far, long, short, four)))
        | inr near ↦ omega (arith, near, behind)
      ],
      omega (arith, left, up, on, long, four),
    )

abbrev bytes_from : ℕ → List ℕ → ℕ → List ℕ
bytes_from n bytes k = drop (k * (n + 32)) bytes

-- no unit stands in a slot behind the last one
pub none_stands : (n : ℕ) (max_unit : Option ℕ) (key id bytes : List ℕ) (last k size : ℕ)
    → size ≤ n → last < k → length bytes ≡ last * (n + 32) + size + 40
    → IsNoUnit (k + 1) (bytes_from n bytes k) (slot_read (open_frames n max_unit key id bytes) k)
none_stands n max_unit key id bytes last k size short behind long =
    let b : OpenBody = open_frames n max_unit key id bytes in
    let there : List ℕ = bytes_from n bytes k in
    elim (cases_lt last_slot k) [
      | inl beyond ↦ subst (IsNoUnit (k + 1) there) (sym (slot_behind b k beyond))
          (wanting_is_none (k + 1) there)
      | inr numbered ↦ subst (IsNoUnit (k + 1) there) (sym (slot_alone b k numbered))
          (eight_are_none n (k + 1) max_unit key id there
          (few_left n last k size bytes short behind long))
    ]
