-- Bytes behind what is whole change nothing of what was released.
use Rattle.std.proofs.Common.{◌≡◌, ℕ, ◌+◌, ◌≤◌, false, List, ◌++◌, Option, refl, sym, ap, ◌∙◌, arith}
use Rattle.std.specs.List.{flat_map, range_with_len}
use Rattle.esdk_fields.specs.declared.contents.Content.{Content}
use Rattle.esdk_fields.specs.declared.contents.Content.TheVariants.{Single, Framed}
use Rattle.esdk_fields.specs.Place.{Place, cut}
use Rattle.esdk_fields.specs.Reading.{Read, Refused, Wanting, FieldReader}
use Rattle.frame_codec.specs.Unit.{Piece, More, Last, Under, frame, block_unit}
use Rattle.body_format.specs.declared.verdicts.Verdict.TheVariants.{Whole}
use Rattle.body_format.specs.Rows.{slot, is_more, released, verdict_of, first_other, judged_units, IsRow}
use Rattle.body_format.specs.Body.{beside_content, judged_frames, judged_block, judged_body}
use Rattle.body_format.proofs.BodyRows.{frames_row, block_row}
use Rattle.body_format.proofs.CutReadings.{Cut, Unknown, KnownRead, KnownRefused, cut_cases}
use Rattle.body_format.proofs.RowLaws.{slot_cut, slot_stays, front_same, units_are, verdict_is}
use Rattle.body_format.proofs.Slots.{first_is}

last_released : (piece : Piece) (early next : Place) → verdict_of (Read piece early) ≡ Whole → (is_more (Read piece next) ≡ false) × (released (Read piece next) ≡ released (Read piece early))
last_released (More content) early next h = absurd cc
last_released (Last content) early next h = (refl, refl)

units_by : (width : ℕ) (unit : ℕ → FieldReader Piece) (p : Place) (n : ℕ) → IsRow width unit → p.at ≤ n → Cut n (slot width unit p (first_other width unit (cut n p)))
    → (judged_units width unit (cut n p)).verdict ≡ Whole → (judged_units width unit p).units ≡ (judged_units width unit (cut n p)).units
units_by width unit p n row within (Unknown e) whole =
    let no : verdict_of Wanting ≡ Whole = sym (ap verdict_of (slot_cut width unit p n (first_other width unit (cut n p)) row within (omega arith) ∙ e)) ∙ sym (verdict_is width unit (cut n p)) ∙ whole in absurd cc
units_by width unit p n row within (KnownRefused fault at is e) whole =
    let no : verdict_of (Refused fault at) ≡ Whole = sym (ap verdict_of (slot_cut width unit p n (first_other width unit (cut n p)) row within (omega arith) ∙ e)) ∙ sym (verdict_is width unit (cut n p)) ∙ whole in absurd cc
units_by width unit p n row within (KnownRead piece next is inside e) whole =
    let last : ℕ = first_other width unit (cut n p) in
    let here = slot_cut width unit p n last row within (omega arith) ∙ e in
    let ends = last_released piece (cut n next) next (sym (ap verdict_of here) ∙ sym (verdict_is width unit (cut n p)) ∙ whole) in
    let first : first_other width unit p ≡ last = first_is width unit p last row (λ k h. (slot_stays width unit p n k row within h).more) (ap is_more is ∙ ends.0) in
    units_are width unit p
    ∙ ap (λ (k : ℕ). flat_map (λ k. released (slot width unit p k)) (range_with_len 0 k) ++ released (slot width unit p k)) first
    ∙ ap (λ (l : List (List ℕ)). l ++ released (slot width unit p last)) (sym (front_same width unit p n row within))
    ∙ ap (λ (l : List (List ℕ)). flat_map (λ k. released (slot width unit (cut n p) k)) (range_with_len 0 last) ++ l) (ap released is ∙ ends.1 ∙ sym (ap released here))
    ∙ sym (units_are width unit (cut n p))

rows_units : (width : ℕ) (unit : ℕ → FieldReader Piece) (p : Place) (n : ℕ) → IsRow width unit → p.at ≤ n
    → (judged_units width unit (cut n p)).verdict ≡ Whole → (judged_units width unit p).units ≡ (judged_units width unit (cut n p)).units
rows_units width unit p n row within whole = units_by width unit p n row within (cut_cases n (slot width unit p (first_other width unit (cut n p)))) whole

abbrev under : List ℕ → List ℕ → Under
under key id = record { key = key; id = id }

pub trailing_units : (content : Content) (max_unit : Option ℕ) (key id : List ℕ) (p : Place) (n : ℕ) → p.at ≤ n
    → (judged_body content max_unit key id (cut n p)).verdict ≡ Whole → (judged_body content max_unit key id p).units ≡ (judged_body content max_unit key id (cut n p)).units
unfolding judged_body judged_frames judged_block
trailing_units Single max_unit key id p n within whole = rows_units 1 (λ k. block_unit max_unit key id) p n (block_row max_unit key id) within whole
trailing_units (Framed size) max_unit key id p n within whole = rows_units (size + beside_content) (frame size (under key id)) p n (frames_row size (under key id)) within whole
