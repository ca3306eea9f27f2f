-- Walking over a row of units, one after another, as a loop does.
use Rattle.std.proofs.Common.{◌≡◌, ℕ, ◌+◌, ◌*◌, ◌<◌, true, false, List, [], ◌∷◌, ◌++◌, refl, sym, ap, ◌∙◌, arith, inl, inr}
use Rattle.std.specs.List.{flat_map, range_with_len}
use Rattle.std.proofs.lemmas.Bool.{cases_lt}
use Rattle.std.proofs.lemmas.List.{append-nil}
use Rattle.esdk_fields.specs.declared.faults.Fault.{Fault}
use Rattle.esdk_fields.specs.Place.{Place, past}
use Rattle.esdk_fields.specs.Reading.{Reading, Read, Refused, Wanting, FieldReader}
use Rattle.frame_codec.specs.Unit.{Piece, More, Last}
use Rattle.body_format.specs.declared.verdicts.Verdict.{Verdict}
use Rattle.body_format.specs.declared.verdicts.Verdict.TheVariants.{Going, Faulty}
use Rattle.body_format.specs.Rows.{slot, is_more, released, behind_last, verdict_of, judged_units, JudgedBody, IsRow}
use Rattle.body_format.proofs.Places.{past_past, past_none}
use Rattle.body_format.proofs.Ranges.{flat_map_one}
use Rattle.body_format.proofs.Slots.{first_is}
use Rattle.body_format.proofs.RowLaws.{same_judged, units_are, verdict_is}

-- The first k units were walked over; others follow each of them, and these are their contents.
pub record Passed (width : ℕ) (unit : ℕ → FieldReader Piece) (p : Place) (k : ℕ) (place : Place) (units : List (List ℕ)) : Type 0 where
  pub place_is : place ≡ past (k * width) p
  pub good : (j : ℕ) → j < k → is_more (slot width unit p j) ≡ true
  pub units_are : units ≡ flat_map (λ j. released (slot width unit p j)) (range_with_len 0 k)

pub passed_none : (width : ℕ) (unit : ℕ → FieldReader Piece) (p : Place) → Passed width unit p 0 p []
passed_none width unit p =
    let e : 0 * width ≡ 0 = omega arith in
    record { place_is = sym (ap (λ (n : ℕ). past n p) e ∙ past_none p); good = λ j h. absurd (omega arith); units_are = refl }

here_is : (width : ℕ) (unit : ℕ → FieldReader Piece) (p : Place) (k : ℕ) (place : Place) (units : List (List ℕ)) (r : Reading Piece) → Passed width unit p k place units → unit k place ≡ r → slot width unit p k ≡ r
here_is width unit p k place units r passed e = sym (ap (unit k) passed.place_is) ∙ e

-- one unit more
pub passed_more : (width : ℕ) (unit : ℕ → FieldReader Piece) (p : Place) (k : ℕ) (place : Place) (units : List (List ℕ)) (content : List ℕ) (next : Place) → IsRow width unit
    → Passed width unit p k place units → unit k place ≡ Read (More content) next → Passed width unit p (k + 1) next (units ++ content ∷ [])
passed_more width unit p k place units content next row passed e =
    let here = here_is width unit p k place units (Read (More content) next) passed e in
    let on : k * width + width ≡ (k + 1) * width = omega arith in
    record {
      place_is = (row.sized k place next content e).1 ∙ ap (past width) passed.place_is ∙ past_past width (k * width) p ∙ ap (λ (n : ℕ). past n p) on;
      good = λ j h. elim (cases_lt j k) [
        | inl before ↦ passed.good j before
        | inr last ↦ (let same : j ≡ k = omega arith in ap (λ (i : ℕ). is_more (slot width unit p i)) same ∙ ap is_more here)
      ];
      units_are = ap (λ (l : List (List ℕ)). l ++ content ∷ []) passed.units_are
          ∙ ap (λ (l : List (List ℕ)). flat_map (λ j. released (slot width unit p j)) (range_with_len 0 k) ++ l) (sym (ap released here))
          ∙ sym (flat_map_one (λ j. released (slot width unit p j)) k);
    }

-- ---- the end

ends : (width : ℕ) (unit : ℕ → FieldReader Piece) (p : Place) (k : ℕ) (units : List (List ℕ)) (place : Place) (r : Reading Piece) → IsRow width unit → Passed width unit p k place units → unit k place ≡ r → is_more r ≡ false
    → judged_units width unit p ≡ record { units = units ++ released r; verdict = verdict_of r }
ends width unit p k units place r row passed e other =
    let here = here_is width unit p k place units r passed e in
    let first = first_is width unit p k row passed.good (ap is_more here ∙ other) in
    same_judged (judged_units width unit p) (record { units = units ++ released r; verdict = verdict_of r })
    (units_are width unit p
    ∙ ap (λ (n : ℕ). flat_map (λ j. released (slot width unit p j)) (range_with_len 0 n) ++ released (slot width unit p n)) first
    ∙ ap (λ (l : List (List ℕ)). l ++ released (slot width unit p k)) (sym passed.units_are)
    ∙ ap (λ (r : Reading Piece). units ++ released r) here)
    (verdict_is width unit p ∙ ap (λ (n : ℕ). verdict_of (slot width unit p n)) first ∙ ap verdict_of here)

pub last_end : (width : ℕ) (unit : ℕ → FieldReader Piece) (p : Place) (k : ℕ) (units : List (List ℕ)) (place : Place) (content : List ℕ) (next : Place) → IsRow width unit → Passed width unit p k place units
    → unit k place ≡ Read (Last content) next → judged_units width unit p ≡ record { units = units ++ content ∷ []; verdict = behind_last next.left }
last_end width unit p k units place content next row passed e = ends width unit p k units place (Read (Last content) next) row passed e refl

abbrev body_as : List (List ℕ) → Verdict → JudgedBody
body_as units verdict = record { units = units; verdict = verdict }

without : (units : List (List ℕ)) (verdict : Verdict) → body_as (units ++ []) verdict ≡ body_as units verdict
without units verdict = ap (λ (l : List (List ℕ)). body_as l verdict) (append-nil units)

pub fault_end : (width : ℕ) (unit : ℕ → FieldReader Piece) (p : Place) (k : ℕ) (units : List (List ℕ)) (place : Place) (fault : Fault) (at : ℕ) → IsRow width unit → Passed width unit p k place units
    → unit k place ≡ Refused fault at → judged_units width unit p ≡ record { units = units; verdict = Faulty fault }
fault_end width unit p k units place fault at row passed e = ends width unit p k units place (Refused fault at) row passed e refl ∙ without units (Faulty fault)

pub wanting_end : (width : ℕ) (unit : ℕ → FieldReader Piece) (p : Place) (k : ℕ) (units : List (List ℕ)) (place : Place) → IsRow width unit → Passed width unit p k place units
    → unit k place ≡ Wanting → judged_units width unit p ≡ record { units = units; verdict = Going }
wanting_end width unit p k units place row passed e = ends width unit p k units place Wanting row passed e refl ∙ without units Going
