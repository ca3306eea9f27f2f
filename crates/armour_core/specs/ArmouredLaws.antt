-- An armoured output keeps the laws of receivers, which an `impl` can cite from specs/ alone.
use Rattle.std.proofs.Common.{◌≡◌, ℕ, ◌+◌, ◌%◌, ◌<◌, List, [], ◌++◌, length, take, drop, sym, subst}
use Rattle.std.proofs.Common.{ap, ◌∙◌, arith}
use Rattle.std.proofs.lemmas.List.{append-nil, append_assoc, length-append, length-take}
use Rattle.std.proofs.lemmas.List.{length-take-le, take-append-drop}
use Rattle.std.proofs.Math.Seq.{drop-append-add, take-append-add}
use Rattle.armour_core.specs.declared.armour.Armour.{Armour}
use Rattle.armour_core.specs.ArmourText.{armour_text}
use Rattle.armour_core.specs.Armouring.{in_full_lines, open_line}
use Rattle.armour_core.specs.ArmouredOutput.{FailsAtLine, TakesLines, full_lines_text}
use Rattle.armour_core.specs.LineLaws.{armour_append, armour_nil}

-- ---- lines

-- fewer bytes than a line
pub short_line : (before : List ℕ) → length before < 57
    → (full_lines_text (before ++ []) ≡ []) × (open_line (before ++ []) ≡ before)
short_line before few =
    let none : in_full_lines (length before) ≡ 0 = omega (arith, few) in (
      ap full_lines_text (append-nil before)
          ∙ ap (λ (n : ℕ). armour_text (take n before)) none ∙ armour_nil,
      ap open_line (append-nil before) ∙ ap (λ (n : ℕ). drop n before) none,
    )

-- behind full lines
behind_lines : (front rest : List ℕ) → length front % 57 ≡ 0
    → (full_lines_text (front ++ rest) ≡ armour_text front ++ full_lines_text rest)
    × (open_line (front ++ rest) ≡ open_line rest)
behind_lines front rest whole =
    let n : ℕ = in_full_lines (length rest) in
    let count : in_full_lines (length (front ++ rest)) ≡ length front + n =
    omega (arith, whole, length-append front rest) in (
      ap (λ (k : ℕ). armour_text (take k (front ++ rest))) count
          ∙ ap armour_text (take-append-add front rest n) ∙ armour_append front (take n rest) whole,
      ap (λ (k : ℕ). drop k (front ++ rest)) count ∙ drop-append-add front rest n,
    )

-- the lines of bytes behind which more come
pub lines_go_on : (before first second : List ℕ)
    → (full_lines_text (before ++ (first ++ second))
    ≡ full_lines_text (before ++ first) ++ full_lines_text (open_line (before ++ first) ++ second))
    × (open_line (before ++ (first ++ second)) ≡ open_line (open_line (before ++ first) ++ second))
lines_go_on before first second =
    let all : List ℕ = before ++ first in
    let n : ℕ = in_full_lines (length all) in
    let size : length (take n all) ≡ n = length-take-le n all (omega arith) in
    let is : before ++ (first ++ second) ≡ take n all ++ (drop n all ++ second) =
    sym (append_assoc before first second)
    ∙ ap (λ (x : List ℕ). x ++ second) (sym (take-append-drop n all))
    ∙ append_assoc (take n all) (drop n all) second in
    let both = behind_lines (take n all) (drop n all ++ second) (omega (arith, size)) in
    (ap full_lines_text is ∙ both.0, ap open_line is ∙ both.1)

-- ---- the laws

module _ {R : Type 0} (takes : R → R → List ℕ → Type 0) where
  pub armoured_none : (r : R) (before : List ℕ) → takes r r [] → length before < 57
      → TakesLines takes r r before before []
  armoured_none r before none few =
      let line = short_line before few in
      record { took = subst (takes r r) (sym line.0) none; left = sym line.1 }

  pub armoured_more : ((r s t : R) (first second : List ℕ)
      → takes r s first → takes s t second → takes r t (first ++ second))
      → (r s t : R) (a b c first second : List ℕ) → TakesLines takes r s a b first
      → TakesLines takes s t b c second → TakesLines takes r t a c (first ++ second)
  armoured_more more r s t a b c first second one two =
      let on = lines_go_on a first second in
      let rest : takes s t (full_lines_text (open_line (a ++ first) ++ second)) =
      subst (λ (x : List ℕ). takes s t (full_lines_text (x ++ second))) one.left two.took in
      record {
        took = subst (takes r t) (sym on.0)
            (more r s t (full_lines_text (a ++ first))
            (full_lines_text (open_line (a ++ first) ++ second)) one.took rest);
        left = two.left ∙ ap (λ (x : List ℕ). open_line (x ++ second)) one.left ∙ sym on.1;
      }

  pub armoured_behind : {E : Type 0} (fails : R → R → List ℕ → E → Type 0)
      → ((r s t : R) (first second : List ℕ) (error : E)
      → takes r s first → fails s t second error → fails r t (first ++ second) error)
      → (r s t : R) (a b first second : List ℕ) (error : E) → TakesLines takes r s a b first
      → FailsAtLine fails s t b second error → FailsAtLine fails r t a (first ++ second) error
  armoured_behind fails behind r s t a b first second error one two =
      let on = lines_go_on a first second in
      let lines : List ℕ = full_lines_text (a ++ first) in record {
        text = lines ++ two.text;
        more = two.more;
        some = omega (arith, two.some, length-append lines two.text);
        is = on.0 ∙ ap (λ (x : List ℕ). lines ++ full_lines_text (x ++ second)) (sym one.left)
            ∙ ap (λ (x : List ℕ). lines ++ x) two.is ∙ sym (append_assoc lines two.text two.more);
        failed = behind r s t lines two.text error one.took two.failed;
      }

-- the open line has fewer bytes than a line
pub few_held : (armour : Armour) → length (take armour.held armour.line) < 57
few_held armour = omega (arith, length-take armour.held armour.line, armour.open)
