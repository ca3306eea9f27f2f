-- A receiver that gathers keeps the laws of receivers, which an `impl` can cite from specs/ alone.
use Rattle.std.proofs.Common.{◌≡◌, ℕ, List, [], ◌++◌, refl, sym, ap, ◌∙◌, arith}
use Rattle.std.proofs.lemmas.List.{append-nil, append_assoc, length-append}
use Rattle.gathered_output.specs.declared.gathering.Gathering.{Gathering}
use Rattle.gathered_output.specs.Gathering.{GatheringFails, GatheringTakes}
use Rattle.gathered_output.specs.Gathering.{IsSameGathering}

-- bytes behind those that were handed on and those that were held then
goes_on : (a b handed first second : List ℕ) → a ++ first ≡ handed ++ b
    → a ++ (first ++ second) ≡ handed ++ (b ++ second)
goes_on a b handed first second is =
    sym (append_assoc a first second) ∙ ap (λ (x : List ℕ). x ++ second) is
    ∙ append_assoc handed b second

same_on : {R : Type 0} (r s t : Gathering R) → IsSameGathering r s → IsSameGathering s t
    → IsSameGathering r t
same_on r s t one two =
    record { output = two.output ∙ one.output; gathered = two.gathered ∙ one.gathered }

module _ {R : Type 0} (takes : R → R → List ℕ → Type 0) where
  pub gathers_none : ((r : R) → takes r r []) → (r : Gathering R) → GatheringTakes takes r r []
  gathers_none none r = (
    record { output = refl; gathered = refl },
    record { handed = []; took = none r.output.now; left = append-nil r.gathered.now },
  )

  pub gathers_more : ((r s t : R) (first second : List ℕ)
      → takes r s first → takes s t second → takes r t (first ++ second))
      → (r s t : Gathering R) (first second : List ℕ) → GatheringTakes takes r s first
      → GatheringTakes takes s t second → GatheringTakes takes r t (first ++ second)
  gathers_more more r s t first second one two = (
    same_on r s t one.0 two.0,
    record {
      handed = one.1.handed ++ two.1.handed;
      took = more r.output.now s.output.now t.output.now one.1.handed two.1.handed one.1.took
          two.1.took;
      left = goes_on r.gathered.now s.gathered.now one.1.handed first second one.1.left
          ∙ ap (λ (x : List ℕ). one.1.handed ++ x) two.1.left
          ∙ sym (append_assoc one.1.handed two.1.handed t.gathered.now);
    },
  )

  pub gathers_behind : {E : Type 0} (fails : R → R → List ℕ → E → Type 0)
      → ((r s t : R) (first second : List ℕ) (error : E)
      → takes r s first → fails s t second error → fails r t (first ++ second) error)
      → (r s t : Gathering R) (first second : List ℕ) (error : E) → GatheringTakes takes r s first
      → GatheringFails fails s t second error → GatheringFails fails r t (first ++ second) error
  gathers_behind fails behind r s t first second error one two = (
    same_on r s t one.0 two.0,
    record {
      given = one.1.handed ++ two.1.given;
      rest = two.1.rest;
      some = omega (arith, two.1.some, length-append one.1.handed two.1.given);
      is = goes_on r.gathered.now s.gathered.now one.1.handed first second one.1.left
          ∙ ap (λ (x : List ℕ). one.1.handed ++ x) two.1.is
          ∙ sym (append_assoc one.1.handed two.1.given two.1.rest);
      failed = behind r.output.now s.output.now t.output.now one.1.handed two.1.given error
          one.1.took two.1.failed;
    },
  )
