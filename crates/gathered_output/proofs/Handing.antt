-- What becomes of bytes that are gathered, once all are handed on.
use Rattle.std.proofs.Common.{◌≡◌, ℕ, ◌≤◌, List, [], ◌++◌, length, Result, Ok, Err, refl, sym, subst, ap, ◌∙◌, arith}
use Rattle.std.proofs.lemmas.List.{append-nil, append_assoc, length-append}
use Rattle.std.specs.Prelude.{MatchResult}
use Rattle.gathered_output.specs.declared.gathering.Gathering.{Gathering}
use Rattle.gathered_output.specs.Gathering.{FailsAtFirst, Gathers, GatheringFails, GatheringTakes, HandsOn}

module _ {R E : Type 0} (takes : R → R → List ℕ → Type 0) (fails : R → R → List ℕ → E → Type 0) where
  -- the receiver failed at what was held
  pub held_fails : (r s : R) (held bytes : List ℕ) (error : E) → (1 ≤ length held) × fails r s held error → FailsAtFirst fails r s (held ++ bytes) error
  held_fails r s held bytes error failed = record { given = held; rest = bytes; some = failed.0; is = refl; failed = failed.1 }

  module _ (takes_more : (r s t : R) (first second : List ℕ) → takes r s first → takes s t second → takes r t (first ++ second))
      (behind : (r s t : R) (first second : List ℕ) (error : E) → takes r s first → fails s t second error → fails r t (first ++ second) error) where
    -- bytes that aren't held go behind those that were, and none are held
    pub not_held : {T : Type 0} (A : Type 0) (r s t : R) (held after bytes : List ℕ) (result : Result T E) → A → takes r s held → after ≡ [] → HandsOn takes fails bytes s t result
        → MatchResult result (λ _. A × Gathers takes r t held after bytes) (λ error. A × FailsAtFirst fails r t (held ++ bytes) error)
    not_held A r s t held after bytes (Ok done) a took none handed = (
      a,
      record {
        handed = held ++ bytes;
        took = takes_more r s t held bytes took handed;
        left = sym (append-nil (held ++ bytes)) ∙ ap (λ (x : List ℕ). (held ++ bytes) ++ x) (sym none);
      },
    )
    not_held A r s t held after bytes (Err error) a took none handed = (
      a,
      record {
        given = held ++ bytes;
        rest = [];
        some = omega (arith, handed.0, length-append held bytes);
        is = sym (append-nil (held ++ bytes));
        failed = behind r s t held bytes error took handed.1;
      },
    )

    -- ---- from where nothing is held up to a handing on

    module _ (old mid : Gathering R) (new : R) (none : old.gathered.now ≡ []) (bytes : List ℕ) where
      -- the receiver took all bytes
      pub all_taken : GatheringTakes takes old mid bytes → takes mid.output.now new mid.gathered.now → takes old.output.now new bytes
      all_taken gathers took =
          subst (λ (x : List ℕ). takes old.output.now new x) (sym gathers.1.left ∙ ap (λ (x : List ℕ). x ++ bytes) none)
          (takes_more old.output.now mid.output.now new gathers.1.handed mid.gathered.now gathers.1.took took)

      -- or it failed at those that were held
      pub last_fail : (error : E) → GatheringTakes takes old mid bytes → (1 ≤ length mid.gathered.now) × fails mid.output.now new mid.gathered.now error → FailsAtFirst fails old.output.now new bytes error
      last_fail error gathers failed = record {
        given = gathers.1.handed ++ mid.gathered.now;
        rest = [];
        some = omega (arith, failed.0, length-append gathers.1.handed mid.gathered.now);
        is = ap (λ (x : List ℕ). x ++ bytes) (sym none) ∙ gathers.1.left ∙ sym (append-nil (gathers.1.handed ++ mid.gathered.now));
        failed = behind old.output.now mid.output.now new gathers.1.handed mid.gathered.now error gathers.1.took failed.1;
      }

  -- or it failed before
  pub first_fail : (old new : Gathering R) → old.gathered.now ≡ [] → (bytes : List ℕ) (error : E) → GatheringFails fails old new bytes error → FailsAtFirst fails old.output.now new.output.now bytes error
  first_fail old new none bytes error failed = subst (λ (x : List ℕ). FailsAtFirst fails old.output.now new.output.now (x ++ bytes) error) none failed.1

  -- what comes first of some bytes comes first of all that begin with them
  pub front_fails : (r s : R) (bytes first more : List ℕ) (error : E) → bytes ≡ first ++ more → FailsAtFirst fails r s first error → FailsAtFirst fails r s bytes error
  front_fails r s bytes first more error is failed = record {
    given = failed.given;
    rest = failed.rest ++ more;
    some = failed.some;
    is = is ∙ ap (λ (x : List ℕ). x ++ more) failed.is ∙ append_assoc failed.given failed.rest more;
    failed = failed.failed;
  }
