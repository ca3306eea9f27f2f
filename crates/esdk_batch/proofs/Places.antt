-- A list that was changed at one place.
use Rattle.std.proofs.Common.{◌≡◌, ◌≢◌, ◌<◌, ◌≤◌, ℕ, zero, suc, List, [], ◌∷◌, ◌++◌, length, take, get_or, set, refl, sym, ap, subst, ◌∙◌, inl, inr, arith, append_assoc, append-nil, length-set, get_or-set_same, get_or-set_other}
use Rattle.std.specs.Prelude.{All, Option, Some, None, zip, filter_map}
use Rattle.std.specs.List.{concat, cons_option}
use Rattle.std.specs.Option.{option_to_list}
use Rattle.std.specs.List.Sorted.{IsPermutation}
use Rattle.std.specs.Io.KnownBytes.{Keeps}
use Rattle.std.proofs.KnownBytes.{Consumes-kept, Consumes-nil, Consumes-trans}
use Rattle.std.proofs.lemmas.Bool.{cases_eq}
use Rattle.std.proofs.lemmas.List.{get_or-take, set-get_or, length-append}
use Rattle.std.proofs.lemmas.List.Sorted.{IsPermutation-append_right, IsPermutation-append_comm}
use Rattle.esdk_base.specs.Streams.{EntropyState}
use Rattle.esdk_batch.specs.Batch.{Draws}

-- ---- what holds at each place

module _ {X : Type 0} (Q : ℕ → X → Type 0) (xs : List X) (i : ℕ) (y : X) (within : i < length xs) where
  pub at_same : Q i y → (k : ℕ) (d : X) → k ≡ i → Q k (get_or (set xs i y) k d)
  at_same here k d same = subst (λ k. Q k (get_or (set xs i y) k d)) (sym same) (subst (Q i) (sym (get_or-set_same xs i y d within)) here)

  pub at_other : (k : ℕ) (d : X) → k ≢ i → Q k (get_or xs k d) → Q k (get_or (set xs i y) k d)
  at_other k d apart there = subst (Q k) (sym (get_or-set_other xs i k y d apart)) there

  pub within_old : (k : ℕ) → k < length (set xs i y) → k < length xs
  within_old k below = subst (λ n. k < n) (length-set xs i y) below

  pub at_places : Q i y → ((k : ℕ) (d : X) → k ≢ i → k < length xs → Q k (get_or xs k d)) → (k : ℕ) (d : X) → k < length (set xs i y) → Q k (get_or (set xs i y) k d)
  at_places here there k d below = elim (cases_eq k i) [
    | inl same ↦ at_same here k d same
    | inr apart ↦ at_other k d apart (there k d apart (within_old k below))
  ]

-- ---- the front

module _ {X : Type 0} (P : X → Type 0) (xs : List X) where
  pub front_at : (n k : ℕ) (d : X) → All P (take n xs) → k < n → k < length xs → P (get_or xs k d)
  front_at n k d all before below = subst P (get_or-take n xs k d before) (all k d (short n xs k before below))
    where
      short : (n : ℕ) (xs : List X) (k : ℕ) → k < n → k < length xs → k < length (take n xs)
      short zero xs k before below = absurd (omega (arith, before))
      short (suc n) [] k before below = absurd (omega (arith, below))
      short (suc n) (x ∷ xs) zero before below = omega arith
      short (suc n) (x ∷ xs) (suc k) before below = omega (arith, short n xs k (omega (arith, before)) (omega (arith, below)))

  pub front_from : (n : ℕ) → ((k : ℕ) (d : X) → k < n → k < length xs → P (get_or xs k d)) → All P (take n xs)
  front_from n at k d below = subst P (sym (get_or-take n xs k d (before n xs k below))) (at k d (before n xs k below) (inside n xs k below))
    where
      before : (n : ℕ) (xs : List X) (k : ℕ) → k < length (take n xs) → k < n
      before zero xs k below = absurd (omega (arith, below))
      before (suc n) [] k below = absurd (omega (arith, below))
      before (suc n) (x ∷ xs) zero below = omega arith
      before (suc n) (x ∷ xs) (suc k) below = omega (arith, before n xs k (omega (arith, below)))

      inside : (n : ℕ) (xs : List X) (k : ℕ) → k < length (take n xs) → k < length xs
      inside zero xs k below = absurd (omega (arith, below))
      inside (suc n) [] k below = absurd (omega (arith, below))
      inside (suc n) (x ∷ xs) zero below = omega arith
      inside (suc n) (x ∷ xs) (suc k) below = omega (arith, inside n xs k (omega (arith, below)))

pub front_set : {X : Type 0} (P : X → Type 0) (xs : List X) (i : ℕ) (y : X) (n : ℕ) → i < length xs → P y → All P (take n xs) → All P (take n (set xs i y))
front_set P xs i y n within here all =
    front_from P (set xs i y) n (λ k d before below. at_places (λ k x. k < n → P x) xs i y within (λ first. here)
    (λ k d apart inside first. front_at P xs n k d all first inside) k d below before)

-- ---- pieces, joined

concat_none : (pieces : List (List ℕ)) → ((k : ℕ) (d : List ℕ) → k < length pieces → get_or pieces k d ≡ []) → concat pieces ≡ []
concat_none [] none = refl
concat_none (piece ∷ pieces) none = (let first : piece ≡ [] = none zero [] (omega arith) in
    ap (λ p. p ++ concat pieces) first ∙ concat_none pieces (λ k d below. none (suc k) d (omega (arith, below))))

-- more at a place behind which no piece has anything
pub concat_last : (pieces : List (List ℕ)) (i : ℕ) (more : List ℕ) → i < length pieces → ((k : ℕ) (d : List ℕ) → i ≤ k → k < length pieces → get_or pieces k d ≡ [])
    → concat (set pieces i (get_or pieces i [] ++ more)) ≡ concat pieces ++ more
concat_last [] i more within none = absurd (omega (arith, within))
concat_last (piece ∷ pieces) zero more within none =
    let here : piece ≡ [] = none zero [] (omega arith) (omega arith) in
    let rest : concat pieces ≡ [] = concat_none pieces (λ k d below. none (suc k) d (omega arith) (omega (arith, below))) in
    ap (λ c. (piece ++ more) ++ c) rest ∙ append-nil (piece ++ more) ∙ ap (λ p. p ++ more) (sym (append-nil piece) ∙ ap (λ c. piece ++ c) (sym rest))
concat_last (piece ∷ pieces) (suc i) more within none =
    ap (λ c. piece ++ c) (concat_last pieces i more (omega (arith, within)) (λ k d from below. none (suc k) d (omega (arith, from)) (omega (arith, below))))
    ∙ sym (append_assoc piece (concat pieces) more)

-- nothing more at a place
pub nothing_more : (pieces : List (List ℕ)) (i : ℕ) (more : List ℕ) → more ≡ [] → set pieces i (get_or pieces i [] ++ more) ≡ pieces
nothing_more pieces i more none = ap (λ m. set pieces i (get_or pieces i [] ++ m)) none ∙ ap (set pieces i) (append-nil (get_or pieces i [])) ∙ set-get_or pieces i []

-- ---- bytes that are drawn

pub drew_none : (entropy : EntropyState) → Draws entropy entropy []
drew_none entropy = record { told = Consumes-nil entropy.to_come; came = sym (append-nil entropy.drawn) }

-- what failed drew none
pub drew_kept : (entropy spent : EntropyState) → Keeps entropy.to_come spent.to_come → spent.drawn ≡ entropy.drawn → Draws entropy spent []
drew_kept entropy spent kept same = record {
  told = Consumes-kept entropy.to_come entropy.to_come spent.to_come [] (Consumes-nil entropy.to_come) kept;
  came = same ∙ sym (append-nil entropy.drawn);
}

-- first these and then those
pub drew_both : (first entropy spent : EntropyState) (bytes more : List ℕ) → Draws first entropy bytes → Draws entropy spent more → Draws first spent (bytes ++ more)
drew_both first entropy spent bytes more before behind = record {
  told = Consumes-trans first.to_come entropy.to_come spent.to_come bytes more before.told behind.told;
  came = behind.came ∙ ap (λ l. l ++ more) before.came ∙ append_assoc first.drawn bytes more;
}

no_more : (xs more : List ℕ) → xs ≡ xs ++ more → more ≡ []
no_more xs [] e = refl
no_more xs (m ∷ more) e = absurd (omega (arith, ap length e, length-append xs (m ∷ more)))

-- where the entropy is as it was, none were
pub drew_same : (entropy : EntropyState) (more : List ℕ) → Draws entropy entropy more → more ≡ []
drew_same entropy more drew = no_more entropy.drawn more drew.came

-- ---- what is found at the places of two lists

found_first : {Y : Type 0} (found : Option Y) (rest : List Y) → cons_option found rest ≡ option_to_list found ++ rest
found_first None rest = refl
found_first (Some y) rest = refl

module _ {X P Y : Type 0} (f : X × P → Option Y) where
  -- more is found at one place than before
  pub finds_more : (xs : List X) (ps : List P) (i : ℕ) (x : X) (old new : P) (more : List Y) → length ps ≡ length xs → i < length ps
      → x ≡ get_or xs i x → old ≡ get_or ps i old → option_to_list (f (x, new)) ≡ option_to_list (f (x, old)) ++ more
      → IsPermutation (filter_map f (zip xs ps) ++ more) (filter_map f (zip xs (set ps i new)))
  finds_more [] [] i x old new more each within is was finds = absurd (omega (arith, within))
  finds_more [] (p ∷ ps) i x old new more each within is was finds = absurd (omega (arith, each))
  finds_more (y ∷ xs) [] i x old new more each within is was finds = absurd (omega (arith, each))
  finds_more (y ∷ xs) (p ∷ ps) zero x old new more each within is was finds =
      let rest = filter_map f (zip xs ps) in
      let here : option_to_list (f (y, new)) ≡ option_to_list (f (y, p)) ++ more =
      subst (λ z. option_to_list (f (z, new)) ≡ option_to_list (f (z, p)) ++ more) is (subst (λ q. option_to_list (f (x, new)) ≡ option_to_list (f (x, q)) ++ more) was finds) in
      let front = option_to_list (f (y, p)) in
      let before : cons_option (f (y, p)) rest ++ more ≡ front ++ (rest ++ more) = ap (λ l. l ++ more) (found_first (f (y, p)) rest) ∙ append_assoc front rest more in
      let behind : cons_option (f (y, new)) rest ≡ front ++ (more ++ rest) = found_first (f (y, new)) rest ∙ ap (λ l. l ++ rest) here ∙ append_assoc front more rest in
      subst (λ l. IsPermutation l (cons_option (f (y, new)) rest)) (sym before)
      (subst (λ l. IsPermutation (front ++ (rest ++ more)) l) (sym behind) (IsPermutation-append_right front (rest ++ more) (more ++ rest) (IsPermutation-append_comm rest more)))
  finds_more (y ∷ xs) (p ∷ ps) (suc i) x old new more each within is was finds =
      let rest = filter_map f (zip xs ps) in
      let later = filter_map f (zip xs (set ps i new)) in
      let front = option_to_list (f (y, p)) in
      let before : cons_option (f (y, p)) rest ++ more ≡ front ++ (rest ++ more) = ap (λ l. l ++ more) (found_first (f (y, p)) rest) ∙ append_assoc front rest more in
      subst (λ l. IsPermutation l (cons_option (f (y, p)) later)) (sym before)
      (subst (λ l. IsPermutation (front ++ (rest ++ more)) l) (sym (found_first (f (y, p)) later))
      (IsPermutation-append_right front (rest ++ more) later (finds_more xs ps i x old new more (omega (arith, each)) (omega (arith, within)) is was finds)))
