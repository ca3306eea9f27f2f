-- Reading the items of a list, one after the other.
use Rattle.std.proofs.Common.{◌≡◌, ◌<◌, ◌≤◌, ◌+◌, ℕ, List, [], ◌∷◌, ◌++◌, length, drop, get_or, refl, sym, ap, ◌∙◌, append_assoc, append-nil}
use Rattle.std.specs.Prelude.{Option, Some, None, Result, Ok, Err}
use Rattle.std.proofs.lemmas.List.{drop_all, drop_more}
use Rattle.serde_json.specs.declared.value.Value.{Value}
use Rattle.serde_json.specs.View.{view, items_view}
use Rattle.esdk_fields.specs.declared.refusals.FileRefusal.{FileRefusal}
use Rattle.esdk_fields.specs.declared.refusals.FileRefusal.TheVariants.{BadShape}
use Rattle.serde_json.specs.Data.{Data}
use Rattle.job_file.specs.Jobs.{then_made, each_from}

-- what was read, behind these
abbrev pub behind : {A E : Type 0} → List A → Result (List A) E → Result (List A) E
behind front (Ok rest) = Ok (front ++ rest)
behind front (Err e) = Err e

pub behind_none : {A E : Type 0} (left : Result (List A) E) → left ≡ behind [] left
behind_none (Ok rest) = refl
behind_none (Err e) = refl

regrouped : {A E : Type 0} (front : List A) (x : A) (left : Result (List A) E) → behind front (behind (x ∷ []) left) ≡ behind (front ++ x ∷ []) left
regrouped front x (Ok rest) = ap Ok (sym (append_assoc front (x ∷ []) rest))
regrouped front x (Err e) = refl

-- what is read of the others, behind this one
behind_one : {A : Type 0} (one : A) (left : Result (List A) FileRefusal) → then_made left (λ others. Ok (one ∷ others)) ≡ behind (one ∷ []) left
behind_one one (Ok others) = refl
behind_one one (Err refusal) = refl

first_read : {A : Type 0} (read : Data → Option A) (number : ℕ) (value : Value) (values : List Value) (one : A) → read (view value) ≡ Some one
    → each_from read number (items_view (value ∷ values)) ≡ behind (one ∷ []) (each_from read (number + 1) (items_view values))
unfolding each_from
first_read read number value values one is = rw is (behind_one one (each_from read (number + 1) (items_view values)))

first_fails : {A : Type 0} (read : Data → Option A) (number : ℕ) (value : Value) (values : List Value) → read (view value) ≡ None
    → each_from read number (items_view (value ∷ values)) ≡ Err (BadShape number)
unfolding each_from
first_fails read number value values is = rw is refl

module _ (values : List Value) (i : ℕ) (value : Value) (lt : i < length values) (is : value ≡ get_or values i value) where
  -- the value at the index, and those behind it
  left_from : drop i values ≡ value ∷ drop (i + 1) values
  left_from = drop_more values i value lt ∙ ap (λ x. x ∷ drop (i + 1) values) (sym is)

  pub one_more : {A : Type 0} (read : Data → Option A) (front : List A) (one : A) (number : ℕ) → read (view value) ≡ Some one
      → behind front (each_from read number (items_view (drop i values))) ≡ behind (front ++ one ∷ []) (each_from read (number + 1) (items_view (drop (i + 1) values)))
  one_more read front one number found =
      ap (λ left. behind front (each_from read number (items_view left))) left_from
      ∙ ap (behind front) (first_read read number value (drop (i + 1) values) one found)
      ∙ regrouped front one (each_from read (number + 1) (items_view (drop (i + 1) values)))

  pub one_fails : {A : Type 0} (read : Data → Option A) (front : List A) (number : ℕ) → read (view value) ≡ None
      → behind front (each_from read number (items_view (drop i values))) ≡ Err (BadShape number)
  one_fails read front number none =
      ap (λ left. behind front (each_from read number (items_view left))) left_from ∙ ap (behind front) (first_fails read number value (drop (i + 1) values) none)

pub all_done : {A : Type 0} (read : Data → Option A) (values : List Value) (i : ℕ) (front : List A) (number : ℕ) → length values ≤ i
    → behind front (each_from read number (items_view (drop i values))) ≡ Ok front
unfolding each_from
all_done read values i front number past = rw (drop_all i values past) (ap Ok (append-nil front))
