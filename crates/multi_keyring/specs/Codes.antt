-- How the logic stores a forest: as a list of marks, front to back.
use Rattle.std.specs.Prelude.{◌≡◌, ℕ, Bool, List, [], ◌∷◌, ◌++◌, ◌⊎◌, Option, Some, None, refl}
use Rattle.std.specs.Coded.{Coded, code_by, coded×, coded⊎, coded_ℕ, coded_bool, coded_list}
use Rattle.std.specs.Coded.{coded_option}
use Rattle.std.proofs.Common.{ap, ◌∙◌, sym}
use Rattle.std.proofs.lemmas.List.{append_assoc, append-nil}
use mathlib.Core.Logic.{inl, inr}
use Rattle.keyring_trait.specs.Wrapping.{WrapKeyValue}
use Rattle.multi_keyring.specs.Forest.{Forest, Nil, RawThen, HandedThen, MultiThen}

-- the end of a row, or a multi-keyring; or a raw key; or a keyring that was handed in
abbrev pub Mark : Type 0 → Type 0
Mark P = Option Bool ⊎ (WrapKeyValue ⊎ P)

-- the marks of a row
abbrev pub row_marks : {P : Type 0} → Forest P → List (Mark P)
row_marks Nil = inl None ∷ []
row_marks (RawThen key f) = inr (inl key) ∷ row_marks f
row_marks (HandedThen keyring f) = inr (inr keyring) ∷ row_marks f
row_marks (MultiThen has members f) = inl (Some has) ∷ (row_marks members ++ row_marks f)

-- a tree before the first of these rows
abbrev pub before_first : {P : Type 0} → (Forest P → Forest P) → List (Forest P) → List (Forest P)
before_first add [] = []
before_first add (f ∷ fs) = add f ∷ fs

-- a multi-keyring of the first of these rows, before the second
abbrev pub of_first : {P : Type 0} → Bool → List (Forest P) → List (Forest P)
of_first has [] = []
of_first has (members ∷ []) = []
of_first has (members ∷ f ∷ fs) = MultiThen has members f ∷ fs

-- the rows that these marks mean
abbrev pub rows : {P : Type 0} → List (Mark P) → List (Forest P)
rows [] = []
rows (inl None ∷ ms) = Nil ∷ rows ms
rows (inl (Some has) ∷ ms) = of_first has (rows ms)
rows (inr (inl key) ∷ ms) = before_first (RawThen key) (rows ms)
rows (inr (inr keyring) ∷ ms) = before_first (HandedThen keyring) (rows ms)

-- the marks of a row, and others behind them, mean that row and the others' rows
pub rows-marks : {P : Type 0} (f : Forest P) (ms : List (Mark P))
    → rows (row_marks f ++ ms) ≡ f ∷ rows ms
rows-marks Nil ms = refl
rows-marks (RawThen key f) ms = ap (before_first (RawThen key)) (rows-marks f ms)
rows-marks (HandedThen keyring f) ms = ap (before_first (HandedThen keyring)) (rows-marks f ms)
rows-marks (MultiThen has members f) ms =
    ap (λ l. of_first has (rows l)) (append_assoc (row_marks members) (row_marks f) ms)
    ∙ ap (of_first has)
    (rows-marks members (row_marks f ++ ms) ∙ ap (λ r. members ∷ r) (rows-marks f ms))

abbrev pub first_row : {P : Type 0} → List (Forest P) → Forest P
first_row [] = Nil
first_row (f ∷ fs) = f

abbrev pub from_marks : {P : Type 0} → List (Mark P) → Forest P
from_marks ms = first_row (rows ms)

pub from_marks-marks : {P : Type 0} (f : Forest P) → from_marks (row_marks f) ≡ f
from_marks-marks f = ap from_marks (sym (append-nil (row_marks f))) ∙ ap first_row (rows-marks f [])

-- a raw key is stored as its four parts
abbrev pub key_code : Coded WrapKeyValue
key_code =
    code_by (((List ℕ × List ℕ) × List ℕ) × Bool)
    (coded× (coded× (coded× (coded_list coded_ℕ) (coded_list coded_ℕ)) (coded_list coded_ℕ))
    coded_bool)
    (λ w. (((w.namespace, w.name), w.key), w.retired))
    (λ p. record { namespace = p.0.0.0; name = p.0.0.1; key = p.0.1; retired = p.1 })
    (λ _. refl)

-- a forest is stored as its marks
abbrev pub forest_code : {P : Type 0} → Coded P → Coded (Forest P)
forest_code {P = P} code =
    code_by (List (Mark P))
    (coded_list (coded⊎ (coded_option coded_bool) (coded⊎ key_code code)))
    row_marks from_marks from_marks-marks
