-- Counts of failures, and files that stay there.
use Rattle.std.proofs.Common.{◌≡◌, ◌≢◌, ◌<◌, ◌≤◌, ◌+◌, ◌∙◌, ℕ, zero, suc, true, false, List, [], ◌∷◌, length, get_or, set, map, refl, sym, ap, arith}
use Rattle.std.specs.Prelude.{Option, Some, None, is_some, is_none, zip}
use Rattle.std.specs.List.{sum_by}
use Rattle.std.proofs.lemmas.List.Sums.{sum_by-cons}
use Rattle.esdk_fields.specs.Counts.{RoseBy}
use Rattle.esdk_base.specs.Shelf.{Files, file_of, is_missing}
use Rattle.esdk_batch.specs.Files.{Empties, KeepsOthers}

-- ---- counts

-- it rose by nothing
pub rose_none : (before now : ℕ) → before ≤ now → RoseBy 0 before now
rose_none before now later = omega (arith, later)

pub rose_zero : (n before now : ℕ) → n ≡ 0 → before ≤ now → RoseBy n before now
rose_zero n before now none later = omega (arith, none, later)

-- it was less before
pub rose_from : (n first before now : ℕ) → first ≤ before → RoseBy n before now → RoseBy n first now
rose_from n first before now less rose = omega (arith, less, rose)

pub rose_more : (m n total first before now : ℕ) → total ≡ m + n → RoseBy m first before → RoseBy n before now → RoseBy total first now
rose_more m n total first before now is one two = omega (arith, is, one, two)

-- ---- a name that is there

-- a name that holds what it held is there or isn't, as before
pub same_missing : (old new : Option Files) (name : List ℕ) → is_some new ≡ is_some old → file_of new name ≡ file_of old name → is_missing new name ≡ is_missing old name
same_missing None None name told same = refl
same_missing None (Some files) name told same = absurd cc
same_missing (Some files) None name told same = absurd cc
same_missing (Some files) (Some left) name told same = ap is_none same

-- another name than the one that changed is there or isn't, as before
pub kept_missing : (old new : Option Files) (name other : List ℕ) → KeepsOthers old new name → other ≢ name → is_missing new other ≡ is_missing old other
kept_missing old new name other keeps apart = same_missing old new other keeps.tells (keeps.others other apart)

held_there : (files : Option Files) (name bytes : List ℕ) → (is_some files ≡ true → file_of files name ≡ Some bytes) → is_missing files name ≡ false
held_there None name bytes held = refl
held_there (Some files) name bytes held = ap is_none (held refl)

-- what was made to hold nothing is there
pub emptied_there : (old new : Option Files) (name : List ℕ) → Empties old new name → is_missing new name ≡ false
emptied_there old new name empties = held_there new name [] (λ told. empties.this (sym empties.keeps.tells ∙ told))

-- ---- sums over the jobs

-- a sum over two lists, one of which changed at one place, where nothing was added before
pub sum_set : {X P : Type 0} (f : X × P → ℕ) (xs : List X) (ps : List P) (i : ℕ) (x : X) (old new : P) → length ps ≡ length xs → i < length ps → x ≡ get_or xs i x → old ≡ get_or ps i old
    → f (x, old) ≡ 0 → sum_by f (zip xs (set ps i new)) ≡ sum_by f (zip xs ps) + f (x, new)
sum_set f [] [] i x old new each within is was none = absurd (omega (arith, within))
sum_set f [] (p ∷ ps) i x old new each within is was none = absurd (omega (arith, each))
sum_set f (y ∷ xs) [] i x old new each within is was none = absurd (omega (arith, each))
sum_set f (y ∷ xs) (p ∷ ps) zero x old new each within is was none =
    let this : f (y, new) ≡ f (x, new) = ap (λ z. f (z, new)) (sym is) in
    let that : f (y, p) ≡ 0 = ap (λ z. f (z, p)) (sym is) ∙ ap (λ q. f (x, q)) (sym was) ∙ none in
    let first = sum_by-cons f (y, new) (zip xs ps) in
    let last = sum_by-cons f (y, p) (zip xs ps) in
    omega (arith, this, that, first, last)
sum_set f (y ∷ xs) (p ∷ ps) (suc i) x old new each within is was none =
    let first = sum_by-cons f (y, p) (zip xs (set ps i new)) in
    let last = sum_by-cons f (y, p) (zip xs ps) in
    omega (arith, first, last, sum_set f xs ps i x old new (omega (arith, each)) (omega (arith, within)) is was none)

-- nothing is added at any place
pub sum_none : {X : Type 0} (f : X → ℕ) (xs : List X) → ((k : ℕ) (d : X) → k < length xs → f (get_or xs k d) ≡ 0) → sum_by f xs ≡ 0
sum_none f [] none = refl
sum_none f (x ∷ xs) none = omega (arith, sum_by-cons f x xs, none zero x (omega arith), sum_none f xs (λ k d below. none (suc k) d (omega (arith, below))))

pub sum_zip_none : {X P : Type 0} (f : X × P → ℕ) (xs : List X) (ps : List P) → ((x : X) (k : ℕ) (d : P) → k < length ps → f (x, get_or ps k d) ≡ 0) → sum_by f (zip xs ps) ≡ 0
sum_zip_none f [] ps none = refl
sum_zip_none f (x ∷ xs) [] none = refl
sum_zip_none f (x ∷ xs) (p ∷ ps) none = omega (arith, sum_by-cons f (x, p) (zip xs ps), none x zero p (omega arith), sum_zip_none f xs ps (λ y k d below. none y (suc k) d (omega (arith, below))))

-- of a list that was made from another
pub sum_mapped : {X Y : Type 0} (f : X → ℕ) (g : Y → X) (ys : List Y) → sum_by f (map g ys) ≡ sum_by (λ y. f (g y)) ys
sum_mapped f g [] = refl
sum_mapped f g (y ∷ ys) = sum_by-cons f (g y) (map g ys) ∙ ap (λ n. f (g y) + n) (sum_mapped f g ys) ∙ sym (sum_by-cons (λ y. f (g y)) y ys)

pub sum_zip_mapped : {X P Y : Type 0} (f : X × P → ℕ) (g : Y → P) (xs : List X) (ys : List Y) → sum_by f (zip xs (map g ys)) ≡ sum_by (λ (pair : X × Y). f (pair.0, g pair.1)) (zip xs ys)
sum_zip_mapped f g [] ys = refl
sum_zip_mapped f g (x ∷ xs) [] = refl
sum_zip_mapped {X} {P} {Y} f g (x ∷ xs) (y ∷ ys) =
    sum_by-cons f (x, g y) (zip xs (map g ys)) ∙ ap (λ n. f (x, g y) + n) (sum_zip_mapped f g xs ys) ∙ sym (sum_by-cons (λ (pair : X × Y). f (pair.0, g pair.1)) (x, y) (zip xs ys))
