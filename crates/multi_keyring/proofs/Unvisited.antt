-- What a loop that goes over a list, and changes only the element that it is at, hasn't come to.
use Rattle.std.proofs.Common.{◌≡◌, ℕ, ◌+◌, ◌≤◌, List, length, slice_index_or, slice_set, ◌∙◌, arith}
use Rattle.std.proofs.lemmas.List.{length-set, get_or-set_other}

-- the elements from this index on are as they were in the old list
abbrev pub AreUnvisited : {X : Type 0} → ℕ → List X → List X → Type 0
AreUnvisited {X = X} i now old = (length now ≡ length old) × ((k : ℕ) (d : X) → i ≤ k → slice_index_or now k d ≡ slice_index_or old k d)

-- so are those behind it, when one is put at the index
pub still_unvisited : {X : Type 0} (now old : List X) (i : ℕ) (x : X) → AreUnvisited i now old → AreUnvisited (i + 1) (slice_set now i x) old
still_unvisited now old i x before = (
  length-set now i x ∙ before.0,
  λ k d behind. get_or-set_other now i k x d (λ same. omega (arith, behind, same)) ∙ before.1 k d (omega (arith, behind)),
)
