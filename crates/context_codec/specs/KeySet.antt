-- Sets of context keys, as the lists of their keys in order.
use Rattle.std.specs.Prelude.{◌≡◌, ℕ, Bool, true, List, [], ◌∷◌, length}
use Rattle.std.specs.List.{AllAdjacentBelow, list_any, list_all}
use Rattle.std.specs.Ordering.{nat_cmp, match_ordering}
use Rattle.std.specs.declared.cmp.Ordering.TheVariants.{Less}
use Rattle.std.specs.Cmp.Lexicographic.{slice_cmp}
use Rattle.std.specs.Str.{bytes_eq, is_utf8}

-- the keys ascend by their bytes, so that none stands twice
abbrev pub AreAscendingKeys : List (List ℕ) → Type 0
AreAscendingKeys keys = AllAdjacentBelow (λ a b. slice_cmp nat_cmp a b ≡ Less) keys (length keys)

-- What the type of key sets keeps.
pub record IsKeySet (keys : List (List ℕ)) : Type 0 where
  pub ascending : AreAscendingKeys keys
  pub texts : list_all is_utf8 keys ≡ true

-- the key is one of these
abbrev pub has : List (List ℕ) → List ℕ → Bool
has keys key = list_any (bytes_eq key) keys

-- one more key, at its place; a key that is there stays
unfoldable pub with_key : List (List ℕ) → List ℕ → List (List ℕ)
with_key [] key = key ∷ []
with_key (k ∷ keys) key = match_ordering (slice_cmp nat_cmp key k) (key ∷ k ∷ keys) (k ∷ keys)
    (k ∷ with_key keys key)

-- these keys, and more keys one after another
abbrev pub with_keys : List (List ℕ) → List (List ℕ) → List (List ℕ)
with_keys keys [] = keys
with_keys keys (key ∷ more) = with_keys (with_key keys key) more
