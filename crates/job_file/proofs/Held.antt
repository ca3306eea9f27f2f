-- Keys that pass a test, and one more.
use Rattle.std.proofs.Common.{◌≡◌, ℕ, Bool, true, false, List, [], ◌∷◌, refl, sym, ◌∙◌}
use Rattle.std.specs.Prelude.{◌&&◌}
use Rattle.std.specs.List.{list_all}
use Rattle.std.specs.Ordering.{nat_cmp, match_ordering}
use Rattle.std.specs.declared.cmp.Ordering.{Ordering}
use Rattle.std.specs.declared.cmp.Ordering.TheVariants.{Less, Equal, Greater}
use Rattle.std.specs.Cmp.Lexicographic.{slice_cmp}
use Rattle.context_codec.specs.KeySet.{with_key}

both : (a b : Bool) → a ≡ true → b ≡ true → (a && b) ≡ true
both true true one two = refl
both true false one two = absurd cc
both false b one two = absurd cc

first : (a b : Bool) → (a && b) ≡ true → a ≡ true
first true b e = refl
first false b e = absurd cc

second : (a b : Bool) → (a && b) ≡ true → b ≡ true
second true b e = e
second false b e = absurd cc

module _ (test : List ℕ → Bool) where
  at_place : (order : Ordering) (key k : List ℕ) (keys more : List (List ℕ)) → test key ≡ true → list_all test (k ∷ keys) ≡ true → list_all test more ≡ true
      → list_all test (match_ordering order (key ∷ k ∷ keys) (k ∷ keys) (k ∷ more)) ≡ true
  at_place Less key k keys more passes all rest = both (test key) (list_all test (k ∷ keys)) passes all
  at_place Equal key k keys more passes all rest = all
  at_place Greater key k keys more passes all rest = both (test k) (list_all test more) (first (test k) (list_all test keys) all) rest

  pub one_more_passes : (keys : List (List ℕ)) (key : List ℕ) → list_all test keys ≡ true → test key ≡ true → list_all test (with_key keys key) ≡ true
  unfolding with_key
  one_more_passes [] key all passes = both (test key) true passes refl
  one_more_passes (k ∷ keys) key all passes =
      at_place (slice_cmp nat_cmp key k) key k keys (with_key keys key) passes all (one_more_passes keys key (second (test k) (list_all test keys) all) passes)

-- a key that is required is held
pub required_is_held : (fresh held test : Bool) → test ≡ (fresh && held) → test ≡ true → held ≡ true
required_is_held fresh held test is passes = second fresh held (sym is ∙ passes)
