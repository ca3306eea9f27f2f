-- A hash that takes its blocks one after another.
use Rattle.std.proofs.Common.{◌≡◌, ℕ, ◌+◌, List, [], ◌∷◌, ◌++◌, length, map, slice_index_or, bit_xor, refl, ap, ◌∙◌, arith}
use Rattle.std.specs.List.{range_with_len}
use Rattle.std.proofs.lemmas.List.{get_or-map, length-map}
use Rattle.std.proofs.lemmas.List.FromFn.{fill_by_all, map-range_with_len_more}
use Rattle.cipher_spec.specs.Ghash.{times, ghash_from}

-- to hash blocks and then more of them is to hash them all
pub ghash_from-append : (h y : ℕ) (xs ys : List ℕ) → ghash_from h y (xs ++ ys) ≡ ghash_from h (ghash_from h y xs) ys
ghash_from-append h y [] ys = refl
ghash_from-append h y (x ∷ xs) ys = ghash_from-append h (times (bit_xor y x) h) xs ys

-- the hash of the blocks f 0, .., f k
pub ghash_from-next : (h y : ℕ) (f : ℕ → ℕ) (k : ℕ) → ghash_from h y (map f (range_with_len 0 (k + 1))) ≡ times (bit_xor (ghash_from h y (map f (range_with_len 0 k))) (f k)) h
ghash_from-next h y f k =
    ap (ghash_from h y) (map-range_with_len_more f 0 k k (omega arith)) ∙ ghash_from-append h y (map f (range_with_len 0 k)) (f k ∷ [])

-- a function on each element of a list, place by place
pub map-by_place : {A B : Type 0} (f : A → B) (xs : List A) (n : ℕ) (d : A) (e : B) → length xs ≡ n → map f xs ≡ map (λ j. f (slice_index_or xs j d)) (range_with_len 0 n)
map-by_place f xs n d e long =
    fill_by_all (λ j. f (slice_index_or xs j d)) (map f xs) n e (length-map xs f ∙ long) (λ k h. get_or-map f xs k d e (omega arith))
