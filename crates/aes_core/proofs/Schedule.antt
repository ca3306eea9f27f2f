-- The steps of the loops that make the key schedule and its round keys.
use Rattle.std.proofs.Common.{◌≡◌, ℕ, suc, ◌+◌, ◌-◌, ◌*◌, ◌<◌, ◌≤◌, List, [], ◌∷◌, length, map, take, get_or, refl, sym, ap, ◌∙◌, arith, add-zero}
use Rattle.std.proofs.Math.ListN.{set, length-set}
use Rattle.std.specs.List.{range_with_len}
use Rattle.std.proofs.lemmas.List.{take_more_set, take_all, get_or-take}
use Rattle.std.proofs.lemmas.List.FromFn.{map-range_with_len_more}
use Rattle.cipher_spec.specs.Aes.{words, key_expansion, changed, add_word, round_key}

-- the words below i are the key's, and there is room for 60
abbrev pub IsBegun : List ℕ → List (List ℕ) → ℕ → Type 0
IsBegun key w i = record { done : take i w ≡ words key (i - 8); long : length w ≡ 60 }

next_is : (key : List ℕ) (w : List (List ℕ)) (n i : ℕ) (y : List ℕ) → i ≡ n + 8 → i < length w → take i w ≡ words key n
    → y ≡ add_word (get_or w (i - 8) []) (changed i (get_or w (i - 1) [])) → take (i + 1) (set w i y) ≡ words key (suc n)
unfolding words
next_is key w n i y e h d is =
    let old : get_or (take i w) (i - 8) [] ≡ get_or w (i - 8) [] = get_or-take i w (i - 8) [] (omega arith) in
    let last : get_or (take i w) (i - 1) [] ≡ get_or w (i - 1) [] = get_or-take i w (i - 1) [] (omega arith) in
    take_more_set w i y h ∙ rw (← e, ← d, old, last, is) refl

pub one_more : (key : List ℕ) (w : List (List ℕ)) (i : ℕ) (y : List ℕ) → 8 ≤ i → i < 60 → length w ≡ 60 → take i w ≡ words key (i - 8)
    → y ≡ add_word (get_or w (i - 8) []) (changed i (get_or w (i - 1) [])) → IsBegun key (set w i y) (i + 1)
one_more key w i y low high long done is =
    let e : suc (i - 8) ≡ i + 1 - 8 = omega arith in
    record {
      done = next_is key w (i - 8) i y (omega arith) (omega arith) done is ∙ ap (words key) e;
      long = length-set w i y ∙ long;
    }

pub whole : (key : List ℕ) (w : List (List ℕ)) (i : ℕ) → i ≡ 60 → length w ≡ 60 → take i w ≡ words key (i - 8) → w ≡ key_expansion key
unfolding key_expansion
whole key w i e long done =
    let f : i - 8 ≡ 52 = omega arith in
    sym (take_all i w (omega arith)) ∙ done ∙ ap (words key) f

-- the keys below r are those of the words, and there is room for 15
abbrev pub AreCut : List (List ℕ) → List (List ℕ) → ℕ → Type 0
AreCut w keys r = record { done : take r keys ≡ map (round_key w) (range_with_len 0 r); long : length keys ≡ 15 }

pub one_key_more : (w keys : List (List ℕ)) (r : ℕ) (y : List ℕ) → r < 15 → length keys ≡ 15 → take r keys ≡ map (round_key w) (range_with_len 0 r)
    → y ≡ round_key (get_or w (4 * r) [] ∷ get_or w (4 * r + 1) [] ∷ get_or w (4 * r + 2) [] ∷ get_or w (4 * r + 3) [] ∷ []) 0
    → AreCut w (set keys r y) (r + 1)
one_key_more w keys r y low long done is =
    let h : r < length keys = omega arith in
    let first : 4 * r + 0 ≡ 4 * r = add-zero (4 * r) in
    let here : y ≡ round_key w r = is ∙ rw first refl in
    record {
      done = take_more_set keys r y h ∙ rw (done, here) (sym (map-range_with_len_more (round_key w) 0 r r (omega arith)));
      long = length-set keys r y ∙ long;
    }

pub all_keys : (w keys : List (List ℕ)) (r : ℕ) → r ≡ 15 → length keys ≡ 15 → take r keys ≡ map (round_key w) (range_with_len 0 r) → keys ≡ map (round_key w) (range_with_len 0 15)
all_keys w keys r e long done =
    sym (take_all r keys (omega arith)) ∙ done ∙ ap (λ n. map (round_key w) (range_with_len 0 n)) e
