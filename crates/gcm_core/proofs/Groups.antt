-- A text that is enciphered part by part.
use Rattle.std.proofs.Common.{◌≡◌, ℕ, ◌+◌, ◌-◌, ◌*◌, ◌/◌, ◌%◌, ◌<◌, ◌≤◌, List, [], ◌++◌, length, take, drop, map, get_or, bit_xor, sym, ap, ◌∙◌, inl, inr, arith, append_assoc, length-append}
use Rattle.std.specs.List.{range_with_len}
use Rattle.std.proofs.Math.Seq.{take-append_seam, drop-append_seam, take-add}
use Rattle.std.proofs.lemmas.Bool.{cases_lt}
use Rattle.std.proofs.lemmas.List.{append-nil, take_all, drop_all, drop-drop, get_or_append_left, get_or-append_right, get_or-map, length-take-le}
use Rattle.std.proofs.lemmas.List.FromFn.{get_or-map-range_with_len, length-map-range_with_len}
use Rattle.cipher_spec.specs.Aes.{aes}
use Rattle.cipher_spec.specs.Gcm.{counter, mask, gctr}
use Rattle.cipher_spec.proofs.GcmLemmas.{length-gctr, get_or-gctr}
use Rattle.gcm_core.specs.Masks.{masked}
use Rattle.gcm_core.proofs.Counting.{mask-past, gctr-masked}

-- block b of n enciphered counter blocks
masks-at : (n : ℕ) (key initial : List ℕ) (masks : List (List ℕ)) (b : ℕ) → masks ≡ map (aes key) (map (counter initial) (range_with_len 0 n)) → b < n → get_or masks b [] ≡ aes key (counter initial b)
masks-at n key initial masks b is h =
    let counters = map (counter initial) (range_with_len 0 n) in
    let long : length counters ≡ n = length-map-range_with_len (counter initial) 0 n in
    ap (λ l. get_or l b []) is ∙ get_or-map (aes key) counters b [] [] (omega arith) ∙ ap (aes key) (get_or-map-range_with_len (counter initial) 0 n b b [] h (omega arith))

-- a byte of n enciphered counter blocks
mask-masks : (n : ℕ) (key initial : List ℕ) (masks : List (List ℕ)) (i : ℕ) → masks ≡ map (aes key) (map (counter initial) (range_with_len 0 n)) → i < 16 * n → get_or (get_or masks (i / 16) []) (i % 16) 0 ≡ mask key initial i
unfolding mask
mask-masks n key initial masks i is h = ap (λ block. get_or block (i % 16) 0) (masks-at n key initial masks (i / 16) is (omega arith))

-- a text to which n enciphered counter blocks were added is what GCTR gives
pub gctr-group : (n : ℕ) (key initial text : List ℕ) (masks : List (List ℕ)) → masks ≡ map (aes key) (map (counter initial) (range_with_len 0 n)) → length text ≤ 16 * n → masked text masks ≡ gctr key initial text
gctr-group n key initial text masks is short =
    let f : ℕ → ℕ = λ i. bit_xor (get_or text i 0) (get_or (get_or masks (i / 16) []) (i % 16) 0) in
    gctr-masked key initial text (masked text masks) (length-map-range_with_len f 0 (length text)) (λ i h. get_or-map-range_with_len f 0 (length text) i i 0 h (omega arith) ∙ ap (bit_xor (get_or text i 0)) (mask-masks n key initial masks i is (omega arith)))

-- GCTR on whole blocks and then on more
pub gctr-append : (key initial xs ys : List ℕ) (m : ℕ) → length xs ≡ 16 * m → gctr key initial (xs ++ ys) ≡ gctr key initial xs ++ gctr key (counter initial m) ys
gctr-append key initial xs ys m long =
    let first = gctr key initial xs in
    let second = gctr key (counter initial m) ys in
    let l1 : length first ≡ 16 * m = length-gctr key initial xs ∙ long in
    let l2 : length second ≡ length ys = length-gctr key (counter initial m) ys in
    sym (gctr-masked key initial (xs ++ ys) (first ++ second) (omega (arith, length-append first second, length-append xs ys)) (λ j h. elim (cases_lt j (16 * m)) [
      | inl below ↦
          get_or_append_left first second 0 j (omega arith) ∙ get_or-gctr key initial xs j (omega arith) ∙ ap (λ b. bit_xor b (mask key initial j)) (sym (get_or_append_left xs ys 0 j (omega arith)))
      | inr above ↦
          let i = j - 16 * m in
          let e : 16 * m + i ≡ j = omega arith in
          let inside : i < length ys = omega (arith, length-append xs ys) in
          get_or-append_right first second (16 * m) j 0 l1 above ∙ get_or-gctr key (counter initial m) ys i inside ∙ ap (λ b. bit_xor b (mask key (counter initial m) i)) (sym (get_or-append_right xs ys (16 * m) j 0 long above)) ∙ ap (bit_xor (get_or (xs ++ ys) j 0)) (mask-past key initial m i ∙ ap (mask key initial) e)
    ]))

-- what is left of a text enciphered up to a
after-enciphered : (key initial old mid : List ℕ) (a : ℕ) → a ≤ length old → mid ≡ gctr key initial (take a old) ++ drop a old → drop a mid ≡ drop a old
after-enciphered key initial old mid a inside is =
    let before = gctr key initial (take a old) in
    let size : length before ≡ a = length-gctr key initial (take a old) ∙ length-take-le a old inside in
    ap (drop a) is ∙ ap (λ n. drop n (before ++ drop a old)) (sym size) ∙ drop-append_seam before (drop a old)

-- n bytes more of the ciphertext of a text enciphered up to a
pub gctr-more : (key initial old mid : List ℕ) (a n m : ℕ) → a ≡ 16 * m → a + n ≤ length old → mid ≡ gctr key initial (take a old) ++ drop a old → gctr key initial (take (a + n) old) ≡ gctr key initial (take a old) ++ gctr key (counter initial m) (take n (drop a mid))
gctr-more key initial old mid a n m whole inside is =
    let back = after-enciphered key initial old mid a (omega arith) is in
    let long : length (take a old) ≡ 16 * m = length-take-le a old (omega arith) ∙ whole in
    ap (gctr key initial) (take-add a n old) ∙ gctr-append key initial (take a old) (take n (drop a old)) m long ∙ ap (λ l. gctr key initial (take a old) ++ gctr key (counter initial m) (take n l)) (sym back)

-- a text enciphered up to a, and then in n bytes more
pub gctr-further : (key initial old mid new : List ℕ) (a n m : ℕ) → a ≡ 16 * m → a + n ≤ length old → mid ≡ gctr key initial (take a old) ++ drop a old → new ≡ take a mid ++ (gctr key (counter initial m) (take n (drop a mid)) ++ drop n (drop a mid)) → new ≡ gctr key initial (take (a + n) old) ++ drop (a + n) old
gctr-further key initial old mid new a n m whole inside is step =
    let before = gctr key initial (take a old) in
    let part = gctr key (counter initial m) (take n (drop a mid)) in
    let size : length before ≡ a = length-gctr key initial (take a old) ∙ length-take-le a old (omega arith) in
    let front : take a mid ≡ before = ap (take a) is ∙ ap (λ n. take n (before ++ drop a old)) (sym size) ∙ take-append_seam before (drop a old) in
    let rest : drop n (drop a mid) ≡ drop (a + n) old = ap (drop n) (after-enciphered key initial old mid a (omega arith) is) ∙ drop-drop n a old in
    step ∙ ap (λ l. l ++ (part ++ drop n (drop a mid))) front ∙ ap (λ l. before ++ (part ++ l)) rest ∙ sym (append_assoc before part (drop (a + n) old)) ∙ ap (λ l. l ++ drop (a + n) old) (sym (gctr-more key initial old mid a n m whole inside is))

-- the same, where it is enciphered to its end
pub gctr-last : (key initial old mid new : List ℕ) (a n m : ℕ) → a ≡ 16 * m → a + n ≡ length old → mid ≡ gctr key initial (take a old) ++ drop a old → new ≡ take a mid ++ (gctr key (counter initial m) (take n (drop a mid)) ++ drop n (drop a mid)) → new ≡ gctr key initial old
gctr-last key initial old mid new a n m whole all is step =
    let done = gctr-further key initial old mid new a n m whole (omega arith) is step in
    done ∙ rw (take_all (a + n) old (omega arith), drop_all (a + n) old (omega arith)) (append-nil (gctr key initial old))
