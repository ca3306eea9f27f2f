-- Counter blocks, and the bytes that they add to a text.
use Rattle.std.proofs.Common.{◌≡◌, ℕ, zero, suc, ◌+◌, ◌-◌, ◌*◌, ◌/◌, ◌%◌, ◌^◌, ◌<◌, ◌≤◌, List, ◌++◌, length, get_or, bit_xor, refl, sym, ap, ◌∙◌, subst, inl, inr, arith}
use Rattle.std.specs.Int.{w32, to_be_bytes}
use Rattle.std.proofs.lemmas.Bool.{cases_lt}
use Rattle.std.proofs.lemmas.List.FromFn.{fill_by_all}
use Rattle.cipher_spec.specs.Aes.{aes}
use Rattle.cipher_spec.specs.Gcm.{inc32, counter, mask, gctr, pre_counter, cipher_of}
use Rattle.aes_core.proofs.CounterBlocks.{counter-later, inc32-count}

-- counting goes on from any counter block
pub counter-add : (initial : List ℕ) (m k : ℕ) → counter (counter initial m) k ≡ counter initial (m + k)
counter-add initial m zero =
    let e : m ≡ m + 0 = omega arith in
    ap (counter initial) e
counter-add initial m (suc k) =
    let e : suc (m + k) ≡ m + suc k = omega arith in
    ap inc32 (counter-add initial m k) ∙ ap (counter initial) e

-- the counter block of the next group, where a group has n blocks
pub counter-next : (iv initial : List ℕ) (count k n m : ℕ) → length iv ≡ 12 → count < 2 ^ 32 → iv ++ to_be_bytes w32 count ≡ counter initial k → k + n ≡ m → iv ++ to_be_bytes w32 ((count + n) % 2 ^ 32) ≡ counter initial m
counter-next iv initial count k n m long fits is e =
    counter-later iv count n long fits ∙ ap (λ block. counter block n) is ∙ counter-add initial k n ∙ ap (counter initial) e

-- what is added to byte i of block k
pub mask-at : (key initial : List ℕ) (k i : ℕ) → i < 16 → mask key initial (16 * k + i) ≡ get_or (aes key (counter initial k)) i 0
unfolding mask
mask-at key initial k i h =
    let d : (16 * k + i) / 16 ≡ k = omega arith in
    let m : (16 * k + i) % 16 ≡ i = omega arith in
    rw (d, m) refl

-- what is added to byte n past block m
pub mask-past : (key initial : List ℕ) (m n : ℕ) → mask key (counter initial m) n ≡ mask key initial (16 * m + n)
unfolding mask
mask-past key initial m n =
    let d : (16 * m + n) / 16 ≡ m + n / 16 = omega arith in
    let e : (16 * m + n) % 16 ≡ n % 16 = omega arith in
    rw (d, e, counter-add initial m (n / 16)) refl

-- a text to which f was added up to block k, and then in n bytes of that block
pub added_further : (f : ℕ → ℕ) (old mid new block : List ℕ) (k n : ℕ) → n ≤ 16 → ((i : ℕ) → i < 16 → get_or block i 0 ≡ f (16 * k + i)) → ((j : ℕ) → j < 16 * k → get_or mid j 0 ≡ bit_xor (get_or old j 0) (f j)) → ((j : ℕ) → 16 * k ≤ j → get_or mid j 0 ≡ get_or old j 0) → ((j : ℕ) → j < 16 * k → get_or new j 0 ≡ get_or mid j 0) → ((i : ℕ) → i < n → get_or new (16 * k + i) 0 ≡ bit_xor (get_or mid (16 * k + i) 0) (get_or block i 0)) → (j : ℕ) → j < 16 * k + n → get_or new j 0 ≡ bit_xor (get_or old j 0) (f j)
added_further f old mid new block k n few is done left before there j h =
    elim (cases_lt j (16 * k)) [
      | inl below ↦ before j below ∙ done j below
      | inr above ↦
          let i = j - 16 * k in
          let e : 16 * k + i ≡ j = omega arith in
          let P : ℕ → Type 0 = λ j. get_or new j 0 ≡ bit_xor (get_or old j 0) (f j) in
          subst P e (there i (omega arith) ∙ ap (λ b. bit_xor b (get_or block i 0)) (left (16 * k + i) (omega arith)) ∙ ap (bit_xor (get_or old (16 * k + i) 0)) (is i (omega arith)))
    ]

-- the bytes of an enciphered counter block
pub mask-block : (key initial block : List ℕ) (k : ℕ) → block ≡ aes key (counter initial k) → (i : ℕ) → i < 16 → get_or block i 0 ≡ mask key initial (16 * k + i)
mask-block key initial block k is i h = ap (λ b. get_or b i 0) is ∙ sym (mask-at key initial k i h)

-- a text all of whose bytes are enciphered is what GCTR gives
pub gctr-masked : (key initial old new : List ℕ) → length new ≡ length old → ((j : ℕ) → j < length old → get_or new j 0 ≡ bit_xor (get_or old j 0) (mask key initial j)) → new ≡ gctr key initial old
gctr-masked key initial old new long masked =
    fill_by_all (λ j. bit_xor (get_or old j 0) (mask key initial j)) new (length old) 0 long masked

-- a ciphertext is GCTR from the count 2 on
pub gctr-count_two : (key iv text : List ℕ) → length iv ≡ 12 → gctr key (iv ++ to_be_bytes w32 2) text ≡ cipher_of key iv text
unfolding cipher_of
gctr-count_two key iv text long =
    let next : inc32 (pre_counter iv) ≡ iv ++ to_be_bytes w32 2 = inc32-count iv 1 long (omega arith) in
    ap (λ initial. gctr key initial text) (sym next)
