-- A hash that takes a text block by block.
use Rattle.std.proofs.Common.{◌≡◌, ℕ, ◌+◌, ◌-◌, ◌*◌, ◌/◌, ◌<◌, ◌≤◌, List, [], ◌∷◌, ◌++◌, length, map, get_or, refl, sym, ap, ◌∙◌, inl, inr, arith, length-append}
use Rattle.std.specs.List.{range_with_len}
use Rattle.std.proofs.lemmas.List.FromFn.{fill_by_all, get_or-map-range_with_len, length-map-range_with_len, map-range_with_len_more}
use Rattle.std.proofs.lemmas.Bool.{cases_lt}
use Rattle.std.proofs.lemmas.List.{append-nil, get_or_append_left, get_or-append_right}
use Rattle.std.specs.Int.{w64, w128, from_be_bytes, to_be_bytes}
use Rattle.cipher_spec.specs.Ghash.{ghash_from, ghash}
use Rattle.cipher_spec.specs.Gcm.{block_at, blocks, gctr, hash_key, lengths, pre_counter, tag_of}
use Rattle.ghash_core.specs.State.{HashState}
use Rattle.ghash_core.proofs.Blocks.{ghash_from-append}

-- the hash of a text's first k blocks, and of one more
pub ghash_from-block : (h y : ℕ) (text : List ℕ) (k b : ℕ) → b ≡ block_at text k → ghash_from h (ghash_from h y (map (block_at text) (range_with_len 0 k))) (b ∷ []) ≡ ghash_from h y (map (block_at text) (range_with_len 0 (k + 1)))
ghash_from-block h y text k b is =
    let before = map (block_at text) (range_with_len 0 k) in
    ap (λ b. ghash_from h (ghash_from h y before) (b ∷ [])) is ∙ sym (ghash_from-append h y before (block_at text k ∷ [])) ∙ ap (ghash_from h y) (sym (map-range_with_len_more (block_at text) 0 k k (omega arith)))

-- a hasher that took the first k blocks, and then takes another
pub hash-block : (h y : ℕ) (text : List ℕ) (k b : ℕ) (s t : HashState) → s.key ≡ h → s.hash ≡ ghash_from h y (map (block_at text) (range_with_len 0 k)) → b ≡ block_at text k → t ≡ record { key = s.key; hash = ghash_from s.key s.hash (b ∷ []) } → t.hash ≡ ghash_from h y (map (block_at text) (range_with_len 0 (k + 1)))
hash-block h y text k b s t key hash is step =
    ap (λ (s : HashState). s.hash) step ∙ ap (λ key. ghash_from key s.hash (b ∷ [])) key ∙ ap (λ hash. ghash_from h hash (b ∷ [])) hash ∙ ghash_from-block h y text k b is

-- a hasher keeps its key
pub key-block : (h b : ℕ) (s t : HashState) → s.key ≡ h → t ≡ record { key = s.key; hash = ghash_from s.key s.hash (b ∷ []) } → t.key ≡ h
key-block h b s t key step = ap (λ (s : HashState). s.key) step ∙ key

-- a hasher, from its parts
pub from_parts : (s : HashState) (key hash : ℕ) → s.key ≡ key → s.hash ≡ hash → s ≡ record { key = key; hash = hash }
from_parts s key hash p q = rw (← p, ← q) refl

-- four values of a function
four_values : (f : ℕ → ℕ) (x0 x1 x2 x3 : ℕ) → x0 ≡ f 0 → x1 ≡ f 1 → x2 ≡ f 2 → x3 ≡ f 3 → x0 ∷ x1 ∷ x2 ∷ x3 ∷ [] ≡ map f (range_with_len 0 4)
four_values f x0 x1 x2 x3 e0 e1 e2 e3 = rw (e0, e1, e2, e3) refl

-- functions alike below n
same_values : (f g : ℕ → ℕ) (n : ℕ) → ((i : ℕ) → i < n → f i ≡ g i) → map f (range_with_len 0 n) ≡ map g (range_with_len 0 n)
same_values f g n same =
    fill_by_all g (map f (range_with_len 0 n)) n 0 (length-map-range_with_len f 0 n) (λ i h. get_or-map-range_with_len f 0 n i i 0 h (omega arith) ∙ same i h)

-- blocks alike byte by byte
pub same_block : (s t : List ℕ) (a b : ℕ) → ((i : ℕ) → i < 16 → get_or s (16 * a + i) 0 ≡ get_or t (16 * b + i) 0) → block_at s a ≡ block_at t b
same_block s t a b same =
    ap (from_be_bytes w128) (same_values (λ i. get_or s (16 * a + i) 0) (λ i. get_or t (16 * b + i) 0) 16 same)

-- the blocks of whole blocks and of more bytes
pub blocks-append : (xs ys : List ℕ) (m : ℕ) → length xs ≡ 16 * m → blocks (xs ++ ys) ≡ blocks xs ++ blocks ys
blocks-append xs ys m long =
    let all = (length (xs ++ ys) + 15) / 16 in
    let l1 : length (blocks xs) ≡ m = length-map-range_with_len (block_at xs) 0 ((length xs + 15) / 16) ∙ omega arith in
    let l2 : length (blocks ys) ≡ (length ys + 15) / 16 = length-map-range_with_len (block_at ys) 0 ((length ys + 15) / 16) in
    let total : length (blocks xs ++ blocks ys) ≡ all = omega (arith, length-append (blocks xs) (blocks ys), length-append xs ys) in
    sym (fill_by_all (block_at (xs ++ ys)) (blocks xs ++ blocks ys) all 0 total (λ k h. elim (cases_lt k m) [
      | inl below ↦
          get_or_append_left (blocks xs) (blocks ys) 0 k (omega arith) ∙ get_or-map-range_with_len (block_at xs) 0 ((length xs + 15) / 16) k k 0 (omega arith) (omega arith) ∙ same_block xs (xs ++ ys) k k (λ i h. sym (get_or_append_left xs ys 0 (16 * k + i) (omega arith)))
      | inr above ↦
          let n = k - m in
          let inside : n < (length ys + 15) / 16 = omega (arith, length-append xs ys) in
          get_or-append_right (blocks xs) (blocks ys) m k 0 l1 above ∙ get_or-map-range_with_len (block_at ys) 0 ((length ys + 15) / 16) n n 0 inside (omega arith) ∙ same_block ys (xs ++ ys) n k (λ i h. let e : 16 * k + i - 16 * m ≡ 16 * n + i = omega arith in sym (get_or-append_right xs ys (16 * m) (16 * k + i) 0 long (omega arith) ∙ ap (λ j. get_or ys j 0) e))
    ]))

-- a hasher that took whole blocks, and then takes more bytes
pub hash-part : (h y : ℕ) (xs ys : List ℕ) (m : ℕ) (s t : HashState) → length xs ≡ 16 * m → s.key ≡ h → s.hash ≡ ghash_from h y (blocks xs) → t ≡ record { key = s.key; hash = ghash_from s.key s.hash (blocks ys) } → t.hash ≡ ghash_from h y (blocks (xs ++ ys))
hash-part h y xs ys m s t long key hash step =
    ap (λ (s : HashState). s.hash) step ∙ ap (λ key. ghash_from key s.hash (blocks ys)) key ∙ ap (λ hash. ghash_from h hash (blocks ys)) hash ∙ sym (ap (ghash_from h y) (blocks-append xs ys m long) ∙ ghash_from-append h y (blocks xs) (blocks ys))

-- the same, by the blocks of those bytes
pub hash-blocks : (bs cs : List ℕ) (s t : HashState) → bs ≡ cs → t ≡ record { key = s.key; hash = ghash_from s.key s.hash bs } → t ≡ record { key = s.key; hash = ghash_from s.key s.hash cs }
hash-blocks bs cs s t same step = rw (← same) step

-- it keeps its key
pub key-part : (h : ℕ) (bs : List ℕ) (s t : HashState) → s.key ≡ h → t ≡ record { key = s.key; hash = ghash_from s.key s.hash bs } → t.key ≡ h
key-part h bs s t key step = ap (λ (s : HashState). s.key) step ∙ key

-- the four blocks of 64 bytes
pub four_blocks : (part : List ℕ) (b0 b1 b2 b3 : List ℕ) → length part ≡ 64 → from_be_bytes w128 b0 ≡ block_at part 0 → from_be_bytes w128 b1 ≡ block_at part 1 → from_be_bytes w128 b2 ≡ block_at part 2 → from_be_bytes w128 b3 ≡ block_at part 3 → map (from_be_bytes w128) (b0 ∷ b1 ∷ b2 ∷ b3 ∷ []) ≡ blocks part
four_blocks part b0 b1 b2 b3 long e0 e1 e2 e3 =
    let n : 4 ≡ (length part + 15) / 16 = omega arith in
    four_values (block_at part) _ _ _ _ e0 e1 e2 e3 ∙ ap (λ n. map (block_at part) (range_with_len 0 n)) n

-- a hasher of these parts
abbrev pub hasher : ℕ → ℕ → HashState
hasher key hash = record { key = key; hash = hash }

-- a hasher of known parts that takes blocks
taken : (key hash : ℕ) (bs : List ℕ) (s t : HashState) → s ≡ hasher key hash → t ≡ record { key = s.key; hash = ghash_from s.key s.hash bs } → t ≡ hasher key (ghash_from key hash bs)
taken key hash bs s t is step = step ∙ ap (λ (x : HashState). hasher x.key (ghash_from x.key x.hash bs)) is

-- a hasher that takes whole blocks, and then more bytes
pub hash-both : (xs ys : List ℕ) (m : ℕ) (s t u : HashState) → length xs ≡ 16 * m → t ≡ record { key = s.key; hash = ghash_from s.key s.hash (blocks xs) } → u ≡ record { key = t.key; hash = ghash_from t.key t.hash (blocks ys) } → u ≡ record { key = s.key; hash = ghash_from s.key s.hash (blocks (xs ++ ys)) }
hash-both xs ys m s t u long step next =
    taken s.key (ghash_from s.key s.hash (blocks xs)) (blocks ys) t u step next ∙ ap (hasher s.key) (sym (ap (ghash_from s.key s.hash) (blocks-append xs ys m long) ∙ ghash_from-append s.key s.hash (blocks xs) (blocks ys)))

-- the blocks of a text's first bytes, which are sixteen, or fewer with none behind them
blocks-one : (xs ys : List ℕ) → 0 < length xs → length xs ≤ 16 → (length xs < 16 → ys ≡ []) → blocks (xs ++ ys) ≡ block_at xs 0 ∷ blocks ys
blocks-one xs ys some few last =
    let n : (length xs + 15) / 16 ≡ 1 = omega arith in
    let one : blocks xs ≡ block_at xs 0 ∷ [] = ap (λ n. map (block_at xs) (range_with_len 0 n)) n in
    elim (cases_lt (length xs) 16) [
      | inl short ↦
          let none = last short in ap (λ l. blocks (xs ++ l)) none ∙ ap blocks (append-nil xs) ∙ one ∙ ap (λ l. block_at xs 0 ∷ blocks l) (sym none)
      | inr full ↦
          blocks-append xs ys 1 (omega arith) ∙ ap (λ l. l ++ blocks ys) one
    ]

-- a hasher that takes the block of such bytes, and then those behind them
pub hash-one : (xs ys : List ℕ) (b : ℕ) (s t u : HashState) → 0 < length xs → length xs ≤ 16 → (length xs < 16 → ys ≡ []) → b ≡ block_at xs 0 → t ≡ record { key = s.key; hash = ghash_from s.key s.hash (b ∷ []) } → u ≡ record { key = t.key; hash = ghash_from t.key t.hash (blocks ys) } → u ≡ record { key = s.key; hash = ghash_from s.key s.hash (blocks (xs ++ ys)) }
hash-one xs ys b s t u some few last is step next =
    taken s.key (ghash_from s.key s.hash (b ∷ [])) (blocks ys) t u step next ∙ ap (λ b. hasher s.key (ghash_from s.key s.hash (b ∷ blocks ys))) is ∙ ap (λ bs. hasher s.key (ghash_from s.key s.hash bs)) (sym (blocks-one xs ys some few last))

-- a hasher under the hash subkey that took associated data, and then a ciphertext, gives their tag
pub tag-finished : (key iv aad cipher : List ℕ) (count : ℕ) (s t : HashState) (tag : List ℕ) → s ≡ record { key = hash_key key; hash = ghash (hash_key key) (blocks aad) } → t ≡ record { key = s.key; hash = ghash_from s.key s.hash (blocks cipher) } → count ≡ length aad → tag ≡ gctr key (pre_counter iv) (to_be_bytes w128 (ghash_from t.key t.hash (from_be_bytes w128 (to_be_bytes w64 (count * 8) ++ to_be_bytes w64 (length cipher * 8)) ∷ []))) → tag ≡ tag_of key iv aad cipher
unfolding tag_of
tag-finished key iv aad cipher count s t tag start text long done =
    let h = hash_key key in
    let last = lengths aad cipher in
    let joined : ghash h (blocks aad ++ blocks cipher ++ last ∷ []) ≡ ghash_from h (ghash_from h (ghash_from h 0 (blocks aad)) (blocks cipher)) (last ∷ []) = ghash_from-append h 0 (blocks aad ++ blocks cipher) (last ∷ []) ∙ ap (λ y. ghash_from h y (last ∷ [])) (ghash_from-append h 0 (blocks aad) (blocks cipher)) in
    let state : t ≡ hasher h (ghash_from h (ghash_from h 0 (blocks aad)) (blocks cipher)) = taken h (ghash_from h 0 (blocks aad)) (blocks cipher) s t start text in
    let sizes : from_be_bytes w128 (to_be_bytes w64 (count * 8) ++ to_be_bytes w64 (length cipher * 8)) ≡ last = ap (λ n. from_be_bytes w128 (to_be_bytes w64 (n * 8) ++ to_be_bytes w64 (length cipher * 8))) long in
    done ∙ ap (λ (x : HashState). gctr key (pre_counter iv) (to_be_bytes w128 (ghash_from x.key x.hash (from_be_bytes w128 (to_be_bytes w64 (count * 8) ++ to_be_bytes w64 (length cipher * 8)) ∷ [])))) state ∙ ap (λ b. gctr key (pre_counter iv) (to_be_bytes w128 (ghash_from h (ghash_from h (ghash_from h 0 (blocks aad)) (blocks cipher)) (b ∷ [])))) sizes ∙ ap (λ n. gctr key (pre_counter iv) (to_be_bytes w128 n)) (sym joined)
