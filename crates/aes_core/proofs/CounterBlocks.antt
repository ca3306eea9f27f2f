-- Counter blocks in a row, and the page of each.
use Rattle.std.proofs.Common.{◌≡◌, ℕ, zero, suc, ◌+◌, ◌/◌, ◌%◌, ◌^◌, ◌<◌, List, [], ◌∷◌, ◌++◌, length, take, drop, map, refl, sym, ap, ◌∙◌, arith, append_assoc}
use Rattle.std.specs.List.{range_with_len}
use Rattle.std.specs.Int.{byte_at, bytes_high_first, w32, from_be_bytes, to_be_bytes}
use Rattle.std.proofs.Math.Seq.{take-append_seam, drop-append_seam}
use Rattle.std.proofs.lemmas.Nat.{from_be_bytes-to_be_bytes_4}
use Rattle.cipher_spec.specs.Gcm.{inc32, counter}
use Rattle.aes_core.specs.Counters.{page_bytes}

-- inc 32 of a counter block adds one to its count
pub inc32-count : (iv : List ℕ) (count : ℕ) → length iv ≡ 12 → count < 2 ^ 32 → inc32 (iv ++ to_be_bytes w32 count) ≡ iv ++ to_be_bytes w32 ((count + 1) % 2 ^ 32)
inc32-count iv count long fits =
    let block = iv ++ to_be_bytes w32 count in
    let front : take 12 block ≡ iv = ap (λ n. take n block) (sym long) ∙ take-append_seam iv (to_be_bytes w32 count) in
    let back : drop 12 block ≡ to_be_bytes w32 count = ap (λ n. drop n block) (sym long) ∙ drop-append_seam iv (to_be_bytes w32 count) in
    let number : from_be_bytes w32 (drop 12 block) ≡ count = ap (from_be_bytes w32) back ∙ from_be_bytes-to_be_bytes_4 count fits in
    ap (λ l. l ++ to_be_bytes w32 ((from_be_bytes w32 (drop 12 block) + 1) % 2 ^ 32)) front ∙ ap (λ n. iv ++ to_be_bytes w32 ((n + 1) % 2 ^ 32)) number

-- the counter block that comes k later
pub counter-later : (iv : List ℕ) (count k : ℕ) → length iv ≡ 12 → count < 2 ^ 32 → iv ++ to_be_bytes w32 ((count + k) % 2 ^ 32) ≡ counter (iv ++ to_be_bytes w32 count) k
counter-later iv count zero long fits =
    let e : (count + 0) % 2 ^ 32 ≡ count = omega arith in
    ap (λ n. iv ++ to_be_bytes w32 n) e
counter-later iv count (suc k) long fits =
    let n = (count + k) % 2 ^ 32 in
    let e : (n + 1) % 2 ^ 32 ≡ (count + suc k) % 2 ^ 32 = omega arith in
    ap (λ n. iv ++ to_be_bytes w32 n) (sym e) ∙ sym (inc32-count iv n long (omega arith)) ∙ ap inc32 (counter-later iv count k long fits)

-- eight values of a function
pub eight_values : (f : ℕ → List ℕ) (b0 b1 b2 b3 b4 b5 b6 b7 : List ℕ) → b0 ≡ f 0 → b1 ≡ f 1 → b2 ≡ f 2 → b3 ≡ f 3 → b4 ≡ f 4 → b5 ≡ f 5 → b6 ≡ f 6 → b7 ≡ f 7 → b0 ∷ b1 ∷ b2 ∷ b3 ∷ b4 ∷ b5 ∷ b6 ∷ b7 ∷ [] ≡ map f (range_with_len 0 8)
eight_values f b0 b1 b2 b3 b4 b5 b6 b7 e0 e1 e2 e3 e4 e5 e6 e7 = rw (e0, e1, e2, e3, e4, e5, e6, e7) refl

three_bytes : (a b c x y z : ℕ) → a ≡ x → b ≡ y → c ≡ z → a ∷ b ∷ c ∷ [] ≡ x ∷ y ∷ z ∷ []
three_bytes a b c x y z e f g = rw (e, f, g) refl

-- the upper bytes of a count are those of its page
pub page_high : (count : ℕ) → byte_at 3 count ∷ byte_at 2 count ∷ byte_at 1 count ∷ [] ≡ bytes_high_first 3 (count / 2 ^ 8)
page_high count =
    three_bytes (byte_at 3 count) (byte_at 2 count) (byte_at 1 count) (byte_at 2 (count / 2 ^ 8)) (byte_at 1 (count / 2 ^ 8)) (byte_at 0 (count / 2 ^ 8))
    (omega arith) (omega arith) (omega arith)

-- a counter block is the bytes of its page, and the last byte of the count
pub page_split : (iv : List ℕ) (count : ℕ) → iv ++ to_be_bytes w32 count ≡ page_bytes iv (count / 2 ^ 8) ++ count % 2 ^ 8 ∷ []
page_split iv count =
    sym (append_assoc iv (byte_at 3 count ∷ byte_at 2 count ∷ byte_at 1 count ∷ []) (count % 2 ^ 8 ∷ []))
    ∙ ap (λ high. iv ++ high ++ count % 2 ^ 8 ∷ []) (page_high count)
