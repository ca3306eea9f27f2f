-- From the planes of 16 blocks, each of which is moved to its place, to their sum.
use Rattle.std.proofs.Common.{◌≡◌, ℕ, zero, suc, List, [], ◌∷◌, ◌+◌, ◌-◌, ◌*◌, ◌/◌, ◌%◌, ◌^◌, ◌<◌, ◌≤◌, length, replicate, get_or, bit_xor, refl, sym, ap, ◌∙◌, inl, inr, arith}
use Rattle.std.specs.Int.Bits.{xor_shifted}
use Rattle.std.specs.Simd.Lanes.{number_l}
use Rattle.std.proofs.Math.Nat.{mul_assoc, mul_comm}
use Rattle.std.proofs.lemmas.Bool.{cases_lt}
use Rattle.std.proofs.lemmas.List.{get_or_past}
use Rattle.std.proofs.lemmas.Simd.{get_or-replicate}
use Rattle.std.proofs.lemmas.Nat.{mod-pow-add, mul-le, pow-add, pow_pos, shl-shr, xor_comm, xor_mod, xor_shr}
use Rattle.ghash_core.specs.Tables.{block_byte, folded, half_lanes, word}
use Rattle.ghash_core.proofs.Lanes.{half_long, lane_of_half}
use Rattle.ghash_core.proofs.Shifts.{folded_is, moved, moved-nothing, moved-sum, moved_over}
use Rattle.ghash_core.proofs.Sums.{xor-shl, xsum, xsum-append, xsum-each, xsum-exchange, xsum-front, xsum-lt, xsum-more, xsum-none, xsum-same, xsum-shl, xsum-xor}

factors_exchanged : (a b c : ℕ) → a * b * c ≡ a * c * b
factors_exchanged a b c = mul_assoc a b c ∙ ap (λ n. a * n) (mul_comm b c) ∙ sym (mul_assoc a c b)

-- ---- a number and its bytes

pub bytes_summed : (n x : ℕ) → xsum n (λ k. block_byte x k * 2 ^ (8 * k)) ≡ x % 2 ^ (8 * n)
bytes_summed zero x =
    let none : 0 ≡ x % 2 ^ (8 * 0) = omega arith in
    xsum-none (λ k. block_byte x k * 2 ^ (8 * k)) ∙ none
bytes_summed (suc n) x =
    let f = λ (k : ℕ). block_byte x k * 2 ^ (8 * k) in
    let p = 2 ^ (8 * n) in
    let r = x % 2 ^ (8 * n) in
    let more : suc n ≡ n + 1 = omega arith in
    let e : 8 + 8 * n ≡ 8 * suc n = omega arith in
    let small : x % 2 ^ (8 * n) < 2 ^ (8 * n) = omega (arith, pow_pos (8 * n)) in
    ap (λ k. xsum k f) more ∙ xsum-more n f ∙ ap (λ s. bit_xor s (f n)) (bytes_summed n x) ∙ xor_comm r (f n) ∙ xor_shifted (block_byte x n) (8 * n) r small ∙ sym (mod-pow-add x 8 (8 * n)) ∙ ap (λ k. x % 2 ^ k) e

-- the number of a list of bytes
number_summed : (p : List ℕ) (n : ℕ) → length p ≡ n → ((i : ℕ) → get_or p i 0 < 256) → number_l 256 p ≡ xsum n (λ i. get_or p i 0 * 2 ^ (8 * i))
number_summed [] n long small =
    let f = λ (i : ℕ). get_or [] i 0 * 2 ^ (8 * i) in
    sym (xsum-none f) ∙ ap (λ k. xsum k f) long
number_summed (x ∷ xs) zero long small = absurd (omega arith)
number_summed (x ∷ xs) (suc n) long small =
    let f = λ (i : ℕ). get_or (x ∷ xs) i 0 * 2 ^ (8 * i) in
    let g = λ (i : ℕ). get_or xs i 0 * 2 ^ (8 * i) in
    let rest : number_l 256 xs ≡ xsum n g = number_summed xs n (omega arith) (λ i. small (suc i)) in
    let first : f 0 ≡ x = omega arith in
    let further : (i : ℕ) → f (suc i) ≡ g i * 2 ^ 8 = λ i.
    let e : 8 * suc i ≡ 8 * i + 8 = omega arith in
    ap (λ k. get_or xs i 0 * 2 ^ k) e ∙ ap (λ k. get_or xs i 0 * k) (pow-add 2 (8 * i) 8) ∙ sym (mul_assoc (get_or xs i 0) (2 ^ (8 * i)) (2 ^ 8)) in
    let others : xsum n (λ i. f (suc i)) ≡ number_l 256 xs * 2 ^ 8 =
    xsum-same n (λ i. f (suc i)) (λ i. g i * 2 ^ 8) (λ i h. further i) ∙ sym (xsum-shl n 8 g) ∙ ap (λ s. s * 2 ^ 8) (sym rest) in
    let joined : bit_xor (number_l 256 xs * 2 ^ 8) x ≡ number_l 256 xs * 2 ^ 8 + x = xor_shifted (number_l 256 xs) 8 x (small 0) in
    let turned : number_l 256 xs * 2 ^ 8 + x ≡ x + 256 * number_l 256 xs = omega arith in
    sym (xsum-front n f ∙ ap (λ s. bit_xor s (xsum n (λ i. f (suc i)))) first ∙ ap (bit_xor x) others ∙ xor_comm x (number_l 256 xs * 2 ^ 8) ∙ joined ∙ turned)

-- ---- a plane

-- byte e of 16 blocks as one number
pub plane_number : (ℕ → ℕ) → ℕ → ℕ
plane_number f e = xsum 16 (λ i. block_byte (f i) e * 2 ^ (8 * i))

-- the number of a vector that has byte e of 16 blocks
pub number_of_plane : (f : ℕ → ℕ) (e : ℕ) (p : List ℕ) → length p ≡ 16 → ((i : ℕ) → i < 16 → get_or p i 0 ≡ block_byte (f i) e) → number_l 256 p ≡ plane_number f e
unfolding plane_number
number_of_plane f e p long is =
    let small : (i : ℕ) → get_or p i 0 < 256 = λ i. elim (cases_lt i 16) [
      | inl h ↦ let b : get_or p i 0 ≡ block_byte (f i) e = is i h in omega arith
      | inr g ↦ let b : get_or p i 0 ≡ 0 = get_or_past p i 0 (omega arith) in omega arith
    ] in
    number_summed p 16 long small ∙ xsum-same 16 (λ i. get_or p i 0 * 2 ^ (8 * i)) (λ i. block_byte (f i) e * 2 ^ (8 * i)) (λ i h. ap (λ b. b * 2 ^ (8 * i)) (is i h))

byte_below : (b i : ℕ) → b < 256 → i < 16 → b * 2 ^ (8 * i) < 2 ^ 128
byte_below b i small within =
    let j = 15 - i in
    let e : 120 ≡ 8 * j + 8 * i = omega arith in
    let whole : 2 ^ 120 ≡ 2 ^ (8 * j) * 2 ^ (8 * i) = ap (λ k. 2 ^ k) e ∙ pow-add 2 (8 * j) (8 * i) in
    let one : 1 * 2 ^ (8 * i) ≤ 2 ^ (8 * j) * 2 ^ (8 * i) = mul-le 1 (2 ^ (8 * i)) (2 ^ (8 * j)) (2 ^ (8 * i)) (omega (arith, pow_pos (8 * j))) (omega arith) in
    let most : b * 2 ^ (8 * i) ≤ 255 * 2 ^ 120 = mul-le b (2 ^ (8 * i)) 255 (2 ^ 120) (omega arith) (omega arith) in
    omega arith

plane-lt : (f : ℕ → ℕ) (e : ℕ) → plane_number f e < 2 ^ 128
unfolding plane_number
plane-lt f e =
    xsum-lt 128 16 (λ i. block_byte (f i) e * 2 ^ (8 * i)) (λ i h. byte_below (block_byte (f i) e) i (omega arith) h)

-- ---- a sum of planes, each moved by a byte more than the one before it

-- of lane l, k planes from plane o on
pub lane_sum : (ℕ → ℕ) → ℕ → ℕ → ℕ → ℕ
lane_sum f o l k = xsum k (λ e. word (plane_number f (o + e)) l * 2 ^ (8 * e))

pub lane_sum-none : (f : ℕ → ℕ) (o l : ℕ) → lane_sum f o l 0 ≡ 0
unfolding lane_sum
lane_sum-none f o l = xsum-none (λ e. word (plane_number f (o + e)) l * 2 ^ (8 * e))

-- the step of `next`
lane_sum-next : (f : ℕ → ℕ) (p : List ℕ) (o l k before after : ℕ) → k < 8 → length p ≡ 16
    → ((i : ℕ) → i < 16 → get_or p i 0 ≡ block_byte (f i) (o + k))
    → before ≡ lane_sum f o l k * 2 ^ (72 - 8 * k)
    → after ≡ bit_xor (before / 2 ^ 8) (word (number_l 256 p) l * 2 ^ 64)
    → after ≡ lane_sum f o l (k + 1) * 2 ^ (72 - 8 * (k + 1))
unfolding lane_sum
lane_sum-next f p o l k before after within long is was now =
    let g = λ (e : ℕ). word (plane_number f (o + e)) l * 2 ^ (8 * e) in
    let s = xsum k g in
    let w = word (plane_number f (o + k)) l in
    let m = 64 - 8 * k in
    let e : 72 - 8 * k ≡ m + 8 = omega arith in
    let t : 8 * k + m ≡ 64 = omega arith in
    let n : m ≡ 72 - 8 * (k + 1) = omega arith in
    let further : before / 2 ^ 8 ≡ s * 2 ^ m =
    ap (λ b. b / 2 ^ 8) (was ∙ ap (λ j. s * 2 ^ j) e ∙ ap (λ j. s * j) (pow-add 2 m 8) ∙ sym (mul_assoc s (2 ^ m) (2 ^ 8))) ∙ shl-shr (s * 2 ^ m) 8 in
    let here : word (number_l 256 p) l * 2 ^ 64 ≡ w * 2 ^ (8 * k) * 2 ^ m =
    ap (λ q. word q l * 2 ^ 64) (number_of_plane f (o + k) p long is) ∙ ap (λ j. w * 2 ^ j) (sym t) ∙ ap (λ j. w * j) (pow-add 2 (8 * k) m) ∙ sym (mul_assoc w (2 ^ (8 * k)) (2 ^ m)) in
    now ∙ ap (λ a. bit_xor a (word (number_l 256 p) l * 2 ^ 64)) further ∙ ap (bit_xor (s * 2 ^ m)) here ∙ sym (xor-shl s (w * 2 ^ (8 * k)) m) ∙ ap (λ a. a * 2 ^ m) (sym (xsum-more k g)) ∙ ap (λ j. xsum (k + 1) g * 2 ^ j) n

-- ---- all lanes

words_joined : (n : ℕ) → n < 2 ^ 128 → bit_xor (word n 0) (word n 1 * 2 ^ 64) ≡ n
words_joined n small =
    let low : n % 2 ^ 64 < 2 ^ 64 = omega arith in
    let whole : n / 2 ^ 64 % 2 ^ 64 * 2 ^ 64 + n % 2 ^ 64 ≡ n = omega arith in
    xor_comm (n % 2 ^ 64) (n / 2 ^ 64 % 2 ^ 64 * 2 ^ 64) ∙ xor_shifted (n / 2 ^ 64 % 2 ^ 64) 64 (n % 2 ^ 64) low ∙ whole

planes_joined : (f : ℕ → ℕ) (o : ℕ) → bit_xor (lane_sum f o 0 8) (lane_sum f o 1 8 * 2 ^ 64) ≡ xsum 8 (λ e. plane_number f (o + e) * 2 ^ (8 * e))
unfolding lane_sum
planes_joined f o =
    let low = λ (e : ℕ). word (plane_number f (o + e)) 0 in
    let high = λ (e : ℕ). word (plane_number f (o + e)) 1 in
    let each : (e : ℕ) → bit_xor (low e * 2 ^ (8 * e)) (high e * 2 ^ (8 * e) * 2 ^ 64) ≡ plane_number f (o + e) * 2 ^ (8 * e) = λ e.
    ap (bit_xor (low e * 2 ^ (8 * e))) (factors_exchanged (high e) (2 ^ (8 * e)) (2 ^ 64)) ∙ sym (xor-shl (low e) (high e * 2 ^ 64) (8 * e)) ∙ ap (λ n. n * 2 ^ (8 * e)) (words_joined (plane_number f (o + e)) (plane-lt f (o + e))) in
    ap (bit_xor (xsum 8 (λ e. low e * 2 ^ (8 * e)))) (xsum-shl 8 64 (λ e. high e * 2 ^ (8 * e))) ∙ sym (xsum-xor 8 (λ e. low e * 2 ^ (8 * e)) (λ e. high e * 2 ^ (8 * e) * 2 ^ 64)) ∙ xsum-same 8 (λ e. bit_xor (low e * 2 ^ (8 * e)) (high e * 2 ^ (8 * e) * 2 ^ 64)) (λ e. plane_number f (o + e) * 2 ^ (8 * e)) (λ e h. each e)

-- the sums of bytes, block by block in place of plane by plane
planes_exchanged : (f : ℕ → ℕ) → ((i : ℕ) → f i < 2 ^ 128) → xsum 16 (λ k. plane_number f k * 2 ^ (8 * k)) ≡ xsum 16 (λ i. f i * 2 ^ (8 * i))
unfolding plane_number
planes_exchanged f small =
    let cell = λ (i k : ℕ). block_byte (f i) k * 2 ^ (8 * k) * 2 ^ (8 * i) in
    let plane : (k : ℕ) → xsum 16 (λ i. block_byte (f i) k * 2 ^ (8 * i)) * 2 ^ (8 * k) ≡ xsum 16 (λ i. cell i k) = λ k.
    xsum-shl 16 (8 * k) (λ i. block_byte (f i) k * 2 ^ (8 * i)) ∙ xsum-same 16 (λ i. block_byte (f i) k * 2 ^ (8 * i) * 2 ^ (8 * k)) (λ i. cell i k) (λ i h. factors_exchanged (block_byte (f i) k) (2 ^ (8 * i)) (2 ^ (8 * k))) in
    let block : (i : ℕ) → xsum 16 (λ k. cell i k) ≡ f i * 2 ^ (8 * i) = λ i.
    let h = small i in
    let all : f i % 2 ^ (8 * 16) ≡ f i = omega arith in
    sym (xsum-shl 16 (8 * i) (λ k. block_byte (f i) k * 2 ^ (8 * k))) ∙ ap (λ n. n * 2 ^ (8 * i)) (bytes_summed 16 (f i) ∙ all) in
    xsum-same 16 (λ k. xsum 16 (λ i. block_byte (f i) k * 2 ^ (8 * i)) * 2 ^ (8 * k)) (λ k. xsum 16 (λ i. cell i k)) (λ k h. plane k) ∙ xsum-exchange 16 16 (λ k i. cell i k) ∙ xsum-same 16 (λ i. xsum 16 (λ k. cell i k)) (λ i. f i * 2 ^ (8 * i)) (λ i h. block i)

-- two sums of eight planes, the second 64 bits above the first
lanes_joined : (f : ℕ → ℕ) → ((i : ℕ) → f i < 2 ^ 128)
    → bit_xor (bit_xor (lane_sum f 0 0 8 * 2 ^ 8) (lane_sum f 0 1 8 * 2 ^ 8 * 2 ^ 64)) (bit_xor (lane_sum f 8 0 8 * 2 ^ 8 * 2 ^ 64) (lane_sum f 8 1 8 * 2 ^ 8 * 2 ^ 128))
    ≡ xsum 16 (λ i. f i * 2 ^ (8 * i)) * 2 ^ 8
lanes_joined f small =
    let a = lane_sum f 0 0 8 in
    let b = lane_sum f 0 1 8 in
    let c = lane_sum f 8 0 8 in
    let d = lane_sum f 8 1 8 in
    let g = λ (k : ℕ). plane_number f k * 2 ^ (8 * k) in
    let turned_b : b * 2 ^ 8 * 2 ^ 64 ≡ b * 2 ^ 64 * 2 ^ 8 = omega arith in
    let turned_c : c * 2 ^ 8 * 2 ^ 64 ≡ c * 2 ^ 72 = omega arith in
    let turned_d : d * 2 ^ 8 * 2 ^ 128 ≡ d * 2 ^ 64 * 2 ^ 72 = omega arith in
    let first : bit_xor (a * 2 ^ 8) (b * 2 ^ 8 * 2 ^ 64) ≡ xsum 8 g * 2 ^ 8 =
    ap (bit_xor (a * 2 ^ 8)) turned_b ∙ sym (xor-shl a (b * 2 ^ 64) 8) ∙ ap (λ n. n * 2 ^ 8) (planes_joined f 0 ∙ xsum-same 8 (λ e. plane_number f (0 + e) * 2 ^ (8 * e)) g (λ e h. let z : 0 + e ≡ e = omega arith in ap (λ k. plane_number f k * 2 ^ (8 * e)) z)) in
    let upper : xsum 8 (λ e. plane_number f (8 + e) * 2 ^ (8 * e)) * 2 ^ 64 ≡ xsum 8 (λ e. g (8 + e)) =
    xsum-shl 8 64 (λ e. plane_number f (8 + e) * 2 ^ (8 * e)) ∙ xsum-same 8 (λ e. plane_number f (8 + e) * 2 ^ (8 * e) * 2 ^ 64) (λ e. g (8 + e)) (λ e h.
    let z : 8 * e + 64 ≡ 8 * (8 + e) = omega arith in
    mul_assoc (plane_number f (8 + e)) (2 ^ (8 * e)) (2 ^ 64) ∙ ap (λ n. plane_number f (8 + e) * n) (sym (pow-add 2 (8 * e) 64)) ∙ ap (λ k. plane_number f (8 + e) * 2 ^ k) z) in
    let t = xsum 8 (λ e. plane_number f (8 + e) * 2 ^ (8 * e)) in
    let turned_t : t * 2 ^ 72 ≡ t * 2 ^ 64 * 2 ^ 8 = omega arith in
    let second : bit_xor (c * 2 ^ 8 * 2 ^ 64) (d * 2 ^ 8 * 2 ^ 128) ≡ xsum 8 (λ e. g (8 + e)) * 2 ^ 8 =
    ap (λ n. bit_xor n (d * 2 ^ 8 * 2 ^ 128)) turned_c ∙ ap (bit_xor (c * 2 ^ 72)) turned_d ∙ sym (xor-shl c (d * 2 ^ 64) 72) ∙ ap (λ n. n * 2 ^ 72) (planes_joined f 8) ∙ turned_t ∙ ap (λ n. n * 2 ^ 8) upper in
    ap (λ n. bit_xor n (bit_xor (c * 2 ^ 8 * 2 ^ 64) (d * 2 ^ 8 * 2 ^ 128))) first ∙ ap (bit_xor (xsum 8 g * 2 ^ 8)) second ∙ sym (xor-shl (xsum 8 g) (xsum 8 (λ e. g (8 + e))) 8) ∙ ap (λ n. n * 2 ^ 8) (sym (xsum-append 8 8 g) ∙ planes_exchanged f small)

-- the same as a block: each of the 16 moved to its place
blocks_folded : (f : ℕ → ℕ) → folded (xsum 16 (λ i. f i * 2 ^ (8 * i)) * 2 ^ 8) ≡ xsum 16 (λ i. moved (120 - 8 * i) (f i))
blocks_folded f =
    let g = λ (i : ℕ). f i * 2 ^ (8 * i) * 2 ^ 8 in
    let s = xsum 16 (λ i. f i * 2 ^ (8 * i)) in
    let even : s * 2 ^ 8 % 256 ≡ 0 = omega arith in
    let all : s * 2 ^ 8 ≡ xsum 16 g = xsum-shl 16 8 (λ i. f i * 2 ^ (8 * i)) in
    let above : s * 2 ^ 8 / 2 ^ 128 ≡ xsum 16 (λ i. g i / 2 ^ 128) =
    ap (λ n. n / 2 ^ 128) all ∙ xsum-each (λ n. n / 2 ^ 128) refl (λ a b. xor_shr a b 128) 16 g in
    let below : s * 2 ^ 8 % 2 ^ 128 ≡ xsum 16 (λ i. g i % 2 ^ 128) =
    ap (λ n. n % 2 ^ 128) all ∙ xsum-each (λ n. n % 2 ^ 128) refl (λ a b. xor_mod a b 128) 16 g in
    let back : moved 128 (s * 2 ^ 8 % 2 ^ 128) ≡ xsum 16 (λ i. moved 128 (g i % 2 ^ 128)) =
    ap (moved 128) below ∙ xsum-each (moved 128) (moved-nothing 128) (moved-sum 128) 16 (λ i. g i % 2 ^ 128) in
    let each : (i : ℕ) → i < 16 → bit_xor (g i / 2 ^ 128) (moved 128 (g i % 2 ^ 128)) ≡ moved (120 - 8 * i) (f i) = λ i h.
    let e : 8 * i + 8 ≡ 8 * (i + 1) = omega arith in
    let t : 120 - 8 * i + (8 * i + 8) ≡ 128 = omega arith in
    let is : g i ≡ f i * 2 ^ (8 * i + 8) = mul_assoc (f i) (2 ^ (8 * i)) (2 ^ 8) ∙ ap (λ n. f i * n) (sym (pow-add 2 (8 * i) 8)) in
    ap (λ n. bit_xor (n / 2 ^ 128) (moved 128 (n % 2 ^ 128))) is ∙ moved_over (120 - 8 * i) (8 * i + 8) (f i) t in
    folded_is (s * 2 ^ 8) even ∙ ap (λ n. bit_xor n (moved 128 (s * 2 ^ 8 % 2 ^ 128))) above ∙ ap (bit_xor (xsum 16 (λ i. g i / 2 ^ 128))) back ∙ sym (xsum-xor 16 (λ i. g i / 2 ^ 128) (λ i. moved 128 (g i % 2 ^ 128))) ∙ xsum-same 16 (λ i. bit_xor (g i / 2 ^ 128) (moved 128 (g i % 2 ^ 128))) (λ i. moved (120 - 8 * i) (f i)) each

-- what `folded` makes of the lanes after eight steps
pub lanes_folded : (f : ℕ → ℕ) (k a b c d r : ℕ) → k ≡ 8 → ((i : ℕ) → f i < 2 ^ 128)
    → a ≡ lane_sum f 0 0 k * 2 ^ (72 - 8 * k) → b ≡ lane_sum f 0 1 k * 2 ^ (72 - 8 * k)
    → c ≡ lane_sum f 8 0 k * 2 ^ (72 - 8 * k) → d ≡ lane_sum f 8 1 k * 2 ^ (72 - 8 * k)
    → r ≡ folded (bit_xor (bit_xor a (b * 2 ^ 64)) (bit_xor (c * 2 ^ 64) (d * 2 ^ 128)))
    → r ≡ xsum 16 (λ i. moved (120 - 8 * i) (f i))
lanes_folded f k a b c d r eight small ea eb ec ed is =
    let at : (o l n : ℕ) → n ≡ lane_sum f o l k * 2 ^ (72 - 8 * k) → n ≡ lane_sum f o l 8 * 2 ^ 8 = λ o l n e.
    e ∙ ap (λ j. lane_sum f o l j * 2 ^ (72 - 8 * j)) eight in
    let fa = at 0 0 a ea in
    let fb = at 0 1 b eb in
    let fc = at 8 0 c ec in
    let fd = at 8 1 d ed in
    is ∙ ap (λ n. folded (bit_xor (bit_xor n (b * 2 ^ 64)) (bit_xor (c * 2 ^ 64) (d * 2 ^ 128)))) fa ∙ ap (λ n. folded (bit_xor (bit_xor (lane_sum f 0 0 8 * 2 ^ 8) (n * 2 ^ 64)) (bit_xor (c * 2 ^ 64) (d * 2 ^ 128)))) fb ∙ ap (λ n. folded (bit_xor (bit_xor (lane_sum f 0 0 8 * 2 ^ 8) (lane_sum f 0 1 8 * 2 ^ 8 * 2 ^ 64)) (bit_xor (n * 2 ^ 64) (d * 2 ^ 128)))) fc ∙ ap (λ n. folded (bit_xor (bit_xor (lane_sum f 0 0 8 * 2 ^ 8) (lane_sum f 0 1 8 * 2 ^ 8 * 2 ^ 64)) (bit_xor (lane_sum f 8 0 8 * 2 ^ 8 * 2 ^ 64) (n * 2 ^ 128)))) fd ∙ ap folded (lanes_joined f small) ∙ blocks_folded f

-- before the first step
pub lanes_begun : (f : ℕ → ℕ) (o l m : ℕ) → m < 4 → get_or (replicate 4 0) m 0 * 2 ^ 64 + get_or (replicate 4 0) m 0 ≡ lane_sum f o l 0 * 2 ^ (72 - 8 * 0)
lanes_begun f o l m within =
    let e : get_or (replicate {A = ℕ} 4 0) m 0 ≡ 0 = get_or-replicate 4 m 0 0 within in
    ap (λ z. z * 2 ^ 64 + z) e ∙ ap (λ s. s * 2 ^ 72) (sym (lane_sum-none f o l))

-- the step of `next` for a half of a vector, which has the bytes eight places further
pub half_sum-next : (f : ℕ → ℕ) (p : List ℕ) (t l k before after : ℕ) → k < 8 → t < 2 → length p ≡ 32
    → ((i : ℕ) → i < 16 → get_or p (16 * t + i) 0 ≡ block_byte (f i) (8 * t + k))
    → before ≡ lane_sum f (8 * t) l k * 2 ^ (72 - 8 * k)
    → after ≡ bit_xor (before / 2 ^ 8) (word (number_l 256 (half_lanes p t)) l * 2 ^ 64)
    → after ≡ lane_sum f (8 * t) l (k + 1) * 2 ^ (72 - 8 * (k + 1))
half_sum-next f p t l k before after within half long is was now =
    lane_sum-next f (half_lanes p t) (8 * t) l k before after within (half_long p t long half) (λ i h. lane_of_half p t i h ∙ is i h) was now
