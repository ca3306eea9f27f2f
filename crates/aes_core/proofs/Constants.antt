-- The constant of the S-box passes through a round, and so may be added with the round key.
use Rattle.std.proofs.Common.{◌≡◌, ℕ, ◌+◌, ◌*◌, ◌/◌, ◌%◌, ◌<◌, List, map, get_or, bit_xor, sym, ap, ◌∙◌, arith}
use Rattle.std.specs.Int.Bits.{xor_assoc, xor_zero_r}
use Rattle.std.specs.List.{range_with_len}
use Rattle.std.proofs.lemmas.Nat.{xor_comm}
use Rattle.cipher_spec.specs.Field.{field_product}
use Rattle.cipher_spec.specs.Aes.{sub_byte, add_round_key, mix_columns, round, last_round}
use Rattle.cipher_spec.proofs.Computed.{same_below}
use Rattle.plane_core.specs.declared.planes.Planes.{Planes}
use Rattle.plane_core.specs.Bits.{byte_of, block, mixed_byte}
use Rattle.plane_core.specs.Places.{shifted, below}
use Rattle.plane_core.proofs.States.{same_state}
use Rattle.aes_core.specs.PlaneKeys.{with_constant}

-- ---- one byte

pub swap_inner : (a b c d : ℕ) → bit_xor (bit_xor a b) (bit_xor c d) ≡ bit_xor (bit_xor a c) (bit_xor b d)
swap_inner a b c d =
    xor_assoc a b (bit_xor c d) ∙ ap (bit_xor a) (sym (xor_assoc b c d) ∙ ap (λ n. bit_xor n d) (xor_comm b c) ∙ xor_assoc c b d)
    ∙ sym (xor_assoc a c (bit_xor b d))

two_times : (a : ℕ) → a < 256 → field_product 2 (bit_xor a 0x63) ≡ bit_xor (field_product 2 a) 0xC6
unfolding field_product
two_times a h = same_below (λ a. field_product 2 (bit_xor a 0x63)) (λ a. bit_xor (field_product 2 a) 0xC6) 256 tt a h

three_times : (a : ℕ) → a < 256 → field_product 3 (bit_xor a 0x63) ≡ bit_xor (field_product 3 a) 0xA5
unfolding field_product
three_times a h = same_below (λ a. field_product 3 (bit_xor a 0x63)) (λ a. bit_xor (field_product 3 a) 0xA5) 256 tt a h

twice_added : (a k : ℕ) → bit_xor (bit_xor a 0x63) (bit_xor k 0x63) ≡ bit_xor a k
twice_added a k = swap_inner a 0x63 k 0x63 ∙ xor_zero_r (bit_xor a k)

-- MixColumns of bytes with the constant is that of the bytes, with the constant
mixed_apart : (a b c d : ℕ) → a < 256 → b < 256
    → mixed_byte (bit_xor a 0x63) (bit_xor b 0x63) (bit_xor c 0x63) (bit_xor d 0x63) ≡ bit_xor (mixed_byte a b c d) 0x63
mixed_apart a b c d h l =
    let x = field_product 2 a in
    let y = field_product 3 b in
    rw (two_times a h, three_times b l, swap_inner x 0xC6 y 0xA5, swap_inner (bit_xor x y) 0x63 c 0x63, xor_zero_r (bit_xor (bit_xor x y) c))
    (sym (xor_assoc (bit_xor (bit_xor x y) c) d 0x63))

pub sub_byte_below : (a : ℕ) → sub_byte a < 256
unfolding sub_byte
sub_byte_below a = omega arith

-- ---- whole states

-- the state that SubBytes, but for the constant, and ShiftRows make of block b
abbrev pub subbed_and_shifted : {P : Type 0} → (P → ℕ → ℕ → ℕ) → Planes P → ℕ → List ℕ
subbed_and_shifted bit s b = map (λ j. bit_xor (sub_byte (byte_of bit s (shifted j) b)) 0x63) (range_with_len 0 16)

-- ShiftRows before SubBytes
pub shifted_first : {P : Type 0} → (bit : P → ℕ → ℕ → ℕ) (s x y : Planes P) (b : ℕ)
    → ((j b : ℕ) → j < 16 → byte_of bit x j b ≡ byte_of bit s (shifted j) b)
    → ((j b : ℕ) → byte_of bit y j b ≡ bit_xor (sub_byte (byte_of bit x j b)) 0x63)
    → block bit y b ≡ subbed_and_shifted bit s b
unfolding block
shifted_first bit s x y b moved subbed =
    same_state (λ j. byte_of bit y (j % 4 + 4 * (j / 4)) b) (λ j. bit_xor (sub_byte (byte_of bit s (shifted j) b)) 0x63) (λ j h.
    let i : j % 4 + 4 * (j / 4) ≡ j = omega arith in
    rw i (subbed j b ∙ ap (λ n. bit_xor (sub_byte n) 0x63) (moved j b h)))

-- a round whose S-box left out the constant, with a key that has it, by the bytes of the state
pub round_by_bytes : (s : ℕ → ℕ) (z t key k : List ℕ) → t ≡ map (λ j. bit_xor (sub_byte (s (shifted j))) 0x63) (range_with_len 0 16)
    → z ≡ add_round_key (mix_columns t) key → key ≡ with_constant k → z ≡ round (map s (range_with_len 0 16)) k
unfolding round
round_by_bytes s z t key k moved rounded keyed =
    let at = λ (j : ℕ). sub_byte (s j) in
    let plus = λ (j : ℕ). bit_xor (at j) 0x63 in
    let mix = λ (f : ℕ → ℕ) (j : ℕ). mixed_byte (f (shifted j)) (f (shifted (below 1 j))) (f (shifted (below 2 j))) (f (shifted (below 3 j))) in
    rounded ∙ ap (λ u. add_round_key (mix_columns u) key) moved
    ∙ ap (add_round_key (mix_columns (map (λ j. plus (shifted j)) (range_with_len 0 16)))) keyed
    ∙ same_state (λ j. bit_xor (mix plus j) (bit_xor (get_or k j 0) 0x63)) (λ j. bit_xor (mix at j) (get_or k j 0)) (λ j h.
    rw (mixed_apart (at (shifted j)) (at (shifted (below 1 j))) (at (shifted (below 2 j))) (at (shifted (below 3 j))) (sub_byte_below _) (sub_byte_below _))
    (twice_added (mix at j) (get_or k j 0)))

pub last_round_by_bytes : (s : ℕ → ℕ) (z t key k : List ℕ) → t ≡ map (λ j. bit_xor (sub_byte (s (shifted j))) 0x63) (range_with_len 0 16)
    → z ≡ add_round_key t key → key ≡ with_constant k → z ≡ last_round (map s (range_with_len 0 16)) k
unfolding last_round
last_round_by_bytes s z t key k moved rounded keyed =
    let at = λ (j : ℕ). sub_byte (s j) in
    rounded ∙ ap (λ u. add_round_key u key) moved
    ∙ ap (add_round_key (map (λ j. bit_xor (at (shifted j)) 0x63) (range_with_len 0 16))) keyed
    ∙ same_state (λ j. bit_xor (bit_xor (at (shifted j)) 0x63) (bit_xor (get_or k j 0) 0x63)) (λ j. bit_xor (at (shifted j)) (get_or k j 0)) (λ j h.
    twice_added (at (shifted j)) (get_or k j 0))

-- the same on planes
pub plane_round : {P : Type 0} → (bit : P → ℕ → ℕ → ℕ) (s z key : Planes P) (t : List ℕ) (b : ℕ) (k : List ℕ)
    → t ≡ subbed_and_shifted bit s b → block bit z b ≡ add_round_key (mix_columns t) (block bit key b)
    → block bit key b ≡ with_constant k → block bit z b ≡ round (block bit s b) k
unfolding block
plane_round bit s z key t b k moved rounded keyed = round_by_bytes (λ j. byte_of bit s j b) (block bit z b) t (block bit key b) k moved rounded keyed

pub plane_last_round : {P : Type 0} → (bit : P → ℕ → ℕ → ℕ) (s z key : Planes P) (t : List ℕ) (b : ℕ) (k : List ℕ)
    → t ≡ subbed_and_shifted bit s b → block bit z b ≡ add_round_key t (block bit key b)
    → block bit key b ≡ with_constant k → block bit z b ≡ last_round (block bit s b) k
unfolding block
plane_last_round bit s z key t b k moved rounded keyed = last_round_by_bytes (λ j. byte_of bit s j b) (block bit z b) t (block bit key b) k moved rounded keyed
