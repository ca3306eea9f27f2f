-- The steps of a round on the 16 bytes of a state.
use Rattle.std.proofs.Common.{◌≡◌, ℕ, ◌+◌, ◌*◌, ◌/◌, ◌%◌, ◌<◌, map, bit_xor, eqb, sym, ◌∙◌, arith, eqb→eq}
use Rattle.std.specs.List.{range_with_len}
use Rattle.std.specs.Int.Bits.{xor_assoc}
use Rattle.std.proofs.lemmas.List.FromFn.{get_or-map-range_with_len, length-map-range_with_len, fill_by_all}
use Rattle.cipher_spec.specs.Field.{xtime, field_product}
use Rattle.cipher_spec.specs.Aes.{add_round_key, mix_columns}
use Rattle.cipher_spec.proofs.Computed.{holds_below, at_each, same_below}
use Rattle.plane_core.specs.declared.planes.Planes.{Planes}
use Rattle.plane_core.specs.Bits.{byte_of, block, mixed_byte}
use Rattle.plane_core.specs.Places.{below}

-- lists of the same 16 members
pub same_state : (f g : ℕ → ℕ) → ((k : ℕ) → k < 16 → f k ≡ g k) → map f (range_with_len 0 16) ≡ map g (range_with_len 0 16)
same_state f g e =
    fill_by_all g (map f (range_with_len 0 16)) 16 0 (length-map-range_with_len f 0 16)
    (λ k h. get_or-map-range_with_len f 0 16 k k 0 h (omega arith) ∙ e k h)

-- ---- MixColumns on one byte

xtime_sum : (a b : ℕ) → a < 256 → b < 256 → xtime (bit_xor a b) ≡ bit_xor (xtime a) (xtime b)
xtime_sum a b h l =
    eqb→eq _ _ (at_each (λ j. eqb (xtime (bit_xor a j)) (bit_xor (xtime a) (xtime j))) 256
    (at_each (λ i. holds_below (λ j. eqb (xtime (bit_xor i j)) (bit_xor (xtime i) (xtime j))) 256) 256 tt a h) b l)

two_is : (a : ℕ) → a < 256 → xtime a ≡ field_product 2 a
unfolding field_product
two_is a h = same_below xtime (field_product 2) 256 tt a h

three_is : (a : ℕ) → a < 256 → bit_xor (xtime a) a ≡ field_product 3 a
unfolding field_product
three_is a h = same_below (λ a. bit_xor (xtime a) a) (field_product 3) 256 tt a h

pub mix_is : (a b c d : ℕ) → a < 256 → b < 256
    → bit_xor (bit_xor (xtime (bit_xor a b)) b) (bit_xor c d) ≡ mixed_byte a b c d
mix_is a b c d h l =
    rw (xtime_sum a b h l, xor_assoc (xtime a) (xtime b) b, two_is a h, three_is b l)
    (sym (xor_assoc (bit_xor (field_product 2 a) (field_product 3 b)) c d))

-- ---- whole states

-- the state that MixColumns makes of block b
pub mixed_alone : {P : Type 0} → (bit : P → ℕ → ℕ → ℕ) (x y : Planes P) (b : ℕ)
    → ((j : ℕ) → j < 16 → byte_of bit y j b
    ≡ mixed_byte (byte_of bit x j b) (byte_of bit x (below 1 j) b) (byte_of bit x (below 2 j) b) (byte_of bit x (below 3 j) b))
    → block bit y b ≡ mix_columns (block bit x b)
unfolding block
mixed_alone bit x y b e =
    let at = λ (j : ℕ). byte_of bit x j b in
    same_state (λ j. byte_of bit y (j % 4 + 4 * (j / 4)) b) (λ j. mixed_byte (at j) (at (below 1 j)) (at (below 2 j)) (at (below 3 j)))
    (λ j h. let i : j % 4 + 4 * (j / 4) ≡ j = omega arith in rw i (e j h))

pub key_added : {P : Type 0} → (bit : P → ℕ → ℕ → ℕ) (x y z : Planes P) (b : ℕ)
    → ((j : ℕ) → byte_of bit z j b ≡ bit_xor (byte_of bit x j b) (byte_of bit y j b))
    → block bit z b ≡ add_round_key (block bit x b) (block bit y b)
unfolding block
key_added bit x y z b e =
    same_state (λ j. byte_of bit z (j % 4 + 4 * (j / 4)) b) (λ j. bit_xor (byte_of bit x j b) (byte_of bit y j b))
    (λ j h. let i : j % 4 + 4 * (j / 4) ≡ j = omega arith in rw i (e j))
