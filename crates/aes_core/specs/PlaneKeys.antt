-- Round keys as the rounds take them: in planes, and in vectors.
use Rattle.std.specs.Prelude.{ℕ, zero, suc, ◌<◌, ◌≡◌, List, bit_xor, slice_index_or}
use Rattle.cipher_spec.specs.Aes.{at, state_of, word_at}
use Rattle.plane_core.specs.declared.planes.Planes.{Planes}
use Rattle.plane_core.specs.Bits.{block}
use Rattle.aes_core.specs.Groups.{state_in}

-- a round key with the constant of the affine transformation added to each byte (FIPS 197, 5.1.1)
abbrev pub with_constant : List ℕ → List ℕ
with_constant k = state_of (λ r c. bit_xor (at k r c) 0x63)

-- the key that planes add in round r
unfoldable pub plane_key : List (List ℕ) → ℕ → List ℕ
plane_key schedule zero = word_at schedule 0
plane_key schedule (suc r) = with_constant (word_at schedule (suc r))

-- planes have the round keys of a schedule in each of `count` blocks
pub record HasKeys {P : Type 0} (bit : P → ℕ → ℕ → ℕ) (count : ℕ) (keys : List (Planes P))
    (schedule : List (List ℕ)) : Type 0 where
  pub is_key : (r b : ℕ) → r < 15 → b < count → (d : Planes P)
      → block bit (slice_index_or keys r d) b ≡ plane_key schedule r

-- vectors have the round keys of a schedule: the inner rounds' in the other basis of the S-box
pub record HasVectorKeys (keys schedule : List (List ℕ)) : Type 0 where
  pub is_first : word_at keys 0 ≡ word_at schedule 0
  pub is_inner : (r : ℕ) → 0 < r → r < 14
      → state_in (word_at keys r) ≡ with_constant (word_at schedule r)
  pub is_last : word_at keys 14 ≡ with_constant (word_at schedule 14)
