-- Words of bytes as rows of bits.
use Rattle.std.specs.Prelude.{ℕ, zero, suc, ◌+◌, ◌-◌, ◌/◌, ◌%◌, ◌==◌, List, map, slice_index}
use Rattle.std.specs.Prelude.{if◌then◌else◌}
use Rattle.std.specs.List.{range_with_len}
use Rattle.plane_core.specs.declared.planes.Planes.{Planes}

-- the bits of byte k of a word, the lowest first, where `cell` gives them
unfoldable pub bit_row : {W : Type 0} → (W → ℕ → ℕ → ℕ) → W → ℕ → List ℕ
bit_row cell w k = map (cell w k) (range_with_len 0 8)

-- of two rows, cut into groups of s bits: the groups with even numbers, each of the first row's and
-- then the second's
abbrev pub even_groups : ℕ → List ℕ → List ℕ → List ℕ
even_groups s x y =
    map (λ i. if i / s % 2 == 0 then slice_index x i else slice_index y (i - s))
    (range_with_len 0 8)

-- the groups with odd numbers
abbrev pub odd_groups : ℕ → List ℕ → List ℕ → List ℕ
odd_groups s x y =
    map (λ i. if i / s % 2 == 0 then slice_index x (i + s) else slice_index y i)
    (range_with_len 0 8)

-- word q of eight
abbrev pub plane_word : {W : Type 0} → Planes W → ℕ → W
plane_word x zero = x.b0
plane_word x (suc zero) = x.b1
plane_word x (suc (suc zero)) = x.b2
plane_word x (suc (suc (suc zero))) = x.b3
plane_word x (suc (suc (suc (suc zero)))) = x.b4
plane_word x (suc (suc (suc (suc (suc zero))))) = x.b5
plane_word x (suc (suc (suc (suc (suc (suc zero)))))) = x.b6
plane_word x (suc (suc (suc (suc (suc (suc (suc q))))))) = x.b7
