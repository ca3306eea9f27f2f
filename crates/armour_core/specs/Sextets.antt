-- Bytes as numbers of six bits. Standard: RFC 4648, section 4.
use Rattle.std.specs.Prelude.{◌≡◌, ℕ, ◌+◌, ◌*◌, ◌/◌, ◌%◌, List, [], ◌∷◌, map, slice_index, take}
use Rattle.base64.specs.Engines.{standard}

-- the numbers of six bits that three bytes each are; two or one at the end are left out
unfoldable pub sextets_of : List ℕ → List ℕ
sextets_of (a ∷ b ∷ c ∷ rest) =
    a / 4 ∷ (a % 4 * 16 + b / 16) ∷ (b % 16 * 4 + c / 64) ∷ c % 64 ∷ sextets_of rest
sextets_of short = []

-- the symbols of such numbers
abbrev pub symbols_of : List ℕ → List ℕ
symbols_of numbers = map (λ i. slice_index standard.encode_table i) numbers

-- the symbols of bytes, of three each
abbrev pub symbols_in : List ℕ → List ℕ
symbols_in bytes = symbols_of (sextets_of bytes)

-- so many groups of four characters are the symbols of the first bytes, of three each
abbrev pub AreGroups : ℕ → List ℕ → List ℕ → Type 0
AreGroups count characters bytes = symbols_in (take (3 * count) bytes) ≡ take (4 * count) characters
