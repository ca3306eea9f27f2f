-- The keys that the calls of a shelf read from a file.
use Rattle.std.specs.Prelude.{◌≡◌, ℕ, ◌<◌, ◌≤◌, ◌&&◌, ◌==◌, List, [], ◌∷◌, ◌++◌, length, take}
use Rattle.std.specs.Prelude.{Option, Some, None, Result, MatchResult, if◌then◌else◌}
use Rattle.std.specs.Str.{bytes_eq}
use Rattle.esdk_seen.specs.Calls.{ShelfCall, reads}
use Rattle.keydir_keyring.specs.Reading.{key_of_file}

-- the bytes of the file that reads in a row gave, behind one call more: what a read gave stands
-- from its offset on
abbrev pub row_with : List ℕ → List ℕ → ShelfCall → List ℕ
row_with file row (reads name at piece) =
    if bytes_eq name file then take at row ++ piece else row
row_with file row call = row

-- the key that ends with a call: a row of just 32 bytes, where a read of the file from there on
-- gave nothing
abbrev pub key_ended : List ℕ → List ℕ → ShelfCall → List (List ℕ)
key_ended file row (reads name at []) =
    if bytes_eq name file && length row == 32 && at == 32 then row ∷ [] else []
key_ended file row call = []

-- The keys that these calls read from the file, in their order, where the row before them is this.
abbrev pub keys_read : List ℕ → List ℕ → List ShelfCall → List (List ℕ)
keys_read file row [] = []
keys_read file row (call ∷ calls) =
    key_ended file row call ++ keys_read file (row_with file row call) calls

-- ---- what is read between two moments

-- the key, or none
abbrev pub key_or_none : Option (List ℕ) → List (List ℕ)
key_or_none (Some key) = key ∷ []
key_or_none None = []

-- The calls between two moments read this key from the file, or none.
abbrev pub ShowsKey : List ShelfCall → List ShelfCall → List ℕ → Option (List ℕ) → Type 0
ShowsKey old new file key = keys_read file [] new ≡ keys_read file [] old ++ key_or_none key

-- The first n bytes of the room were read from the front of the file: they are a key, where room is
-- left behind them and there are 32; else no key was read.
pub record ShowsRoom (old new : List ShelfCall) (file room : List ℕ) (n : ℕ) : Type 0 where
  pub ended : n < length room → ShowsKey old new file (key_of_file (take n room))
  pub full : length room ≤ n → ShowsKey old new file None

-- the same, or a read failed, and then no key was read
abbrev pub ShowsFront : {E : Type 0} → List ShelfCall → List ShelfCall → List ℕ → List ℕ
    → Result ℕ E → Type 0
ShowsFront old new file room result =
    MatchResult result (ShowsRoom old new file room) (λ _. ShowsKey old new file None)
