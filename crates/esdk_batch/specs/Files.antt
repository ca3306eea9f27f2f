-- The files of a shelf before and after some calls, name by name.
use Rattle.std.specs.Prelude.{◌≡◌, ◌≢◌, ◌⊎◌, ◌≤◌, ◌+◌, ℕ, true, false, List, [], ◌++◌, length, take}
use Rattle.std.specs.Prelude.{drop, is_some, Result, Ok, Err}
use Rattle.std.specs.declared.option.Option.{Option}
use Rattle.std.specs.declared.option.Option.TheVariants.{Some}
use Rattle.std.specs.Option.{option_map}
use Rattle.esdk_fields.specs.declared.refusals.Outside.{Outside}
use Rattle.esdk_fields.specs.declared.refusals.Outside.TheVariants as outsides
use Rattle.esdk_base.specs.Streams.{ShelfState, FailsToRead, most_input}
use Rattle.esdk_base.specs.Shelf.{Files, Holds, file_of, is_missing}

-- the shelf tells its files where it told them, and every other name holds what it held
pub record KeepsOthers (old new : Option Files) (name : List ℕ) : Type 0 where
  pub tells : is_some new ≡ is_some old
  pub others : (other : List ℕ) → other ≢ name → file_of new other ≡ file_of old other

-- The bytes were appended to the name.
pub record FileGains (old new : Option Files) (name bytes : List ℕ) : Type 0 where
  pub keeps : KeepsOthers old new name
  pub this : file_of new name ≡ option_map (λ held. held ++ bytes) (file_of old name)

-- The name holds no bytes.
pub record Empties (old new : Option Files) (name : List ℕ) : Type 0 where
  pub keeps : KeepsOthers old new name
  pub this : is_some old ≡ true → file_of new name ≡ Some []

-- what making the file comes to: it holds nothing, or all is as before
abbrev pub Makes : {T E : Type 0} → Option Files → Option Files → List ℕ → Result T E → Type 0
Makes old new name (Ok done) = Empties old new name
Makes old new name (Err failed) = (new ≡ old) ⊎ Empties old new name

-- what making a file with these bytes comes to: it holds them; or all is as before, or it holds a
-- front of them
pub record Holding (old new : Option Files) (name bytes : List ℕ) : Type 0 where
  pub keeps : KeepsOthers old new name
  pub this : is_some old ≡ true → file_of new name ≡ Some bytes

abbrev pub MakesFile : {T E : Type 0} → Option Files → Option Files → List ℕ → List ℕ → Result T E
    → Type 0
MakesFile old new name bytes (Ok done) = Holding old new name bytes
MakesFile old new name bytes (Err failed) =
    (new ≡ old) ⊎ ((n : ℕ) × Holding old new name (take n bytes))

-- what putting these bytes behind the file comes to: all were, or a front of them
abbrev pub Puts : {T E : Type 0} → Option Files → Option Files → List ℕ → List ℕ → Result T E
    → Type 0
Puts old new name bytes (Ok done) = FileGains old new name bytes
Puts old new name bytes (Err failed) = (n : ℕ) × FileGains old new name (take n bytes)

-- The name is there, and so many bytes of what it holds, from this offset on, stand in the front of
-- the buffer; none only at the end.
pub record ReadsPiece (files : Option Files) (name : List ℕ) (at count : ℕ)
    (buffer : List ℕ) : Type 0 where
  pub there : is_missing files name ≡ false
  pub fits : count ≤ length buffer
  pub most : at + count ≤ most_input
  pub bytes : (text : List ℕ) → Holds files name text
      → drop at text ≡ take count buffer ++ drop (at + count) text
  pub end : (text : List ℕ) → Holds files name text → count ≡ 0 → drop at text ≡ []

-- why no piece is read: the read failed, or the name isn't there; or so many bytes were taken that
-- no more are
abbrev pub ReadsNone : ShelfState → ShelfState → List ℕ → ℕ → Outside → Type 0
ReadsNone old new name at outsides.ShelfFault = FailsToRead old new name
ReadsNone old new name at outsides.InputTooLong = (at ≡ most_input) × (new ≡ old)
ReadsNone old new name at outside = ⊥

-- what reading a piece comes to
abbrev pub ReadsAt : ShelfState → ShelfState → List ℕ → ℕ → List ℕ → Result ℕ Outside → Type 0
ReadsAt old new name at buffer (Ok count) =
    ReadsPiece old.files name at count buffer × (new.faults ≡ old.faults)
ReadsAt old new name at buffer (Err outside) = ReadsNone old new name at outside
