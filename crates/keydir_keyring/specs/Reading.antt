-- What is read of a file that holds a key.
use Rattle.std.specs.Prelude.{◌≡◌, ◌≢◌, ◌⊎◌, ℕ, ◌+◌, ◌<◌, ◌≤◌, ◌==◌, List, [], ◌∷◌, ◌++◌, length}
use Rattle.std.specs.Prelude.{take, Option, Some, None, IfSome, Result, MatchResult, if◌then◌else◌}
use Rattle.std.specs.Option.{option_and_then}
use Rattle.esdk_fields.specs.Counts.{RoseBy}
use Rattle.esdk_seen.specs.Calls.{ShelfCall, reads}
use Rattle.esdk_base.specs.Shelf.{Files, file_of, Holds}
use Rattle.esdk_base.specs.Streams.{FailsToRead, ShelfState}
use Rattle.whole_input.specs.FileReads.{ReadsRow, ReadsWholeFile}

-- the bytes, where there are just 32
abbrev pub key_of_file : List ℕ → Option (List ℕ)
key_of_file bytes = if length bytes == 32 then Some bytes else None

-- the key that the file holds, where the files are told and this one is there and has 32 bytes
abbrev pub told_key : Option Files → List ℕ → Option (List ℕ)
told_key told file = option_and_then key_of_file (file_of told file)

-- The first n bytes of the room are the first n of the file, where that is told.
pub record IsFilled (told : Option Files) (file room : List ℕ) (n : ℕ) : Type 0 where
  pub fits : n ≤ length room
  pub front : (bytes : List ℕ) → Holds told file bytes → take n room ≡ take n bytes

-- The same, and where room is left behind them, the file has no more.
pub record IsKeyFront (told : Option Files) (file room : List ℕ) (n : ℕ) : Type 0 where
  pub filled : IsFilled told file room n
  pub whole : n < length room → (bytes : List ℕ) → Holds told file bytes → length bytes ≡ n

-- The shelf gave just so many bytes, and no read failed.
pub record Gave (old new : ShelfState) (n : ℕ) : Type 0 where
  pub given : RoseBy n old.given new.given
  pub most : new.given ≤ old.given + n
  pub faults : new.faults ≡ old.faults

-- ---- the calls that read it

-- One read of the file gave so many bytes, from this offset on, and put them behind the first ones
-- of the room, which are as many as the offset says.
pub record ReadsOnce (old new : List ShelfCall) (file before after : List ℕ) (at more : ℕ)
    : Type 0 where
  pub piece : List ℕ
  pub long : length piece ≡ more
  pub call : new ≡ old ++ reads file at piece ∷ []
  pub room : take (at + more) after ≡ take at before ++ piece

-- what a read comes to: it gave so many bytes, or failed, which no call tells
abbrev pub ReadsMore : {E : Type 0} → List ShelfCall → List ShelfCall → List ℕ → List ℕ → List ℕ
    → ℕ → Result ℕ E → Type 0
ReadsMore old new file before after at result =
    MatchResult result (ReadsOnce old new file before after at) (λ _. new ≡ old)

-- The calls read the file in a row from its front, and gave the first n bytes of the room; where
-- room is left behind them, the last read gave nothing.
pub record ReadsKeyFront (old new : List ShelfCall) (file room : List ℕ) (n : ℕ) : Type 0 where
  pub row : ReadsRow file 0 old new (take n room)
  pub whole : n < length room → ReadsWholeFile file old new (take n room)

-- The calls read the file in a row from its front, and gave fewer bytes than that.
pub record ReadsFewer (old new : List ShelfCall) (file : List ℕ) (limit : ℕ) : Type 0 where
  pub bytes : List ℕ
  pub row : ReadsRow file 0 old new bytes
  pub few : length bytes < limit

-- ---- a key, or none

-- The calls read the file from its front to its end, and gave just these 32 bytes; they are the key
-- that it holds, where the files are told. No read failed.
pub record IsKey (old new : ShelfState) (file key : List ℕ) : Type 0 where
  pub read : ReadsWholeFile file old.calls new.calls key
  pub long : length key ≡ 32
  pub gave : Gave old new 32
  pub told : IfSome old.files (λ _. told_key old.files file ≡ Some key)

-- The calls read the file in a row from its front, and gave these bytes, which are more than 32, or
-- are fewer and all up to its end. No read failed, and no key is told.
pub record IsNoKey (old new : ShelfState) (file : List ℕ) : Type 0 where
  pub bytes : List ℕ
  pub read : ReadsRow file 0 old.calls new.calls bytes
  pub other : length bytes ≢ 32
  pub ended : length bytes < 32 → ReadsWholeFile file old.calls new.calls bytes
  pub gave : Gave old new (length bytes)
  pub none : told_key old.files file ≡ None

-- A read failed, behind reads of the file in a row from its front, which gave at most 32 bytes.
pub record KeyIsUnread (old new : ShelfState) (file : List ℕ) : Type 0 where
  pub cause : FailsToRead old new file
  pub read : ReadsFewer old.calls new.calls file 33

-- why there is no key: a read failed, or the file has more or fewer than 32 bytes
abbrev pub HasNoKey : ShelfState → ShelfState → List ℕ → Type 0
HasNoKey old new file = KeyIsUnread old new file ⊎ IsNoKey old new file

-- what reading the key comes to
abbrev pub ReadsKey : ShelfState → ShelfState → List ℕ → Option (List ℕ) → Type 0
ReadsKey old new file (Some key) = IsKey old new file key
ReadsKey old new file None = HasNoKey old new file
