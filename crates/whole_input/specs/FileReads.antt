-- The calls of a shelf that read a file, and the bytes that they gave.
use Rattle.std.specs.Prelude.{◌≡◌, ◌⊎◌, ℕ, ◌+◌, ◌≤◌, List, [], ◌∷◌, ◌++◌, length, drop, Bool, true}
use Rattle.std.specs.Prelude.{⊤}
use Rattle.std.specs.List.{All, Contains, concat}
use Rattle.esdk_seen.specs.Calls.{ShelfCall, announces, appends, creates, finishes, reads}
use Rattle.esdk_base.specs.Shelf.{Holds}
use Rattle.esdk_base.specs.Streams.{ShelfState}

-- ---- reads in a row

-- the reads of a file in a row, from an offset on, that gave these pieces
unfoldable pub reads_in_row : List ℕ → ℕ → List (List ℕ) → List ShelfCall
reads_in_row name at [] = []
reads_in_row name at (piece ∷ more) =
    reads name at piece ∷ reads_in_row name (at + length piece) more

-- Between two moments of a shelf its calls were reads of this file in a row, from the offset on,
-- which gave these bytes.
pub record ReadsRow (name : List ℕ) (at : ℕ) (old new : List ShelfCall) (bytes : List ℕ)
    : Type 0 where
  pub pieces : List (List ℕ)
  pub calls : new ≡ old ++ reads_in_row name at pieces
  pub all : bytes ≡ concat pieces

-- The same of all of the file: the reads began at its front, and the last one gave nothing.
pub record ReadsWholeFile (name : List ℕ) (old new : List ShelfCall) (bytes : List ℕ) : Type 0 where
  pub pieces : List (List ℕ)
  pub calls : new ≡ old ++ reads_in_row name 0 (pieces ++ [] ∷ [])
  pub all : bytes ≡ concat pieces

-- Among the calls between two moments is a read of this file that gave nothing, at this offset or
-- before it.
pub record SeesEnd (name : List ℕ) (at : ℕ) (old new : List ShelfCall) : Type 0 where
  pub made : List ShelfCall
  pub calls : new ≡ old ++ made
  pub end : ℕ
  pub within : end ≤ at
  pub read : Contains made (reads name end [])

-- Between two moments of a source over a file, which had come so far at the first, the bytes that
-- came are those that reads in a row gave from there on. Where its end is seen at the second
-- moment, it was seen at the first, or one of these reads gave nothing.
pub record ComesFrom (name : List ℕ) (at now_at : ℕ) (old new : List ShelfCall)
    (came now_came : List ℕ) (ended now_ended : Bool) : Type 0 where
  pub bytes : List ℕ
  pub more : now_came ≡ came ++ bytes
  pub on : now_at ≡ at + length bytes
  pub row : ReadsRow name at old new bytes
  pub end : now_ended ≡ true → (ended ≡ true) ⊎ SeesEnd name now_at old new

-- ---- bytes that agree with what reads gave

-- What a read from this offset gave is what these bytes have there; where it gave nothing, they end
-- there or before.
abbrev pub AgreesWithRead : List ℕ → ℕ → List ℕ → Type 0
AgreesWithRead bytes at piece =
    (drop at bytes ≡ piece ++ drop (at + length piece) bytes) × (piece ≡ [] → drop at bytes ≡ [])

-- so it is of each read of this file
abbrev pub AgreesWithCall : List ℕ → List ℕ → ShelfCall → Type 0
AgreesWithCall name bytes (reads other at piece) = other ≡ name → AgreesWithRead bytes at piece
AgreesWithCall name bytes (creates other) = ⊤
AgreesWithCall name bytes (appends other piece) = ⊤
AgreesWithCall name bytes (announces other) = ⊤
AgreesWithCall name bytes (finishes other whom) = ⊤

-- Calls were only added.
abbrev pub Grows : List ShelfCall → List ShelfCall → Type 0
Grows old new = (made : List ShelfCall) × (new ≡ old ++ made)

-- These bytes agree with each read of the file between two moments.
pub record IsReadAs (old new : List ShelfCall) (name bytes : List ℕ) : Type 0 where
  pub made : List ShelfCall
  pub calls : new ≡ old ++ made
  pub agree : All (AgreesWithCall name bytes) made

-- The file is these bytes to who saw the shelf between two moments: the shelf tells that it holds
-- just them, or they agree with each read of the file between. So a file that is changed while it
-- is read is any bytes that have at each offset what the read there gave. Where two reads of one
-- offset gave different bytes there are none.
abbrev pub IsSeenAs : ShelfState → ShelfState → List ℕ → List ℕ → Type 0
IsSeenAs old new name bytes = Holds old.files name bytes ⊎ IsReadAs old.calls new.calls name bytes
