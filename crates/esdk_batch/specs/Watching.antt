-- How the files of a shelf are known from one moment on: as the shelf tells them, or as its calls
-- show them, which every shelf tells.
use Rattle.std.specs.Prelude.{ℕ, ◌+◌, ◌≤◌, List, [], ◌∷◌, ◌++◌, length, drop, Bool, if◌then◌else◌}
use Rattle.std.specs.declared.option.Option.{Option}
use Rattle.std.specs.declared.option.Option.TheVariants.{None, Some}
use Rattle.std.specs.Option.{option_and_then}
use Rattle.std.specs.FinMap.{get}
use Rattle.std.specs.Str.{bytes_eq}
use Rattle.esdk_seen.specs.Calls.{ShelfCall, announces, appends, creates, finishes, reads}
use Rattle.esdk_base.specs.Shelf.{Files, appended, created}
use Rattle.esdk_base.specs.Streams.{ShelfState}

-- ---- what a call shows

-- what a read from this offset gave is what these bytes have there; where it gave nothing, they end
-- there or before
abbrev pub agrees : List ℕ → ℕ → List ℕ → Bool
agrees bytes at [] = bytes_eq (drop at bytes) []
agrees bytes at (byte ∷ piece) =
    bytes_eq (drop at bytes) (byte ∷ piece ++ drop (at + length (byte ∷ piece)) bytes)

-- a read of a name that holds this leaves the files, where it agrees, and else there are none
abbrev pub behind_read : Files → Option (List ℕ) → ℕ → List ℕ → Option Files
behind_read files None at piece = None
behind_read files (Some bytes) at piece = if agrees bytes at piece then Some files else None

-- the files behind a call, which were these before it
abbrev pub behind_call : Files → ShelfCall → Option Files
behind_call files (reads name at piece) = behind_read files (get files name) at piece
behind_call files (creates name) = Some (created files name)
behind_call files (appends name bytes) = Some (appended files name bytes)
behind_call files (announces name) = Some files
behind_call files (finishes name whom) = Some files

-- behind one after another, as long as there are any
abbrev pub behind_calls : Option Files → List ShelfCall → Option Files
behind_calls before [] = before
behind_calls before (call ∷ calls) =
    behind_calls (option_and_then (λ files. behind_call files call) before) calls

-- ---- how files are known

-- As the shelf tells them; or as the calls behind so many show them, before which they were these.
pub data Watch : Type 0 where
  as_told : Watch
  as_shown : ℕ → Files → Watch

-- the files of the shelf, known so
abbrev pub files_by : Watch → ShelfState → Option Files
files_by as_told shelf = shelf.files
files_by (as_shown since before) shelf = behind_calls (Some before) (drop since shelf.calls)

-- they are known at this moment
abbrev pub IsFrom : Watch → ShelfState → Type 0
IsFrom as_told shelf = Unit {0}
IsFrom (as_shown since before) shelf = since ≤ length shelf.calls

-- the files behind the calls that came since a moment at which they were these
abbrev pub shown_files : Files → ShelfState → ShelfState → Option Files
shown_files before old new = behind_calls (Some before) (drop (length old.calls) new.calls)
