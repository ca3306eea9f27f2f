-- What there was in the world when a run began, so far as the run looked; and a run.
use Rattle.std.specs.Prelude.{◌≡◌, ℕ, ◌^◌, ◌<◌, List, [], ◌++◌, length, true, ⊤, Option, None, Some}
use Rattle.std.specs.List.{All}
use Rattle.esdk_seen.specs.Calls.{ShelfCall, announces, appends, creates, finishes, reads}
use Rattle.esdk_base.specs.Shelf.{Holds, is_missing}
use Rattle.esdk_base.specs.Streams.{EntropyState, ShelfState, SourceState}
use Rattle.whole_input.specs.FileReads.{AgreesWithRead}
use Rattle.esdk_run.specs.Objects.{Objects}
use Rattle.esdk_run.specs.Promises.{Words}
use Rattle.esdk_run.specs.Trees.{Trees}

-- All bytes of the input; what each name holds, where it is a file's; and the random bytes, in the
-- order in which they are drawn.
pub record World : Type 0 where
  pub input : List ℕ
  pub files : List ℕ → Option (List ℕ)
  pub random : List ℕ

-- A run: its words; how it read keyring files, and which tree it gave back; what its objects told
-- and counted before and after; and its status.
pub record Run : Type 0 where
  pub words : Words
  pub trees : Trees
  pub before : Objects
  pub after : Objects
  pub code : ℕ

-- the run of these
abbrev pub run_of : Words → Trees → Objects → Objects → ℕ → Run
run_of words trees before after code =
    record { words = words; trees = trees; before = before; after = after; code = code }

-- ---- what came is of a world

-- The bytes that came from the input are the first of these, and all of them where its end was
-- seen.
pub record InputIs (before after : SourceState) (input : List ℕ) : Type 0 where
  pub came : List ℕ
  pub rest : List ℕ
  pub all : input ≡ came ++ rest
  pub told : after.came ≡ before.came ++ came
  pub whole : after.ended ≡ true → rest ≡ []

-- what a read from this offset gave stands there in what the name holds
abbrev pub IsIn : Option (List ℕ) → ℕ → List ℕ → Type 0
IsIn None at piece = ⊥
IsIn (Some bytes) at piece = AgreesWithRead bytes at piece

-- so it is of a call that reads
abbrev pub IsOfFiles : (List ℕ → Option (List ℕ)) → ShelfCall → Type 0
IsOfFiles files (reads name at piece) = IsIn (files name) at piece
IsOfFiles files (creates name) = ⊤
IsOfFiles files (appends name piece) = ⊤
IsOfFiles files (announces name) = ⊤
IsOfFiles files (finishes name whom) = ⊤

-- Each read gave what these files have there. Where the shelf tells what a name holds, it holds
-- that; and a name holds nothing exactly where the shelf tells that it isn't there. So on a shelf
-- that tells nothing each name holds something: there a file that can't be read is a failure.
pub record FilesAre (before after : ShelfState) (files : List ℕ → Option (List ℕ)) : Type 0 where
  pub made : List ShelfCall
  pub calls : after.calls ≡ before.calls ++ made
  pub agree : All (IsOfFiles files) made
  pub holds : (name bytes : List ℕ) → Holds before.files name bytes → files name ≡ Some bytes
  pub missing : (name : List ℕ) → is_missing before.files name ≡ true → files name ≡ None
  pub absent : (name : List ℕ) → files name ≡ None → is_missing before.files name ≡ true

-- The bytes that were drawn are the first of these.
pub record RandomIs (before after : EntropyState) (random : List ℕ) : Type 0 where
  pub drawn : List ℕ
  pub rest : List ℕ
  pub all : random ≡ drawn ++ rest
  pub told : after.drawn ≡ before.drawn ++ drawn

-- What came in the run is of this world, whose input has fewer than 2^62 bytes, and so has each
-- file. So a file that is changed while it is read is any that has at each place what was read
-- there; where two reads of one place gave different bytes there is none, and nothing is said.
pub record IsOf (r : Run) (world : World) : Type 0 where
  pub input : InputIs r.before.input r.after.input world.input
  pub files : FilesAre r.before.shelf r.after.shelf world.files
  pub random : RandomIs r.before.entropy r.after.entropy world.random
  pub few : length world.input < 2 ^ 62
  pub short : (name bytes : List ℕ) → world.files name ≡ Some bytes → length bytes < 2 ^ 62
