-- The end of a file as a receiver of bytes.
use Rattle.std.specs.Prelude.{◌≡◌, ℕ, false, List, take}
use Rattle.esdk_fields.specs.Counts.{Rose}
use Rattle.esdk_base.specs.Shelf.{is_missing}
use Rattle.esdk_base.specs.Streams.{ShelfState}
use Rattle.esdk_batch.specs.declared.file_end.FileEnd.{FileEnd}
use Rattle.esdk_batch.specs.Files.{FileGains}
use Rattle.esdk_batch.specs.ShelfCalls.{HasCalls, IsWrite}
use Rattle.esdk_batch.specs.Watching.{IsFrom, Watch, files_by}

-- It is the end of the same file of the same shelf, which is lent by the same name in proofs, and
-- was called only to append to the file. The file gained all of these bytes.
pub record FileTakes (lent still : ℕ) (name same : List ℕ) (old new : ShelfState)
    (bytes : List ℕ) : Type 0 where
  pub shelf : still ≡ lent
  pub file : same ≡ name
  pub gains : (by : Watch) → IsFrom by old
      → FileGains (files_by by old) (files_by by new) name bytes
  pub calls : HasCalls (IsWrite name) old new

-- An append failed, and the file gained a front of these bytes.
pub record AppendFails (lent still : ℕ) (name same : List ℕ) (old new : ShelfState)
    (bytes : List ℕ) : Type 0 where
  pub shelf : still ≡ lent
  pub file : same ≡ name
  pub gains : (by : Watch) → IsFrom by old
      → (count : ℕ) × FileGains (files_by by old) (files_by by new) name (take count bytes)
  pub calls : HasCalls (IsWrite name) old new
  pub rose : is_missing old.files name ≡ false → Rose old.faults new.faults

-- the same of an end of a file, over a shelf of which this says what it is
abbrev pub file_takes : {F : Type 0} → (F → ShelfState) → FileEnd F → FileEnd F → List ℕ → Type 0
file_takes state old new bytes =
    FileTakes old.shelf.ghost_name new.shelf.ghost_name old.name.now new.name.now
    (state old.shelf.now) (state new.shelf.now) bytes

abbrev pub file_fails : {F E : Type 0} → (F → ShelfState) → FileEnd F → FileEnd F → List ℕ → E
    → Type 0
file_fails state old new bytes error =
    AppendFails old.shelf.ghost_name new.shelf.ghost_name old.name.now new.name.now
    (state old.shelf.now) (state new.shelf.now) bytes
