-- How a file on a shelf is read as a value, and why it isn't: a keyring file, a job file, or the
-- file of an audit.
use Rattle.std.specs.Prelude.{◌≡◌, ◌⊎◌, ℕ, List, ⊤, Result, Ok, Err}
use Rattle.esdk_base.specs.Streams.{ShelfState}
use Rattle.esdk_fields.specs.declared.refusals.FileRefusal.{FileRefusal}
use Rattle.esdk_fields.specs.declared.refusals.FileRefusal.TheVariants.{FileTooLong}
use Rattle.esdk_fields.specs.declared.refusals.Outside.TheVariants as outsides
use Rattle.whole_input.specs.declared.file.FileError.{FileError}
use Rattle.whole_input.specs.File.{FileCause, IsFile, IsLong, IsUnread, LacksMemoryForFile}
use Rattle.esdk_report.specs.declared.failure.Failure.{Failure}
use Rattle.esdk_report.specs.declared.failure.Failure.TheVariants as failures
use Rattle.esdk_run.specs.Failures.{file_failure}

-- The file was read without a failure, and its bytes are read as this value.
pub record FileIs {A : Type 0} (read : List ℕ → Result A FileRefusal) (old new : ShelfState)
    (name : List ℕ) (value : A) : Type 0 where
  pub bytes : List ℕ
  pub file : IsFile old new name bytes
  pub is : read bytes ≡ Ok value

-- The file was read without a failure, and its bytes are refused.
pub record RefusesFile {A : Type 0} (read : List ℕ → Result A FileRefusal) (old new : ShelfState)
    (name : List ℕ) (refusal : FileRefusal) : Type 0 where
  pub bytes : List ℕ
  pub file : IsFile old new name bytes
  pub is : read bytes ≡ Err refusal

-- Why there is no value: the file gave more than 1,048,576 bytes (K10), or its bytes are refused; a
-- read failed; or memory ran out, while the file was read and no read failed, or once it was read.
abbrev pub FileFails : {A : Type 0} → (List ℕ → Result A FileRefusal) → ShelfState → ShelfState
    → List ℕ → Failure → Type 0
FileFails read old new name (failures.File refusal) =
    ((refusal ≡ FileTooLong) × IsLong old new name) ⊎ RefusesFile read old new name refusal
FileFails read old new name (failures.Outside outsides.ShelfFault) = IsUnread old new name
FileFails read old new name failures.Memory =
    LacksMemoryForFile old new name ⊎ ((bytes : List ℕ) × IsFile old new name bytes)
FileFails read old new name failure = ⊥

-- the file wasn't taken, for a reason that is called this failure
abbrev pub IsUntaken : (old new : ShelfState) → (name : List ℕ) → Failure → Type 0
IsUntaken old new name failure =
    (error : FileError) × (failure ≡ file_failure error) × FileCause old new name error

-- Why bytes that were taken aren't read as a value. Want of memory is free.
abbrev pub ReadCause : {A : Type 0} → (List ℕ → Result A FileRefusal) → List ℕ → Failure → Type 0
ReadCause read bytes (failures.File refusal) = read bytes ≡ Err refusal
ReadCause read bytes failures.Memory = ⊤
ReadCause read bytes failure = ⊥
