-- What the command `migrate` comes to.
use Rattle.std.specs.Prelude.{◌≡◌, ℕ, List, Result, Ok}
use Rattle.std.specs.Io.KnownBytes.{Appends}
use Rattle.serde_json.specs.Data.{Data}
use Rattle.esdk_args.specs.declared.request.MigrateWords.{MigrateWords}
use Rattle.esdk_base.specs.Receiver.{SinkFails}
use Rattle.esdk_base.specs.Streams.{ShelfState, SinkState}
use Rattle.esdk_fields.specs.declared.refusals.FileRefusal.{FileRefusal}
use Rattle.esdk_fields.specs.declared.refusals.Outside.TheVariants as outsides
use Rattle.keyring_file.specs.Migrate.{IsFileOf, migration}
use Rattle.esdk_report.specs.declared.failure.Failure.{Failure}
use Rattle.esdk_report.specs.declared.failure.Failure.TheVariants as failures
use Rattle.esdk_run.specs.FileReading.{FileFails, FileIs}

-- the value in version 2 of a keyring file that has these bytes, with the key retired that the
-- words name
abbrev pub value_asked : MigrateWords → List ℕ → Result Data FileRefusal
value_asked asked bytes = migration asked.retire bytes

-- The text is the file of that value.
pub record IsTextOf (asked : MigrateWords) (bytes text : List ℕ) : Type 0 where
  pub value : Data
  pub is : value_asked asked bytes ≡ Ok value
  pub file : IsFileOf text value

-- The keyring file was read without a failure, and this is its text in version 2.
pub record IsMigrated (asked : MigrateWords) (old new : ShelfState) (text : List ℕ) : Type 0 where
  pub value : Data
  pub is : FileIs (value_asked asked) old new asked.keyring value
  pub file : IsFileOf text value

-- The output gained the text of the keyring file in version 2.
pub record WritesMigrated (asked : MigrateWords) (old new : ShelfState) (before after : SinkState)
    : Type 0 where
  pub text : List ℕ
  pub is : IsMigrated asked old new text
  pub gained : Appends before.written after.written text

-- The output failed, and gained a front of that text.
pub record MigrateWritesFront (asked : MigrateWords) (old new : ShelfState)
    (before after : SinkState) : Type 0 where
  pub text : List ℕ
  pub is : IsMigrated asked old new text
  pub failed : SinkFails before after text

-- Why the text wasn't written. `unwritten` says that the output is as before, as it is but where it
-- failed. Want of memory is as `FileFails` says.
abbrev pub MigrateFails : MigrateWords → ShelfState → ShelfState → SinkState → SinkState → Type 0
    → Failure → Type 0
MigrateFails asked old new before after unwritten (failures.Outside outsides.SinkFault) =
    MigrateWritesFront asked old new before after
MigrateFails asked old new before after unwritten failure =
    FileFails (value_asked asked) old new asked.keyring failure × unwritten
