-- A keyring file that the shelf tells is written in version 2.
use Rattle.std.proofs.Common.{◌≡◌, ◌≤◌, ℕ, List, Ok, length, inl, inr, refl, arith}
use Rattle.serde_json.specs.Data.{Data}
use Rattle.esdk_args.specs.declared.request.MigrateWords.{MigrateWords}
use Rattle.esdk_base.specs.Shelf.{Holds}
use Rattle.esdk_base.specs.Streams.{ShelfState, SinkState}
use Rattle.esdk_fields.specs.Counts.{Stayed}
use Rattle.esdk_fields.specs.declared.refusals.Outside.TheVariants as outsides
use Rattle.whole_input.specs.File.{most_file}
use Rattle.esdk_report.specs.declared.failure.Failure.{Failure}
use Rattle.esdk_report.specs.declared.failure.Failure.TheVariants as failures
use Rattle.esdk_run.specs.Migrate.{MigrateFails, value_asked}
use Rattle.esdk_report.specs.Report.{Reports}
use Rattle.esdk_run.specs.Objects.{Objects, Unchanged}
use Rattle.esdk_run.specs.Run.{MigrateRuns}
use Rattle.esdk_run.specs.Told.{IsDoneOrMemory}
use Rattle.esdk_run.proofs.Promised.{MigratesWhatIsHeld}
use Rattle.esdk_run.proofs.Files.{no_read_fails, not_refused}
use Rattle.esdk_run.proofs.Statuses.{memory_status}

-- what may end its migration
fails_held : (asked : MigrateWords) (old new : ShelfState) (before after : SinkState) (unwritten : Type 0) (code : ℕ) (report reported : SinkState) (bytes : List ℕ) (value : Data) (failure : Failure)
    → Holds old.files asked.keyring bytes → length bytes ≤ most_file → value_asked asked bytes ≡ Ok value
    → Stayed old.faults new.faults → Stayed before.faults after.faults
    → MigrateFails asked old new before after unwritten failure → Reports failure code report reported → IsDoneOrMemory code
fails_held asked old new before after unwritten code report reported bytes value failures.NotRead holds few is reading writing fails said = absurd fails.0
fails_held asked old new before after unwritten code report reported bytes value (failures.BadNumber name) holds few is reading writing fails said = absurd fails.0
fails_held asked old new before after unwritten code report reported bytes value (failures.BadPair number) holds few is reading writing fails said = absurd fails.0
fails_held asked old new before after unwritten code report reported bytes value (failures.Fault fault) holds few is reading writing fails said = absurd fails.0
fails_held asked old new before after unwritten code report reported bytes value (failures.File refusal) holds few is reading writing fails said =
    absurd (not_refused (value_asked asked) old new asked.keyring bytes value refusal holds few is fails.0)
fails_held asked old new before after unwritten code report reported bytes value (failures.Outside outsides.SinkFault) holds few is reading writing fails said =
    absurd (omega (arith, writing, fails.failed.rose))
fails_held asked old new before after unwritten code report reported bytes value (failures.Outside outsides.ShelfFault) holds few is reading writing fails said =
    absurd (no_read_fails old new asked.keyring bytes holds reading fails.0.cause)
fails_held asked old new before after unwritten code report reported bytes value (failures.Outside outside) holds few is reading writing fails said = absurd fails.0
fails_held asked old new before after unwritten code report reported bytes value (failures.Refusal refusal) holds few is reading writing fails said = absurd fails.0
fails_held asked old new before after unwritten code report reported bytes value failures.Memory holds few is reading writing fails said =
    inr (memory_status failures.Memory code report reported refl said)

pub migrates_what_is_held : (asked : MigrateWords) (before after : Objects) (unchanged : Unchanged) (code : ℕ)
    → MigrateRuns asked before after unchanged code → MigratesWhatIsHeld asked before.shelf after.shelf before.output after.output code
migrates_what_is_held asked before after unchanged code (inl done) bytes value holds few is reading writing = inl done.0.status
migrates_what_is_held asked before after unchanged code (inr fails) bytes value holds few is reading writing =
    fails_held asked before.shelf after.shelf before.output after.output unchanged.output code before.report after.report bytes value fails.failure holds few is reading writing
    fails.because fails.said
