-- What `migrate` comes to.
use Rattle.std.proofs.Common.{◌≡◌, ◌∙◌, ℕ, List, [], ◌∷◌, ◌++◌, Option, Some, Result, refl, sym, ap, inl, inr}
use Rattle.std.specs.Prelude.{IfSome}
use Rattle.serde_json.specs.Data.{Data}
use Rattle.serde_json.specs.Written.{compact_text}
use Rattle.esdk_args.specs.declared.request.MigrateWords.{MigrateWords}
use Rattle.esdk_fields.specs.declared.refusals.FileRefusal.{FileRefusal}
use Rattle.esdk_fields.specs.declared.refusals.Outside.TheVariants as outsides
use Rattle.esdk_report.specs.Report.{Reports}
use Rattle.esdk_report.specs.declared.failure.Failure.{Failure}
use Rattle.esdk_report.specs.declared.failure.Failure.TheVariants as failures
use Rattle.esdk_run.specs.Migrate.{IsMigrated, MigrateFails, value_asked}
use Rattle.esdk_run.specs.Objects.{Unchanged}
use Rattle.esdk_run.specs.Run.{MigrateRuns}
use Rattle.esdk_program.specs.Effect.{RunComesTo, Effect, done_with}
use Rattle.esdk_program.specs.Program.{migrate_effect, with_value_read}
use Rattle.esdk_program.specs.World.{IsOf, Run, World}
use Rattle.esdk_program.proofs.Ends.{at_some, gains_none, stops}
use Rattle.esdk_program.proofs.Files.{file_taken, whole_file}
use Rattle.esdk_program.proofs.Trees.{behind_none, file_fails}

module _ (r : Run) (asked : MigrateWords) (unchanged : Unchanged) (world : World) (of : IsOf r world) (same : unchanged.output → r.after.output ≡ r.before.output) where
  abbrev Done : Type 0
  Done = IfSome (migrate_effect asked world) (RunComesTo r world)

  abbrev go_on : Result Data FileRefusal → Option Effect
  go_on read = with_value_read read (λ value. Some (done_with (compact_text value ++ 10 ∷ []) []))

  -- the text of the file in version 2
  migrated_is : (text : List ℕ) → IsMigrated asked r.before.shelf r.after.shelf text → migrate_effect asked world ≡ Some (done_with text [])
  unfolding migrate_effect
  migrated_is text is =
      file_taken (world.files asked.keyring) is.is.bytes (λ bytes. go_on (value_asked asked bytes))
      (whole_file world.files asked.keyring is.is.bytes r.before.shelf r.after.shelf of.files is.is.file.read) is.is.file.few
      ∙ ap go_on is.is.is ∙ ap (λ (t : List ℕ). Some (done_with t [])) (sym is.file.text)

  fails_does : (failure : Failure) → MigrateFails asked r.before.shelf r.after.shelf r.before.output r.after.output unchanged.output failure
      → Reports failure r.code r.before.report r.after.report → Done
  unfolding migrate_effect
  fails_does (failures.Outside outsides.SinkFault) fails said =
      at_some (migrate_effect asked world) (done_with fails.text []) (RunComesTo r world) (migrated_is fails.text fails.is)
      (stops r world (done_with fails.text []) (failures.Outside outsides.SinkFault) fails.failed.rose said fails.failed.front)
  fails_does failure fails said = file_fails r world of r.before.shelf (behind_none r) (value_asked asked) (λ bytes. go_on) asked.keyring (λ bytes refusal. refl) failure fails.0 said (same fails.1)

  pub migrate_does : MigrateRuns asked r.before r.after unchanged r.code → Done
  migrate_does (inl (done, writes)) =
      at_some (migrate_effect asked world) (done_with writes.text []) (RunComesTo r world) (migrated_is writes.text writes.is)
      (inl (record { code = done.status; output = writes.gained; report = gains_none r.before.report r.after.report done.same }))
  migrate_does (inr fails) = fails_does fails.failure fails.because fails.said
