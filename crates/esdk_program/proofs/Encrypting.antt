-- What `encrypt` comes to.
use Rattle.std.proofs.Common.{◌≡◌, ◌⊎◌, ◌≤◌, List, take, Option, Some, None, refl, sym, subst, inl, inr}
use Rattle.std.specs.Prelude.{IfSome}
use Rattle.esdk_args.specs.declared.request.EncryptWords.{EncryptWords}
use Rattle.esdk_fields.specs.Counts.{Rose}
use Rattle.esdk_fields.specs.declared.refusals.Outside.TheVariants as outsides
use Rattle.context_codec.specs.Context.{KeyValue}
use Rattle.keyring_trait.specs.Keyring.{KeyringMeaning}
use Rattle.keyring_trait.specs.Wrapping.{WrapKeyValue}
use Rattle.esdk_encrypt.specs.declared.errors.EncryptError.{EncryptError}
use Rattle.esdk_encrypt.specs.declared.errors.EncryptError.TheVariants as errors
use Rattle.esdk_encrypt.specs.Encrypt.{Encrypts, EncryptEnds, drawn_count}
use Rattle.esdk_encrypt.specs.Told.{Writer, writer_wraps}
use Rattle.esdk_encrypt.proofs.Telling.{encrypts_more, ends_more}
use Rattle.esdk_report.specs.Report.{Reports}
use Rattle.esdk_report.specs.declared.failure.Failure.{Failure}
use Rattle.esdk_report.specs.declared.failure.Failure.TheVariants as failures
use Rattle.esdk_run.specs.ArmouredMessage.{output_form, output_gains}
use Rattle.esdk_run.specs.Encrypt.{EncryptFails, EncryptionFails, encrypt_asked, refusal_asked, run_writer}
use Rattle.esdk_run.specs.Failures.{encryption_failure}
use Rattle.esdk_run.specs.Objects.{Unchanged, same_streams}
use Rattle.esdk_run.specs.Run.{EncryptRuns, IsDone}
use Rattle.esdk_run.specs.Trees.{HasTree}
use Rattle.esdk_run.proofs.ArmouredMessage.{forms_keep_fronts}
use Rattle.esdk_run.proofs.Keys.{told_says_more}
use Rattle.esdk_program.specs.Effect.{RunComesTo, Effect, KeyringFailed}
use Rattle.esdk_program.specs.Program.{encrypt_effect, sealed_with, effect_unless, with_told}
use Rattle.esdk_program.specs.World.{IsOf, Run, World}
use Rattle.esdk_program.proofs.Ends.{stops_unwritten}
use Rattle.esdk_program.proofs.Files.{prepared_taken, whole_file}
use Rattle.esdk_program.proofs.Sealing.{seals_done, seals_ends}
use Rattle.esdk_program.proofs.Trees.{no_context, no_tree}

module _ (r : Run) (asked : EncryptWords) (unchanged : Unchanged) (world : World) (of : IsOf r world) (same : unchanged.output → r.after.output ≡ r.before.output)
    (wide : 1 ≤ asked.frame) where
  abbrev Done : Type 0
  Done = IfSome (encrypt_effect asked r.trees world) (RunComesTo r world)

  abbrev sealed_by : List KeyValue → KeyringMeaning → List WrapKeyValue → Effect
  sealed_by context tree keys =
      let writer : Writer = run_writer asked context keys in
      effect_unless (refusal_asked asked context tree) (sealed_with (output_form asked.armour) writer (take (drawn_count (writer_wraps writer)) world.random) world.input)

  abbrev sealed : List KeyValue → KeyringMeaning → Option Effect
  sealed context tree = with_told tree.keys (sealed_by context tree)

  abbrev Has : List KeyValue → KeyringMeaning → KeyringMeaning → Type 0
  Has context tree left = HasTree r.trees asked.pairs asked.keyring r.before.shelf r.after.shelf context tree left

  -- how the encryption under a tree ended
  abbrev Ended : List KeyValue → KeyringMeaning → KeyringMeaning → Type 0
  Ended context tree left =
      (IsDone r.code r.before.report r.after.report × Encrypts (encrypt_asked asked context tree left) r.before.input r.after.input
      (output_gains asked.armour r.before.output r.after.output) r.before.entropy r.after.entropy)
      ⊎ ((error : EncryptError) × EncryptEnds (encrypt_asked asked context tree left) r.before.input r.after.input
      (output_gains asked.armour r.before.output r.after.output) r.before.entropy r.after.entropy (same_streams unchanged) (left ≡ tree) error
      × Reports (encryption_failure error) r.code r.before.report r.after.report)

  keyring_failed : (context : List KeyValue) (tree left : KeyringMeaning) → Has context tree left → Rose tree.faults left.faults → KeyringFailed r world
  keyring_failed context tree left has rose = record {
    name = asked.keyring;
    bytes = has.file.bytes;
    tree = tree;
    left = left;
    file = whole_file world.files asked.keyring has.file.bytes r.before.shelf r.after.shelf of.files has.file.file.read;
    read = has.file.is;
    kept = has.kept;
    goes = has.goes;
    rose = rose;
  }

  -- under the keys that it tells
  under_keys : (context : List KeyValue) (tree left : KeyringMeaning) (keys : List WrapKeyValue) → Has context tree left → tree.keys ≡ Some keys → Ended context tree left
      → RunComesTo r world (sealed_by context tree keys)
  under_keys context tree left keys has told (inl done) =
      seals_done r world of (output_form asked.armour) (forms_keep_fronts asked.armour) (run_writer asked context keys) wide (refusal_asked asked context tree) tree.faults left.faults
      (keyring_failed context tree left has) done.0
      (encrypts_more (encrypt_asked asked context tree left) _ r.before.input r.after.input (output_gains asked.armour r.before.output r.after.output) r.before.entropy r.after.entropy
      (told_says_more asked context tree left keys has.lawful told) done.1)
  under_keys context tree left keys has told (inr (error, ends, said)) =
      seals_ends r world of (output_form asked.armour) (forms_keep_fronts asked.armour) (run_writer asked context keys) wide (refusal_asked asked context tree) tree.faults left.faults
      (keyring_failed context tree left has) (same_streams unchanged) (left ≡ tree) (λ both. same both.1) error
      (ends_more (encrypt_asked asked context tree left) _ r.before.input r.after.input (output_gains asked.armour r.before.output r.after.output) r.before.entropy r.after.entropy
      (same_streams unchanged) (left ≡ tree) error (told_says_more asked context tree left keys has.lawful told) ends) said

  with_these : (context : List KeyValue) (tree left : KeyringMeaning) → Has context tree left → Ended context tree left → (o : Option (List WrapKeyValue)) → tree.keys ≡ o
      → IfSome (with_told o (sealed_by context tree)) (RunComesTo r world)
  with_these context tree left has ended None told = tt
  with_these context tree left has ended (Some keys) told = under_keys context tree left keys has told ended

  with_tree_does : (context : List KeyValue) (tree left : KeyringMeaning) → Has context tree left → Ended context tree left → Done
  unfolding encrypt_effect
  with_tree_does context tree left has ended =
      subst (λ (o : Option Effect). IfSome o (RunComesTo r world))
      (sym (prepared_taken asked.pairs context r.trees world asked.keyring has.file.bytes tree sealed has.given.made
      (whole_file world.files asked.keyring has.file.bytes r.before.shelf r.after.shelf of.files has.file.file.read) has.file.file.few has.file.is))
      (with_these context tree left has ended tree.keys refl)

  ended_so : (error : EncryptError) → EncryptionFails r.trees asked r.before r.after (same_streams unchanged) error → Reports (encryption_failure error) r.code r.before.report r.after.report → Done
  ended_so error fails said = with_tree_does fails.context fails.tree fails.left fails.has (inr (error, fails.ended, said))

  fails_does : (failure : Failure) → EncryptFails r.trees asked r.before r.after unchanged failure → Reports failure r.code r.before.report r.after.report → Done
  unfolding encrypt_effect
  fails_does (failures.File refusal) fails said = no_tree r world of asked.pairs asked.keyring sealed (failures.File refusal) fails.0 said (same fails.1.same.0.1)
  fails_does (failures.Outside outsides.ShelfFault) fails said =
      no_tree r world of asked.pairs asked.keyring sealed (failures.Outside outsides.ShelfFault) fails.0 said (same fails.1.same.0.1)
  fails_does (failures.Outside outside) fails said = ended_so (errors.Outside outside) fails said
  fails_does (failures.Refusal refusal) (inl none) said = no_context r world of asked.pairs asked.keyring sealed refusal unchanged.shelf none.0 said (same none.1.same.0.1)
  fails_does (failures.Refusal refusal) (inr fails) said = ended_so (errors.Refusal refusal) fails said
  fails_does failures.Memory (inl none) said = stops_unwritten r world (encrypt_effect asked r.trees world) failures.Memory tt said (same none.1.same.0.1)
  fails_does failures.Memory (inr fails) said = ended_so errors.Memory fails said
  fails_does failure fails said = absurd fails

  pub encrypt_does : EncryptRuns r.trees asked r.before r.after unchanged r.code → Done
  encrypt_does (inl done) = with_tree_does done.1.context done.1.tree done.1.left done.1.has (inl (done.0, done.1.done))
  encrypt_does (inr fails) = fails_does fails.failure fails.because fails.said
