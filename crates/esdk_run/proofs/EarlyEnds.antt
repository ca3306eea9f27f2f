-- What is left where `encrypt` ends early.
use Rattle.std.proofs.Common.{◌≡◌, ◌≢◌, ◌⊎◌, ◌≤◌, ℕ, List, Option, Some, inl, inr, subst}
use Rattle.std.specs.Prelude.{⊤}
use Rattle.stream_seal.specs.Start.{drawn_id}
use Rattle.esdk_args.specs.declared.request.EncryptWords.{EncryptWords}
use Rattle.esdk_fields.specs.declared.refusals.Outside.TheVariants as outsides
use Rattle.esdk_fields.specs.declared.refusals.Refusal.{Refusal}
use Rattle.esdk_fields.specs.declared.refusals.Refusal.TheVariants as refusals
use Rattle.context_codec.specs.Context.{KeyValue}
use Rattle.keyring_trait.specs.Keyring.{KeyringMeaning}
use Rattle.keyring_trait.specs.Materials.{EncMaterialsValue}
use Rattle.keyring_trait.specs.Wrapping.{WrapKeyValue}
use Rattle.esdk_encrypt.specs.declared.errors.EncryptError.{EncryptError}
use Rattle.esdk_encrypt.specs.declared.errors.EncryptError.TheVariants as errors
use Rattle.esdk_encrypt.specs.Encrypt.{EncryptEnds, EndsAfter}
use Rattle.esdk_encrypt.specs.Laws.{GainsMessageFront}
use Rattle.esdk_encrypt.specs.Told.{Writer, encrypting_by}
use Rattle.esdk_encrypt.proofs.EarlyEnds.{leaves_front}
use Rattle.esdk_encrypt.proofs.Telling.{ends_more}
use Rattle.esdk_run.specs.ArmouredMessage.{output_form, output_gains}
use Rattle.esdk_run.specs.EarlyEnd.{LeavesMessageFront}
use Rattle.esdk_run.specs.Encrypt.{encrypt_asked, refusal_asked, run_writer}
use Rattle.esdk_run.specs.Objects.{Objects, Unchanged, same_streams}
use Rattle.esdk_run.specs.Run.{EncryptRuns}
use Rattle.esdk_run.specs.Trees.{HasTree, Trees}
use Rattle.esdk_run.proofs.Promised.{LeavesAFront}
use Rattle.esdk_run.proofs.ArmouredMessage.{forms_keep_fronts}
use Rattle.esdk_run.proofs.Encryption.{Ending, had_tree}
use Rattle.esdk_run.proofs.Given.{one_context}
use Rattle.esdk_run.proofs.Keys.{told_says_more}
use Rattle.esdk_run.proofs.TreesBack.{told_then}

module _ (asked : EncryptWords) (writer : Writer) (refusal : Option Refusal) (old new : ℕ) (before after : Objects) (wide : 1 ≤ writer.size) where
  -- the message was begun
  begun_leaves : (error : EncryptError) → EndsAfter (encrypting_by writer refusal old new) before.input after.input (output_gains asked.armour before.output after.output) before.entropy after.entropy error
      → LeavesMessageFront asked writer before after
  begun_leaves error ends = record {
    drawn = ends.drawn;
    drew = ends.started.drew;
    front = subst (λ (m : EncMaterialsValue). GainsMessageFront (output_form asked.armour) m writer.size (drawn_id ends.drawn) before.input after.input before.output after.output) ends.started.given.1
        (leaves_front (output_form asked.armour) (forms_keep_fronts asked.armour) ends.materials writer.size (drawn_id ends.drawn) wide before.input after.input before.output after.output error ends.stops);
  }

  -- or nothing was taken or written
  ends_leaves : (untouched : Type 0) (error : EncryptError)
      → EncryptEnds (encrypting_by writer refusal old new) before.input after.input (output_gains asked.armour before.output after.output) before.entropy after.entropy untouched ⊤ error
      → untouched ⊎ LeavesMessageFront asked writer before after
  ends_leaves untouched (errors.Outside outsides.EntropyFault) ends = inl ends.same
  ends_leaves untouched (errors.Outside outsides.KeyringFault) ends = inl ends.same
  ends_leaves untouched (errors.Outside outside) ends = inr (begun_leaves (errors.Outside outside) ends)
  ends_leaves untouched (errors.Refusal refusals.TooManyFrames) ends = inr (begun_leaves (errors.Refusal refusals.TooManyFrames) ends)
  ends_leaves untouched (errors.Refusal (refusals.TooManyDataKeys n)) ends = inl ends.same
  ends_leaves untouched (errors.Refusal (refusals.HeaderTooLong n)) ends = inl ends.same
  ends_leaves untouched (errors.Refusal refusal) ends = inl ends.same
  ends_leaves untouched errors.Memory ends = inl ends.same

ending_leaves : (asked : EncryptWords) (before after : Objects) (untouched : Type 0) (code : ℕ) (trees : Trees) (context : List KeyValue) (tree left : KeyringMeaning) (keys : List WrapKeyValue)
    → HasTree trees asked.pairs asked.keyring before.shelf after.shelf context tree left → tree.keys ≡ Some keys → 1 ≤ asked.frame → code ≢ 0
    → Ending (encrypt_asked asked context tree left) (output_gains asked.armour before.output after.output) before after untouched code
    → untouched ⊎ LeavesMessageFront asked (run_writer asked context keys) before after
ending_leaves asked before after untouched code trees context tree left keys has told wide undone (inl done) = absurd (undone done.0.status)
ending_leaves asked before after untouched code trees context tree left keys has told wide undone (inr (error, ends, said)) =
    ends_leaves asked (run_writer asked context keys) (refusal_asked asked context tree) tree.faults left.faults before after wide untouched error
    (ends_more (encrypt_asked asked context tree left) _ before.input after.input (output_gains asked.armour before.output after.output) before.entropy after.entropy untouched ⊤ error
    (told_says_more asked context tree left keys has.lawful told) ends)

pub leaves_a_front : (trees : Trees) (asked : EncryptWords) (before after : Objects) (unchanged : Unchanged) (code : ℕ)
    → EncryptRuns trees asked before after unchanged code → LeavesAFront trees asked before after unchanged code
leaves_a_front trees asked before after unchanged code runs context left keys given kept told wide undone =
    let had = had_tree trees asked before after unchanged code left kept runs in
    subst (λ (c : List KeyValue). same_streams unchanged ⊎ LeavesMessageFront asked (run_writer asked c keys) before after) (one_context asked.pairs had.context context had.has.given.made given)
    (ending_leaves asked before after (same_streams unchanged) code trees had.context had.tree had.left keys had.has
    (told_then trees had.tree had.left left keys had.has.goes had.has.kept kept told) wide undone had.ended)
