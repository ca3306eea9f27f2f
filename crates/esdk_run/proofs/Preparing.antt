-- Why a file gives nothing, and why a command doesn't begin, by what its calls answer.
use Rattle.std.proofs.Common.{◌≡◌, ℕ, List, None, Some, Err, inl, inr, refl, sym, ap, subst}
use Rattle.std.proofs.lemmas.Result.{IfErr-weaker}
use Rattle.std.specs.Prelude.{IfErr}
use Rattle.std.specs.declared.result.Result.{Result}
use Rattle.context_codec.specs.declared.insert.PairError.{PairError}
use Rattle.context_codec.specs.declared.insert.PairError.TheVariants as pairs
use Rattle.context_codec.specs.Context.{KeyValue}
use Rattle.esdk_args.specs.declared.pair_words.PairWord.{PairWord}
use Rattle.esdk_args.specs.declared.request.DecryptWords.{DecryptWords}
use Rattle.esdk_args.specs.declared.request.EncryptWords.{EncryptWords}
use Rattle.esdk_args.specs.declared.request.MigrateWords.{MigrateWords}
use Rattle.esdk_base.specs.Streams.{ShelfState}
use Rattle.esdk_fields.specs.declared.refusals.FileRefusal.{FileRefusal}
use Rattle.esdk_fields.specs.declared.refusals.Outside.TheVariants as outsides
use Rattle.esdk_fields.specs.declared.refusals.Refusal.{Refusal}
use Rattle.job_file.specs.Found.{MeansThis}
use Rattle.job_file.specs.JobFile.{JobFile}
use Rattle.job_file.specs.Jobs.{jobs_of}
use Rattle.json_values.specs.declared.errors.ReadError.{ReadError}
use Rattle.json_values.specs.declared.errors.ReadError.TheVariants as trees
use Rattle.keyring_file.specs.declared.plugs.Plug.{Plug}
use Rattle.keyring_file.specs.Found.{wraps_of}
use Rattle.keyring_file.specs.KeyFile.{FileAnswers, tree_of}
use Rattle.keyring_file.specs.Migrate.{Migrates, migration}
use Rattle.keyring_trait.specs.Keyring.{KeyringMeaning}
use Rattle.keyring_trait.specs.Manager.{Went}
use Rattle.multi_keyring.specs.declared.tree.Node.{Node}
use Rattle.multi_keyring.specs.Tree.{tree_meaning}
use Rattle.whole_input.specs.declared.file.FileError.TheVariants as files
use Rattle.whole_input.specs.File.{IsFile}
use Rattle.esdk_report.specs.declared.failure.Failure.{Failure}
use Rattle.esdk_report.specs.declared.failure.Failure.TheVariants as failures
use Rattle.esdk_run.specs.Batch.{jobs_in}
use Rattle.esdk_run.specs.Decrypt.{DecryptFails}
use Rattle.esdk_run.specs.Encrypt.{EncryptFails}
use Rattle.esdk_run.specs.Failures.{pairs_failure, tree_failure}
use Rattle.esdk_run.specs.FileReading.{FileFails, IsUntaken, ReadCause}
use Rattle.esdk_run.specs.Migrate.{value_asked}
use Rattle.esdk_run.specs.Objects.{Objects, Unchanged, same_streams}
use Rattle.esdk_run.specs.Pairs.{GivesContext, RefusesPairs, RefusesWordPairs, context_in}
use Rattle.esdk_run.specs.Prepared.{IsNotPrepared, IsPrepared}
use Rattle.esdk_run.specs.Trees.{HasNoTree, HasTree, IsUntouched, TreeLacksMemory, Trees, means, reading, trees_of}
use Rattle.esdk_run.proofs.Chain.{chain, chain_goes}

-- ---- files

-- a file that wasn't taken
pub file_not_taken : {A : Type 0} (read : List ℕ → Result A FileRefusal) (old new : ShelfState) (name : List ℕ)
    (failure : Failure) → IsUntaken old new name failure → FileFails read old new name failure
file_not_taken read old new name failure (files.Shelf, is, cause) =
    subst (λ (f : Failure). FileFails read old new name f) (sym is) cause
file_not_taken read old new name failure (files.TooLong, is, cause) =
    subst (λ (f : Failure). FileFails read old new name f) (sym is) (inl (refl, cause))
file_not_taken read old new name failure (files.Memory, is, cause) =
    subst (λ (f : Failure). FileFails read old new name f) (sym is) (inl cause)

-- a file that was taken and isn't read as a value
not_read : {A : Type 0} (read : List ℕ → Result A FileRefusal) (old new : ShelfState) (name bytes : List ℕ)
    → IsFile old new name bytes → (failure : Failure) → ReadCause read bytes failure → FileFails read old new name failure
not_read read old new name bytes file (failures.File refusal) cause = inr (record { bytes = bytes; file = file; is = cause })
not_read read old new name bytes file failures.Memory cause = inr (bytes, file)
not_read read old new name bytes file failure cause = absurd cause

pub file_not_read : {A B : Type 0} (read : List ℕ → Result A FileRefusal) (old new : ShelfState) (name bytes lent : List ℕ)
    (r : Result B Failure) → lent ≡ bytes → IsFile old new name bytes → IfErr r (ReadCause read lent)
    → IfErr r (FileFails read old new name)
file_not_read read old new name bytes lent r same file cause =
    IfErr-weaker r (ReadCause read bytes) (FileFails read old new name) (not_read read old new name bytes file)
    (subst (λ (b : List ℕ). IfErr r (ReadCause read b)) same cause)

-- what is so for each reason why a file gives nothing is so for the one that there is
pub by_file : {A : Type 0} (read : List ℕ → Result A FileRefusal) (old new : ShelfState) (name : List ℕ) (So : Failure → Type 0)
    → ((refusal : FileRefusal) → So (failures.File refusal)) → So (failures.Outside outsides.ShelfFault) → So failures.Memory
    → (failure : Failure) → FileFails read old new name failure → So failure
by_file read old new name So file shelf memory (failures.File refusal) fails = file refusal
by_file read old new name So file shelf memory (failures.Outside outsides.ShelfFault) fails = shelf
by_file read old new name So file shelf memory (failures.Outside outside) fails = absurd fails
by_file read old new name So file shelf memory failures.Memory fails = memory
by_file read old new name So file shelf memory failures.NotRead fails = absurd fails
by_file read old new name So file shelf memory (failures.BadNumber option) fails = absurd fails
by_file read old new name So file shelf memory (failures.BadPair number) fails = absurd fails
by_file read old new name So file shelf memory (failures.Fault fault) fails = absurd fails
by_file read old new name So file shelf memory (failures.Refusal refusal) fails = absurd fails

-- a keyring file that is refused
pub tree_refused : {P : Type 0} (meaning : P → KeyringMeaning) (plugs : List (Plug P)) (bytes : List ℕ)
    (error : ReadError) (failure : Failure) → failure ≡ tree_failure error
    → FileAnswers (Err error) (tree_of (wraps_of meaning) bytes plugs) → ReadCause (reading meaning plugs) bytes failure
tree_refused meaning plugs bytes (trees.File refusal) failure is answers =
    subst (λ (f : Failure). ReadCause (reading meaning plugs) bytes f) (sym is) (ap (means meaning) answers)
tree_refused meaning plugs bytes trees.Memory failure is answers =
    subst (λ (f : Failure). ReadCause (reading meaning plugs) bytes f) (sym is) tt

-- a job file that is refused
pub jobs_refused : (name bytes : List ℕ) (error : ReadError) (failure : Failure) → failure ≡ tree_failure error
    → MeansThis {A = JobFile} (λ jobs. jobs) (Err error) (jobs_of bytes name) → ReadCause (jobs_in name) bytes failure
jobs_refused name bytes (trees.File refusal) failure is reads =
    subst (λ (f : Failure). ReadCause (jobs_in name) bytes f) (sym is) reads
jobs_refused name bytes trees.Memory failure is reads =
    subst (λ (f : Failure). ReadCause (jobs_in name) bytes f) (sym is) tt

-- a keyring file that is refused in version 2
pub migration_refused : (asked : MigrateWords) (bytes : List ℕ) (error : ReadError) (failure : Failure)
    → failure ≡ tree_failure error → Migrates (Err error) (migration asked.retire bytes)
    → ReadCause (value_asked asked) bytes failure
migration_refused asked bytes (trees.File refusal) failure is refuses =
    subst (λ (f : Failure). ReadCause (value_asked asked) bytes f) (sym is) refuses
migration_refused asked bytes trees.Memory failure is refuses =
    subst (λ (f : Failure). ReadCause (value_asked asked) bytes f) (sym is) tt

-- ---- what a command needs that seals or opens

-- its pairs are refused
pub pairs_not_prepared : (has : Trees) (words : List PairWord) (name : List ℕ) (old new : ShelfState) (unread : Type 0)
    (error : PairError) (failure : Failure) → failure ≡ pairs_failure error → RefusesPairs (context_in words) error
    → unread → IsNotPrepared has words name old new unread failure
pairs_not_prepared has words name old new unread (pairs.Refusal refusal) failure is refuses same =
    subst (λ (f : Failure). IsNotPrepared has words name old new unread f) (sym is)
    (record { refused = refuses; shelf = same })
pairs_not_prepared has words name old new unread pairs.Memory failure is refuses same =
    subst (λ (f : Failure). IsNotPrepared has words name old new unread f) (sym is) (inl same)

-- its keyring file gives no tree
pub tree_not_prepared : (has : Trees) (words : List PairWord) (name : List ℕ) (old new : ShelfState) (unread : Type 0)
    (context : List KeyValue) (failure : Failure) → GivesContext words context → FileFails has.read old new name failure
    → IsNotPrepared has words name old new unread failure
tree_not_prepared has words name old new unread context failures.NotRead given fails = absurd fails
tree_not_prepared has words name old new unread context (failures.BadNumber option) given fails = absurd fails
tree_not_prepared has words name old new unread context (failures.BadPair number) given fails = absurd fails
tree_not_prepared has words name old new unread context (failures.Fault fault) given fails = absurd fails
tree_not_prepared has words name old new unread context (failures.File refusal) given fails =
    record { context = context; given = given; cause = fails }
tree_not_prepared has words name old new unread context (failures.Outside outsides.ShelfFault) given fails =
    record { context = context; given = given; cause = fails }
tree_not_prepared has words name old new unread context (failures.Outside outside) given fails = absurd fails
tree_not_prepared has words name old new unread context (failures.Refusal refusal) given fails = absurd fails
tree_not_prepared has words name old new unread context failures.Memory given fails =
    inr (record { context = context; given = given; cause = fails })

-- what is so for each reason is so for the one that there is
pub by_cause : (has : Trees) (words : List PairWord) (name : List ℕ) (old new : ShelfState) (unread : Type 0) (So : Failure → Type 0)
    → ((refusal : Refusal) → RefusesWordPairs words refusal unread → So (failures.Refusal refusal))
    → ((refusal : FileRefusal) → HasNoTree has words name old new (failures.File refusal) → So (failures.File refusal))
    → (HasNoTree has words name old new (failures.Outside outsides.ShelfFault) → So (failures.Outside outsides.ShelfFault))
    → (TreeLacksMemory has words name old new unread → So failures.Memory) → (failure : Failure)
    → IsNotPrepared has words name old new unread failure → So failure
by_cause has words name old new unread So refused file shelf memory failures.NotRead cause = absurd cause
by_cause has words name old new unread So refused file shelf memory (failures.BadNumber option) cause = absurd cause
by_cause has words name old new unread So refused file shelf memory (failures.BadPair number) cause = absurd cause
by_cause has words name old new unread So refused file shelf memory (failures.Fault fault) cause = absurd cause
by_cause has words name old new unread So refused file shelf memory (failures.File refusal) cause = file refusal cause
by_cause has words name old new unread So refused file shelf memory (failures.Outside outsides.ShelfFault) cause = shelf cause
by_cause has words name old new unread So refused file shelf memory (failures.Outside outside) cause = absurd cause
by_cause has words name old new unread So refused file shelf memory (failures.Refusal refusal) cause = refused refusal cause
by_cause has words name old new unread So refused file shelf memory failures.Memory cause = memory cause

-- then `encrypt` fails so, and leaves all but the shelf untouched
pub encrypt_not_begun : (has : Trees) (asked : EncryptWords) (before after : Objects) (unchanged : Unchanged)
    (failure : Failure) → IsNotPrepared has asked.pairs asked.keyring before.shelf after.shelf unchanged.shelf failure
    → IsUntouched has (same_streams unchanged × unchanged.entropy) → EncryptFails has asked before after unchanged failure
encrypt_not_begun has asked before after unchanged failure cause same =
    by_cause has asked.pairs asked.keyring before.shelf after.shelf unchanged.shelf (EncryptFails has asked before after unchanged)
    (λ refusal pairs. inl (pairs, same)) (λ refusal none. (none, same)) (λ none. (none, same)) (λ lacks. inl (lacks, same)) failure cause

-- and so does `decrypt`
pub decrypt_not_begun : (has : Trees) (asked : DecryptWords) (before after : Objects) (unchanged : Unchanged)
    (failure : Failure) → IsNotPrepared has asked.pairs asked.keyring before.shelf after.shelf unchanged.shelf failure
    → IsUntouched has (same_streams unchanged) → DecryptFails has asked before after unchanged failure
decrypt_not_begun has asked before after unchanged failure cause same =
    by_cause has asked.pairs asked.keyring before.shelf after.shelf unchanged.shelf (DecryptFails has asked before after unchanged)
    (λ refusal pairs. (pairs, same)) (λ refusal none. (none, same)) (λ none. (none, same)) (λ lacks. inl (lacks, same)) failure cause

-- ---- what a command has that began

-- The words give a context, and the file a tree; of that this is left, when the chain of managers over it went so.
pub has_tree : {P : Type 0} (meaning : P → KeyringMeaning) (plugs : List (Plug P)) (words : List PairWord) (name : List ℕ) (old new : ShelfState)
    (context : List KeyValue) (p q : Node P × List (List ℕ)) (left : Node P)
    → IsPrepared (trees_of meaning plugs None) words name old new context p.1 (tree_meaning meaning p.0)
    → left ≡ q.0 → Went (chain (tree_meaning meaning p.0) p.1) (chain (tree_meaning meaning q.0) q.1)
    → HasTree (trees_of meaning plugs (Some left)) words name old new context (tree_meaning meaning p.0) (tree_meaning meaning left)
has_tree meaning plugs words name old new context p q left has is went = record {
  given = has.given;
  file = has.file;
  lawful = has.lawful;
  kept = refl;
  goes = chain_goes (tree_meaning meaning) p q left is went;
}
