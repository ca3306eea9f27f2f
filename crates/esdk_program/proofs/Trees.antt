-- What a run comes to that has no keyring tree.
use Rattle.std.proofs.Common.{◌≡◌, ◌⊎◌, ◌∙◌, ℕ, List, [], ◌∷◌, ◌++◌, Option, Some, Result, Err, refl, sym, ap, subst, arith, inl, inr}
use Rattle.std.specs.Prelude.{IfSome}
use Rattle.esdk_args.specs.declared.pair_words.PairWord.{PairWord}
use Rattle.esdk_fields.specs.declared.refusals.FileRefusal.{FileRefusal}
use Rattle.esdk_fields.specs.declared.refusals.FileRefusal.TheVariants.{FileTooLong}
use Rattle.esdk_fields.specs.declared.refusals.Outside.TheVariants as outsides
use Rattle.esdk_fields.specs.declared.refusals.Refusal.{Refusal}
use Rattle.esdk_base.specs.Shelf.{Files, is_missing}
use Rattle.esdk_base.specs.Streams.{ShelfState}
use Rattle.esdk_fields.specs.Counts.{Rose}
use Rattle.whole_input.specs.FileReads.{Grows, reads_in_row}
use Rattle.whole_input.proofs.Agreeing.{grows_none}
use Rattle.context_codec.specs.Context.{KeyValue}
use Rattle.keyring_trait.specs.Keyring.{KeyringMeaning}
use Rattle.whole_input.specs.File.{IsFile, IsLong}
use Rattle.esdk_report.specs.Report.{Reports}
use Rattle.esdk_report.specs.declared.failure.Failure.{Failure}
use Rattle.esdk_report.specs.declared.failure.Failure.TheVariants as failures
use Rattle.esdk_run.specs.FileReading.{FileFails, RefusesFile}
use Rattle.esdk_run.specs.Pairs.{RefusesWordPairs}
use Rattle.esdk_run.specs.Trees.{HasNoTree}
use Rattle.esdk_program.specs.Effect.{RunComesTo, Effect, refused}
use Rattle.esdk_program.specs.Program.{prepared, with_file, with_read}
use Rattle.esdk_program.specs.World.{IsOf, Run, World}
use Rattle.esdk_program.proofs.Ends.{refuses_unwritten, stops_unwritten}
use Rattle.esdk_program.proofs.Files.{IsPart, context_refused, context_taken, file_between, file_long, file_taken, gave_more, part_all, part_second}

-- ---- a file that gives no value

-- a file that is read behind others of the run, from when the shelf was so
pub record IsBehind (r : Run) (old : ShelfState) : Type 0 where
  pub files : old.files ≡ r.before.shelf.files
  pub faults : old.faults ≡ r.before.shelf.faults
  pub grown : Grows r.before.shelf.calls old.calls

pub behind_none : (r : Run) → IsBehind r r.before.shelf
behind_none r = record { files = refl; faults = refl; grown = grows_none r.before.shelf.calls }

module _ (r : Run) (world : World) (of : IsOf r world) (old : ShelfState) (behind : IsBehind r old) where
  -- K10
  long_file : (name : List ℕ) (go : List ℕ → Option Effect) → IsLong old r.after.shelf name → Reports (failures.File FileTooLong) r.code r.before.report r.after.report
      → r.after.output ≡ r.before.output → IfSome (with_file (world.files name) go) (RunComesTo r world)
  long_file name go long said same =
      let part : IsPart world.files old.calls r.after.shelf.calls =
      part_second world.files r.before.shelf.calls old.calls r.after.shelf.calls (part_all world.files r.before.shelf r.after.shelf of.files) behind.grown
      (reads_in_row name 0 long.read.pieces, long.read.calls) in
      let gave = gave_more world.files name long.bytes old.calls r.after.shelf.calls part long.read (omega (arith, long.over)) in
      refuses_unwritten r world (with_file (world.files name) go) (failures.File FileTooLong)
      (file_long (world.files name) gave.0 go gave.1 (omega (arith, gave.2, long.over))) said same

  -- a file that is refused: K10, or as its bytes are read
  refused_file : {A : Type 0} (read : List ℕ → Result A FileRefusal) (go_on : List ℕ → Result A FileRefusal → Option Effect) (name : List ℕ) (refusal : FileRefusal)
      → ((bytes : List ℕ) → go_on bytes (Err refusal) ≡ Some (refused [] (failures.File refusal)))
      → (((refusal ≡ FileTooLong) × IsLong old r.after.shelf name) ⊎ RefusesFile read old r.after.shelf name refusal) → Reports (failures.File refusal) r.code r.before.report r.after.report → r.after.output ≡ r.before.output
      → IfSome (with_file (world.files name) (λ bytes. go_on bytes (read bytes))) (RunComesTo r world)
  refused_file read go_on name refusal err (inl (is, long)) said same =
      long_file name (λ bytes. go_on bytes (read bytes)) long (subst (λ (f : FileRefusal). Reports (failures.File f) r.code r.before.report r.after.report) is said) same
  refused_file read go_on name refusal err (inr refuses) said same =
      refuses_unwritten r world (with_file (world.files name) (λ bytes. go_on bytes (read bytes))) (failures.File refusal)
      (file_taken (world.files name) refuses.bytes (λ bytes. go_on bytes (read bytes))
      (file_between world.files name refuses.bytes r.before.shelf r.after.shelf old.calls r.after.shelf.calls of.files behind.grown (grows_none r.after.shelf.calls) refuses.file.read)
      refuses.file.few ∙ ap (go_on refuses.bytes) refuses.is ∙ err refuses.bytes) said same

  -- ---- why there is no value

  pub file_fails : {A : Type 0} (read : List ℕ → Result A FileRefusal) (go_on : List ℕ → Result A FileRefusal → Option Effect) (name : List ℕ)
      → ((bytes : List ℕ) (refusal : FileRefusal) → go_on bytes (Err refusal) ≡ Some (refused [] (failures.File refusal)))
      → (failure : Failure) → FileFails read old r.after.shelf name failure → Reports failure r.code r.before.report r.after.report → r.after.output ≡ r.before.output
      → IfSome (with_file (world.files name) (λ bytes. go_on bytes (read bytes))) (RunComesTo r world)
  file_fails read go_on name err (failures.File refusal) fails said same = refused_file read go_on name refusal (λ bytes. err bytes refusal) fails said same
  file_fails read go_on name err (failures.Outside outsides.ShelfFault) fails said same = elim fails.cause [
    | inl rose ↦ stops_unwritten r world (with_file (world.files name) (λ bytes. go_on bytes (read bytes))) (failures.Outside outsides.ShelfFault)
        (subst (λ (n : ℕ). Rose n r.after.shelf.faults) behind.faults rose) said same
    | inr missing ↦ refuses_unwritten r world (with_file (world.files name) (λ bytes. go_on bytes (read bytes))) (failures.Outside outsides.ShelfFault)
        (ap (λ (o : Option (List ℕ)). with_file o (λ bytes. go_on bytes (read bytes)))
        (of.files.missing name (sym (ap (λ (f : Option Files). is_missing f name) behind.files) ∙ missing.0))) said same
  ]
  file_fails read go_on name err failures.Memory fails said same =
      stops_unwritten r world (with_file (world.files name) (λ bytes. go_on bytes (read bytes))) failures.Memory tt said same
  file_fails read go_on name err failure fails said same = absurd fails

-- ---- a second file

-- A file was read whole, and then another one gives no value. Where the first holds what was read, this is what the program does with the other.
module _ (r : Run) (world : World) (of : IsOf r world) (old : ShelfState) (behind : IsBehind r old) (one bytes : List ℕ) (file : IsFile r.before.shelf old one bytes) (o : Option Effect)
    {A : Type 0} (read : List ℕ → Result A FileRefusal) (go_on : List ℕ → Result A FileRefusal → Option Effect) (name : List ℕ)
    (err : (bytes : List ℕ) (refusal : FileRefusal) → go_on bytes (Err refusal) ≡ Some (refused [] (failures.File refusal)))
    (is : world.files one ≡ Some bytes → o ≡ with_file (world.files name) (λ b. go_on b (read b))) (same : r.after.output ≡ r.before.output) where
  abbrev Second : Type 0
  Second = IfSome o (RunComesTo r world)

  second_so : (failure : Failure) → FileFails read old r.after.shelf name failure → Reports failure r.code r.before.report r.after.report → world.files one ≡ Some bytes → Second
  second_so failure fails said holds =
      subst (λ (x : Option Effect). IfSome x (RunComesTo r world)) (sym (is holds)) (file_fails r world of old behind read go_on name err failure fails said same)

  -- the first holds what was read of it
  first_holds : Grows old.calls r.after.shelf.calls → world.files one ≡ Some bytes
  first_holds grown =
      file_between world.files one bytes r.before.shelf r.after.shelf r.before.shelf.calls old.calls of.files (grows_none r.before.shelf.calls) grown file.read

  pub second_fails : (failure : Failure) → FileFails read old r.after.shelf name failure → Reports failure r.code r.before.report r.after.report → Second
  second_fails (failures.File refusal) (inl (named, long)) said =
      second_so (failures.File refusal) (inl (named, long)) said (first_holds (reads_in_row name 0 long.read.pieces, long.read.calls))
  second_fails (failures.File refusal) (inr refuses) said =
      second_so (failures.File refusal) (inr refuses) said (first_holds (reads_in_row name 0 (refuses.file.read.pieces ++ [] ∷ []), refuses.file.read.calls))
  second_fails (failures.Outside outsides.ShelfFault) fails said =
      second_so (failures.Outside outsides.ShelfFault) fails said (first_holds (reads_in_row name 0 fails.read.pieces, fails.read.calls))
  second_fails failures.Memory fails said = stops_unwritten r world o failures.Memory tt said same
  second_fails failure fails said = absurd fails

module _ (r : Run) (world : World) (of : IsOf r world) where
  -- ---- why there is no tree

  pub no_tree : (words : List PairWord) (name : List ℕ) (go : List KeyValue → KeyringMeaning → Option Effect) (failure : Failure)
      → HasNoTree r.trees words name r.before.shelf r.after.shelf failure → Reports failure r.code r.before.report r.after.report → r.after.output ≡ r.before.output
      → IfSome (prepared words r.trees world name go) (RunComesTo r world)
  no_tree words name go failure lacks said same =
      subst (λ (o : Option Effect). IfSome o (RunComesTo r world)) (sym (context_taken words lacks.context r.trees world name go lacks.given.made))
      (file_fails r world of r.before.shelf (behind_none r) r.trees.read (λ bytes x. with_read x (go lacks.context)) name (λ bytes refusal. refl) failure lacks.cause said same)

  pub no_context : (words : List PairWord) (name : List ℕ) (go : List KeyValue → KeyringMeaning → Option Effect) (refusal : Refusal) (unread : Type 0)
      → RefusesWordPairs words refusal unread → Reports (failures.Refusal refusal) r.code r.before.report r.after.report → r.after.output ≡ r.before.output
      → IfSome (prepared words r.trees world name go) (RunComesTo r world)
  no_context words name go refusal unread refuses said same =
      refuses_unwritten r world (prepared words r.trees world name go) (failures.Refusal refusal) (context_refused words refusal r.trees world name go refuses.refused) said same
