-- What `reseal` comes to.
use Rattle.std.proofs.Common.{◌≡◌, ◌⊎◌, ◌∙◌, ℕ, ◌≤◌, List, [], ◌∷◌, ◌++◌, length, take, take_at, Option, Some, None, refl, sym, ap, subst, inl, inr}
use Rattle.std.specs.Prelude.{IfSome}
use Rattle.std.proofs.lemmas.Bool.{cases_lt}
use Rattle.std.proofs.lemmas.List.{append_cancel_left}
use Rattle.esdk_args.specs.declared.request.ResealWords.{ResealWords}
use Rattle.esdk_fields.specs.Counts.{Rose, Stayed, counted}
use Rattle.esdk_fields.specs.declared.refusals.Outside.TheVariants as outsides
use Rattle.esdk_base.specs.Streams.{ShelfState}
use Rattle.context_codec.specs.Context.{KeyValue}
use Rattle.keyring_trait.specs.Keyring.{KeyringMeaning}
use Rattle.keyring_trait.specs.Wrapping.{WrapKeyValue, active}
use Rattle.whole_input.specs.FileReads.{Grows, reads_in_row}
use Rattle.whole_input.proofs.Agreeing.{grows_none}
use Rattle.esdk_encrypt.specs.Encrypt.{Drew, drawn_count}
use Rattle.esdk_decrypt.specs.Told.{Reader, answering_by}
use Rattle.reseal_core.specs.declared.errors.InputError.{InputError}
use Rattle.reseal_core.specs.declared.errors.InputError.TheVariants as errors
use Rattle.reseal_core.specs.Reseal.{ResealEnds, Resealing, ResealsInput}
use Rattle.reseal_core.proofs.Telling.{Giving, GivesMore, input_more, stops_more}
use Rattle.esdk_report.specs.Report.{Reports}
use Rattle.esdk_report.specs.declared.failure.Failure.{Failure}
use Rattle.esdk_report.specs.declared.failure.Failure.TheVariants as failures
use Rattle.esdk_run.specs.Decrypt.{tree_answering}
use Rattle.esdk_run.specs.Failures.{resealing_failure}
use Rattle.esdk_run.specs.Giving.{refusal_over}
use Rattle.esdk_run.specs.Objects.{Unchanged, same_streams}
use Rattle.esdk_run.specs.Pairs.{required_in}
use Rattle.esdk_run.specs.Reseal.{HasFirst, HasNoSecond, HasSecond, ResealFails, ResealingFails, reseal_settings, reseal_asked, untouched}
use Rattle.esdk_run.specs.ResealTold.{reseal_reader, reseal_writer}
use Rattle.esdk_run.specs.Run.{ResealRuns, TellsOrLacksMemory}
use Rattle.esdk_run.specs.Trees.{IsLawful}
use Rattle.esdk_run.proofs.Keys.{keys_wrap, materials_told, tree_allows}
use Rattle.esdk_run.proofs.Resealing.{tree_giving}
use Rattle.esdk_program.specs.Effect.{RunComesTo, Effect, KeyringFailed}
use Rattle.esdk_program.specs.Program.{reseal_effect, resealed_by, with_both_keys, with_read, with_tree}
use Rattle.esdk_program.specs.World.{IsOf, Run, World}
use Rattle.esdk_program.proofs.Ends.{stops_unwritten}
use Rattle.esdk_program.proofs.Files.{file_between, prepared_taken, tree_taken}
use Rattle.esdk_program.proofs.Resealing.{over_keys, reseals_done, reseals_ends}
use Rattle.esdk_program.proofs.Trees.{IsBehind, no_context, no_tree, second_fails}

-- ---- under the keys of both trees

-- what the second tree's keys give
abbrev giving : Reader → KeyringMeaning → List WrapKeyValue → ℕ → Giving
giving reader second others size =
    let run : Resealing = over_keys reader second others size in record { wraps = run.wraps; gives = run.gives; gives_none = run.gives_none }

keys_give : (reader : Reader) (second : KeyringMeaning) (others : List WrapKeyValue) (size : ℕ) → IsLawful second → second.keys ≡ Some others
    → GivesMore (tree_giving second) (giving reader second others size)
keys_give reader second others size lawful told = record {
  wraps = keys_wrap second others lawful told;
  gives = λ request random m given. (given.unrefused, materials_told (refusal_over request.context second) second others request size None random m lawful told given);
  gives_none = λ request error cause. cause;
}

module _ (r : Run) (asked : ResealWords) (unchanged : Unchanged) (world : World) (of : IsOf r world) (same : unchanged.output → r.after.output ≡ r.before.output)
    (wide : 1 ≤ asked.frame) where
  abbrev Done : Type 0
  Done = IfSome (reseal_effect asked r.trees world) (RunComesTo r world)

  abbrev drawn_of : List WrapKeyValue → List ℕ
  drawn_of others = take (drawn_count (length (active others))) world.random

  abbrev resealed_so : List KeyValue → KeyringMeaning → List WrapKeyValue → List WrapKeyValue → Effect
  resealed_so given second keys others = resealed_by (reseal_reader asked given keys) second (reseal_writer asked others) (drawn_of others) world.input

  abbrev both_so : List KeyValue → KeyringMeaning → KeyringMeaning → Option Effect
  both_so given tree second = with_both_keys tree.keys second.keys (resealed_so given second)

  abbrev all_so : List KeyValue → KeyringMeaning → Option Effect
  all_so given tree = with_tree r.trees.plain world asked.to_keyring (both_so given tree)

  -- how the resealing ended
  abbrev Ended : Resealing → Type 0 → Type 0
  Ended run unasked =
      ((context : List KeyValue) × (ResealsInput run r.before.input r.after.input r.before.output r.after.output r.before.entropy r.after.entropy context
      × TellsOrLacksMemory context r.code r.before.report r.after.report))
      ⊎ ((error : InputError) × (ResealEnds run r.before.input r.after.input r.before.output r.after.output r.before.entropy r.after.entropy (same_streams unchanged) unasked error
      × Reports (resealing_failure error) r.code r.before.report r.after.report))

  -- the bytes that were drawn are the first of the world's
  drawn_is : (others : List WrapKeyValue) (drawn : List ℕ) → Drew (length (active others)) r.before.entropy r.after.entropy drawn → drawn_of others ≡ drawn
  drawn_is others drawn drew =
      let is : of.random.drawn ≡ drawn = append_cancel_left r.before.entropy.drawn of.random.drawn drawn (sym of.random.told ∙ drew.told) in
      ap (λ (n : ℕ). take n world.random) (sym drew.count)
      ∙ ap (take (length drawn)) (of.random.all ∙ ap (λ (d : List ℕ). d ++ of.random.rest) is)
      ∙ take_at drawn of.random.rest (length drawn) refl

  module _ (given : List KeyValue) (tree left second : KeyringMeaning) (keys others : List WrapKeyValue) (unasked : Type 0) where
    abbrev reader : Reader
    reader = reseal_reader asked given keys

    abbrev run : Resealing
    run = over_keys reader second others asked.frame

    -- by what the keys say
    by_keys : tree.keys ≡ Some keys → Stayed tree.faults left.faults → IsLawful second → second.keys ≡ Some others
        → Ended (reseal_asked asked given tree left second) unasked → Ended run unasked
    by_keys told stayed lawful second_told (inl (context, (done, shown))) = inl (
      context,
      (
        input_more (tree_answering (required_in asked.pairs) tree left) (answering_by reader) (reseal_settings asked) given
            (tree_giving second) (giving reader second others asked.frame) asked.frame (tree_allows (reseal_settings asked) given (required_in asked.pairs) tree left keys told stayed)
            (keys_give reader second others asked.frame lawful second_told) r.before.input r.after.input r.before.output r.after.output r.before.entropy r.after.entropy context done,
        shown,
      ),
    )
    by_keys told stayed lawful second_told (inr (error, (ends, said))) = inr (
      error,
      (
        stops_more (tree_answering (required_in asked.pairs) tree left) (answering_by reader) (reseal_settings asked) given
            (tree_giving second) (giving reader second others asked.frame) asked.frame (tree_allows (reseal_settings asked) given (required_in asked.pairs) tree left keys told stayed)
            (keys_give reader second others asked.frame lawful second_told) r.before.input r.after.input r.before.output r.after.output r.before.entropy r.after.entropy
            (same_streams unchanged) unasked error ends,
        said,
      ),
    )

    abbrev So : Type 0
    So = RunComesTo r world (resealed_so given second keys others)

    with_drawn : (drawn : List ℕ) → Drew (length (active others)) r.before.entropy r.after.entropy drawn
        → RunComesTo r world (resealed_by reader second (reseal_writer asked others) drawn world.input) → So
    with_drawn drawn drew so =
        subst (λ (d : List ℕ). RunComesTo r world (resealed_by reader second (reseal_writer asked others) d world.input)) (sym (drawn_is others drawn drew)) so

    ended_so : Ended run unasked → So
    ended_so (inl (context, (done, shown))) =
        with_drawn done.drawn done.drew (reseals_done r world of reader second others asked wide done.drawn context done.is shown)
    ended_so (inr (errors.Outside outsides.EntropyFault, (ends, said))) =
        stops_unwritten r world (Some (resealed_so given second keys others)) (failures.Outside outsides.EntropyFault) ends.rose said (same ends.same.1)
    ended_so (inr (errors.Outside outside, (ends, said))) =
        with_drawn ends.drawn ends.drew (reseals_ends r world of reader second others asked wide ends.drawn (errors.Outside outside) ends.is said)
    ended_so (inr (errors.Fault fault, (ends, said))) =
        with_drawn ends.drawn ends.drew (reseals_ends r world of reader second others asked wide ends.drawn (errors.Fault fault) ends.is said)
    ended_so (inr (errors.Refusal refusal, (ends, said))) =
        with_drawn ends.drawn ends.drew (reseals_ends r world of reader second others asked wide ends.drawn (errors.Refusal refusal) ends.is said)
    ended_so (inr (errors.Memory, (ends, said))) =
        with_drawn ends.drawn ends.drew (reseals_ends r world of reader second others asked wide ends.drawn errors.Memory ends.is said)

  -- ---- both files were read

  module _ (given : List KeyValue) (tree left : KeyringMeaning) (between : ShelfState) (first : HasFirst r.trees asked r.before.shelf given tree left between) where
    is_behind : IsBehind r between
    is_behind = record {
      files = first.files;
      faults = first.has.file.file.faults;
      grown = (reads_in_row asked.keyring 0 (first.has.file.file.read.pieces ++ [] ∷ []), first.has.file.file.read.calls);
    }

    -- what comes behind the first file
    first_taken : world.files asked.keyring ≡ Some first.has.file.bytes → reseal_effect asked r.trees world ≡ all_so given tree
    unfolding reseal_effect
    first_taken holds = prepared_taken asked.pairs given r.trees world asked.keyring first.has.file.bytes tree all_so first.has.given.made holds first.has.file.file.few first.has.file.is

    first_holds : Grows between.calls r.after.shelf.calls → world.files asked.keyring ≡ Some first.has.file.bytes
    first_holds grown = file_between world.files asked.keyring first.has.file.bytes r.before.shelf r.after.shelf r.before.shelf.calls between.calls of.files
        (grows_none r.before.shelf.calls) grown first.has.file.file.read

    module _ (second : KeyringMeaning) (sealing : HasSecond r.trees asked between r.after.shelf second) (unasked : Type 0)
        (ended : Ended (reseal_asked asked given tree left second) unasked) where
      grown : Grows between.calls r.after.shelf.calls
      grown = (reads_in_row asked.to_keyring 0 (sealing.file.file.read.pieces ++ [] ∷ []), sealing.file.file.read.calls)

      keyring_failed : Rose tree.faults left.faults → KeyringFailed r world
      keyring_failed rose = record {
        name = asked.keyring;
        bytes = first.has.file.bytes;
        tree = tree;
        left = left;
        file = first_holds grown;
        read = first.has.file.is;
        kept = first.has.kept;
        goes = first.has.goes;
        rose = rose;
      }

      with_told : (o : Option (List WrapKeyValue)) → tree.keys ≡ o → IfSome (with_both_keys o (Some sealing.keys) (resealed_so given second)) (RunComesTo r world)
      with_told None told = tt
      with_told (Some keys) told = elim (cases_lt left.faults (counted tree.faults 1)) [
        | inl stayed ↦ ended_so given tree left second keys sealing.keys unasked
            (by_keys given tree left second keys sealing.keys unasked told stayed sealing.lawful sealing.told ended)
        | inr rose ↦ inr (inr (inr (keyring_failed rose)))
      ]

      both_do : Done
      both_do =
          subst (λ (o : Option Effect). IfSome o (RunComesTo r world))
          (sym (first_taken (first_holds grown)
          ∙ tree_taken r.trees.plain world asked.to_keyring sealing.file.bytes second (both_so given tree)
          (file_between world.files asked.to_keyring sealing.file.bytes r.before.shelf r.after.shelf between.calls r.after.shelf.calls of.files is_behind.grown
          (grows_none r.after.shelf.calls) sealing.file.file.read) sealing.file.file.few sealing.file.is
          ∙ ap (λ (o : Option (List WrapKeyValue)). with_both_keys tree.keys o (resealed_so given second)) sealing.told))
          (with_told tree.keys refl)

  -- ---- the second wasn't

  no_second : (failure : Failure) → HasNoSecond r.trees asked r.before.shelf r.after.shelf (untouched unchanged) failure → Reports failure r.code r.before.report r.after.report → Done
  no_second failure lacks said =
      second_fails r world of lacks.between (is_behind lacks.given lacks.tree lacks.tree lacks.between lacks.first) asked.keyring lacks.first.has.file.bytes lacks.first.has.file.file
      (reseal_effect asked r.trees world) r.trees.plain (λ bytes x. with_read x (both_so lacks.given lacks.tree)) asked.to_keyring (λ bytes refusal. refl)
      (first_taken lacks.given lacks.tree lacks.tree lacks.between lacks.first) (same lacks.same.0.1) failure lacks.cause said

  -- ---- the run

  ended_with : (error : InputError) → ResealingFails r.trees asked r.before r.after unchanged error → Reports (resealing_failure error) r.code r.before.report r.after.report → Done
  ended_with error f said = both_do f.given f.tree f.left f.between f.first f.second f.sealing ((f.left ≡ f.tree) × (f.later ≡ f.second)) (inr (error, (f.so, said)))

  fails_does : (failure : Failure) → ResealFails r.trees asked r.before r.after unchanged failure → Reports failure r.code r.before.report r.after.report → Done
  unfolding reseal_effect
  fails_does (failures.File refusal) (inl none) said = no_tree r world of asked.pairs asked.keyring all_so (failures.File refusal) none.0 said (same none.1.same.0.1)
  fails_does (failures.File refusal) (inr lacks) said = no_second (failures.File refusal) lacks said
  fails_does (failures.Outside outsides.ShelfFault) (inl none) said =
      no_tree r world of asked.pairs asked.keyring all_so (failures.Outside outsides.ShelfFault) none.0 said (same none.1.same.0.1)
  fails_does (failures.Outside outsides.ShelfFault) (inr lacks) said = no_second (failures.Outside outsides.ShelfFault) lacks said
  fails_does (failures.Outside outside) f said = ended_with (errors.Outside outside) f said
  fails_does (failures.Fault fault) f said = ended_with (errors.Fault fault) f said
  fails_does (failures.Refusal refusal) (inl none) said = no_context r world of asked.pairs asked.keyring all_so refusal unchanged.shelf none.0 said (same none.1.same.0.1)
  fails_does (failures.Refusal refusal) (inr f) said = ended_with (errors.Refusal refusal) f said
  fails_does failures.Memory (inl none) said = stops_unwritten r world (reseal_effect asked r.trees world) failures.Memory tt said (same none.1.same.0.1)
  fails_does failures.Memory (inr (inl lacks)) said = no_second failures.Memory lacks said
  fails_does failures.Memory (inr (inr f)) said = ended_with errors.Memory f said
  fails_does failure f said = absurd f

  pub reseal_does : ResealRuns r.trees asked r.before r.after unchanged r.code → Done
  reseal_does (inl done) =
      let d = done.done in
      both_do d.given d.tree d.left d.between d.first d.second d.sealing ((d.left ≡ d.tree) × (d.later ≡ d.second)) (inl (done.context, (d.so, done.told)))
  reseal_does (inr fails) = fails_does fails.failure fails.because fails.said
