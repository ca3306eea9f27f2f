-- What `reseal` says over the tree that it gives back.
use Rattle.std.proofs.Common.{◌≡◌, ◌⊎◌, ◌∙◌, ◌^◌, ◌<◌, ◌≤◌, ℕ, List, [], true, false, None, Some, Ok, inl, inr, refl, sym, ap, subst, arith}
use Rattle.std.specs.Prelude.{⊤}
use Rattle.std.specs.declared.option.Option.{Option}
use Rattle.esdk_args.specs.declared.request.ResealWords.{ResealWords}
use Rattle.esdk_fields.specs.Counts.{Stayed}
use Rattle.esdk_fields.specs.declared.faults.Fault.{Fault}
use Rattle.esdk_fields.specs.declared.refusals.Outside.TheVariants as outsides
use Rattle.esdk_base.specs.Shelf.{Files}
use Rattle.esdk_base.specs.Streams.{ShelfState}
use Rattle.context_codec.specs.Context.{KeyValue}
use Rattle.cmm_default.specs.DefaultCmm.{default_now}
use Rattle.keyring_trait.specs.declared.manager_errors.ManagerError.{ManagerError}
use Rattle.keyring_trait.specs.declared.manager_errors.ManagerError.TheVariants as managers
use Rattle.keyring_trait.specs.Keyring.{KeyringMeaning}
use Rattle.keyring_trait.specs.Manager.{ManagerMeaning, request_refusal}
use Rattle.keyring_trait.specs.Requests.{EncRequestValue}
use Rattle.keyring_trait.specs.Wrapping.{WrapKeyValue}
use Rattle.esdk_encrypt.specs.Told.{NoneForRequest}
use Rattle.esdk_decrypt.specs.Laws.{IsWrittenFor, Written, written_message}
use Rattle.esdk_decrypt.specs.Told.{Reader, answering_by}
use Rattle.reseal_core.specs.declared.errors.InputError.{InputError}
use Rattle.reseal_core.specs.declared.errors.InputError.TheVariants as errors
use Rattle.reseal_core.specs.Laws.{HasFaultAndFront, IsResealed}
use Rattle.reseal_core.specs.Reseal.{ResealEnds, Resealing, ResealsInput}
use Rattle.reseal_core.specs.Told.{resealing_told}
use Rattle.reseal_core.proofs.Rotating.{rotated}
use Rattle.reseal_core.proofs.Telling.{Giving, GivesMore, input_more, stops_more}
use Rattle.reseal_core.proofs.WholeInputs.{fault_front, memory_alone, whole_resealed}
use Rattle.esdk_report.specs.Report.{Reports, ShowsContext}
use Rattle.esdk_report.specs.declared.failure.Failure.{Failure}
use Rattle.esdk_report.specs.declared.failure.Failure.TheVariants as failures
use Rattle.esdk_run.specs.Decrypt.{tree_answering}
use Rattle.esdk_run.specs.Failures.{resealing_failure}
use Rattle.esdk_run.specs.FileReading.{FileFails}
use Rattle.esdk_run.specs.Giving.{refusal_over}
use Rattle.esdk_run.specs.Objects.{Objects, Unchanged, same_streams}
use Rattle.esdk_run.specs.Pairs.{context_in, required_in}
use Rattle.esdk_run.specs.Reseal.{HasFirst, HasNoSecond, HasSecond, ResealFails, ResealingFails, TreeSealsNone, reseal_settings, reseal_asked, untouched}
use Rattle.esdk_run.specs.ResealTold.{CanBeResealed, NamesResealFault, ShelfAndEntropyDontFail, OfItsKeys, ReadsBoth, ShowsResealed, ShowsRotated, reseal_reader, reseal_writer, without_plugs}
use Rattle.esdk_run.specs.Run.{ResealRuns, TellsOrLacksMemory}
use Rattle.esdk_run.specs.Told.{ComesBackBefore, GivesTree, HoldsTree, TreeWasReadFirstAnd, IsDoneOrMemory, IsLeft, StreamsDontFail}
use Rattle.esdk_run.specs.Trees.{IsLawful, TreeGoes, Trees}
use Rattle.esdk_run.proofs.Promised.{SaysWhatItReseals, ResealsWholeMessages, RotatesWhatIsWritten}
use Rattle.esdk_run.proofs.Decryption.{context_shown, one_shows_none, zero_shows}
use Rattle.esdk_run.proofs.Files.{held_is_read, held_is_taken, tree_is_held}
use Rattle.esdk_run.proofs.Given.{one_context, pairs_not_refused}
use Rattle.esdk_run.proofs.Keys.{keys_wrap, materials_told, tree_allows}
use Rattle.esdk_run.proofs.Resealing.{ends_unasked, seal_refusal, tree_giving}
use Rattle.esdk_run.proofs.Statuses.{fault_status, memory_status, not_done}
use Rattle.esdk_run.proofs.TreesBack.{gives_held, if_none_failed, left_is, none_is_some, told_then}

-- ---- how the run ended, where the first tree is given back

-- how a resealing ended, and what was said of it
abbrev Ending : Resealing → Objects → Objects → Type 0 → ℕ → Type 0
Ending run before after same code =
    ((context : List KeyValue) × (ResealsInput run before.input after.input before.output after.output before.entropy after.entropy context × TellsOrLacksMemory context code before.report after.report))
    ⊎ ((error : InputError) × (ResealEnds run before.input after.input before.output after.output before.entropy after.entropy same ⊤ error × Reports (resealing_failure error) code before.report after.report))

-- Both files were read as trees, and the resealing ended so.
record HadBoth (trees : Trees) (asked : ResealWords) (before after : Objects) (same : Type 0) (code : ℕ) : Type 0 where
  given : List KeyValue
  tree : KeyringMeaning
  left : KeyringMeaning
  between : ShelfState
  first : HasFirst trees asked before.shelf given tree left between
  second : KeyringMeaning
  later : KeyringMeaning
  sealing : HasSecond trees asked between after.shelf second
  goes : TreeGoes second later
  ended : Ending (reseal_asked asked given tree left second) before after same code

-- The first file was read as a tree, and the second gave none.
record HadFirst (trees : Trees) (asked : ResealWords) (before after : Objects) (same : Type 0) (code : ℕ) : Type 0 where
  failure : Failure
  fails : HasNoSecond trees asked before.shelf after.shelf same failure
  said : Reports failure code before.report after.report

abbrev Had : Trees → ResealWords → Objects → Objects → Unchanged → ℕ → Type 0
Had trees asked before after unchanged code =
    HadBoth trees asked before after (same_streams unchanged) code ⊎ HadFirst trees asked before after (untouched unchanged) code

module _ (trees : Trees) (asked : ResealWords) (before after : Objects) (unchanged : Unchanged) (code : ℕ) where
  both_had : (error : InputError) → ResealingFails trees asked before after unchanged error → Reports (resealing_failure error) code before.report after.report → Had trees asked before after unchanged code
  both_had error f said = inl (record {
    given = f.given;
    tree = f.tree;
    left = f.left;
    between = f.between;
    first = f.first;
    second = f.second;
    later = f.later;
    sealing = f.sealing;
    goes = f.goes;
    ended = inr (
      error,
      (
        ends_unasked (reseal_asked asked f.given f.tree f.left f.second) before.input after.input before.output after.output before.entropy after.entropy (same_streams unchanged)
            ((f.left ≡ f.tree) × (f.later ≡ f.second)) ⊤ error (λ _. tt) f.so,
        said,
      ),
    );
  })

  first_had : (failure : Failure) → HasNoSecond trees asked before.shelf after.shelf (untouched unchanged) failure → Reports failure code before.report after.report → Had trees asked before after unchanged code
  first_had failure fails said = inr (record { failure = failure; fails = fails; said = said })

  failed_had : (left : KeyringMeaning) (failure : Failure) → trees.kept ≡ Some left → ResealFails trees asked before after unchanged failure → Reports failure code before.report after.report → Had trees asked before after unchanged code
  failed_had left failures.NotRead kept fails said = absurd fails
  failed_had left (failures.BadNumber option) kept fails said = absurd fails
  failed_had left (failures.BadPair number) kept fails said = absurd fails
  failed_had left (failures.Fault fault) kept fails said = both_had (errors.Fault fault) fails said
  failed_had left (failures.File refusal) kept (inl none) said = absurd (none_is_some trees left kept none.1.none)
  failed_had left (failures.File refusal) kept (inr fails) said = first_had (failures.File refusal) fails said
  failed_had left (failures.Outside outsides.ShelfFault) kept (inl none) said = absurd (none_is_some trees left kept none.1.none)
  failed_had left (failures.Outside outsides.ShelfFault) kept (inr fails) said = first_had (failures.Outside outsides.ShelfFault) fails said
  failed_had left (failures.Outside outside) kept fails said = both_had (errors.Outside outside) fails said
  failed_had left (failures.Refusal refusal) kept (inl none) said = absurd (none_is_some trees left kept none.1.none)
  failed_had left (failures.Refusal refusal) kept (inr fails) said = both_had (errors.Refusal refusal) fails said
  failed_had left failures.Memory kept (inl none) said = absurd (none_is_some trees left kept none.1.none)
  failed_had left failures.Memory kept (inr (inl fails)) said = first_had failures.Memory fails said
  failed_had left failures.Memory kept (inr (inr fails)) said = both_had errors.Memory fails said

  had : (left : KeyringMeaning) → trees.kept ≡ Some left → ResealRuns trees asked before after unchanged code → Had trees asked before after unchanged code
  had left kept (inl done) =
      let d = done.done in
      inl (record {
        given = d.given;
        tree = d.tree;
        left = d.left;
        between = d.between;
        first = d.first;
        second = d.second;
        later = d.later;
        sealing = d.sealing;
        goes = d.goes;
        ended = inl (done.context, (d.so, done.told));
      })
  had left kept (inr fails) = failed_had left fails.failure kept fails.because fails.said

  -- ---- the tree comes back

  back_left : (left : KeyringMeaning) → trees.kept ≡ Some left → Had trees asked before after unchanged code → (middle : ShelfState) × IsLeft trees asked.keyring before.shelf middle left
  back_left left kept (inl b) = (b.between, left_is trees _ _ _ _ _ b.tree b.left left b.first.has kept)
  back_left left kept (inr f) = (f.fails.between, left_is trees _ _ _ _ _ f.fails.tree f.fails.tree left f.fails.first.has kept)

  fails_back : (failure : Failure) (context : List KeyValue) (tree : KeyringMeaning) → context_in asked.pairs ≡ Ok context → HoldsTree trees before.shelf.files asked.keyring tree
      → Stayed before.shelf.faults after.shelf.faults → ResealFails trees asked before after unchanged failure → Reports failure code before.report after.report → (code ≡ 5) ⊎ GivesTree trees tree
  fails_back failures.NotRead context tree is holds stayed fails said = absurd fails
  fails_back (failures.BadNumber option) context tree is holds stayed fails said = absurd fails
  fails_back (failures.BadPair number) context tree is holds stayed fails said = absurd fails
  fails_back (failures.Fault fault) context tree is holds stayed fails said = inr (gives_held trees _ _ _ _ _ fails.tree fails.left tree holds fails.first.has)
  fails_back (failures.File refusal) context tree is holds stayed (inl none) said = absurd (held_is_taken trees before.shelf after.shelf asked.keyring tree refusal holds none.0.cause)
  fails_back (failures.File refusal) context tree is holds stayed (inr fails) said = inr (gives_held trees _ _ _ _ _ fails.tree fails.tree tree holds fails.first.has)
  fails_back (failures.Outside outsides.ShelfFault) context tree is holds stayed (inl none) said = absurd (held_is_read trees before.shelf after.shelf asked.keyring tree holds stayed none.0.cause)
  fails_back (failures.Outside outsides.ShelfFault) context tree is holds stayed (inr fails) said = inr (gives_held trees _ _ _ _ _ fails.tree fails.tree tree holds fails.first.has)
  fails_back (failures.Outside outside) context tree is holds stayed fails said = inr (gives_held trees _ _ _ _ _ fails.tree fails.left tree holds fails.first.has)
  fails_back (failures.Refusal refusal) context tree is holds stayed (inl none) said = absurd (pairs_not_refused asked.pairs context refusal is none.0.refused)
  fails_back (failures.Refusal refusal) context tree is holds stayed (inr fails) said = inr (gives_held trees _ _ _ _ _ fails.tree fails.left tree holds fails.first.has)
  fails_back failures.Memory context tree is holds stayed fails said = inl (memory_status failures.Memory code before.report after.report refl said)

  pub gives_back_first : ResealRuns trees asked before after unchanged code → ComesBackBefore trees asked.pairs asked.keyring before.shelf after.shelf code
  gives_back_first runs = record {
    read = λ left kept. back_left left kept (had left kept runs);
    held = λ context tree is holds stayed. elim runs [
      | inl done ↦ inr (gives_held trees _ _ _ _ _ done.done.tree done.done.left tree holds done.done.first.has)
      | inr fails ↦ fails_back fails.failure context tree is holds stayed fails.because fails.said
    ];
  }

-- ---- the second tree's keys

-- what its keys make of a request
abbrev keys_giving : List WrapKeyValue → KeyringMeaning → KeyringMeaning → ℕ → Giving
keys_giving others second later size =
    let r : Resealing = resealing_told (record { keys = []; settings = record { max_keys = None; max_unit = None; uncommitted = false }; given = []; required = [] }) others (default_now second).meaning (default_now later).meaning size in
    record { wraps = r.wraps; gives = r.gives; gives_none = r.gives_none }

none_told : (second later : KeyringMeaning) (request : EncRequestValue) (error : ManagerError) → TreeSealsNone second request error
    → NoneForRequest (request_refusal (default_now second).meaning request.context) second.faults later.faults error
none_told second later request (managers.Fault fault) cause = absurd cause
none_told second later request (managers.Refusal refusal) cause = seal_refusal request.context second ∙ cause
none_told second later request managers.KeyringFault cause = absurd cause
none_told second later request managers.Memory cause = tt

keys_give : (others : List WrapKeyValue) (second later : KeyringMeaning) (size : ℕ) → IsLawful second → second.keys ≡ Some others → GivesMore (tree_giving second) (keys_giving others second later size)
keys_give others second later size lawful told = record {
  wraps = keys_wrap second others lawful told;
  gives = λ request random m given. (seal_refusal request.context second ∙ given.unrefused, materials_told (refusal_over request.context second) second others request size None random m lawful told given);
  gives_none = λ request error cause. none_told second later request error cause;
}

-- ---- over both trees' keys

-- the course of a resealing over these keys
abbrev told_run : ResealWords → List KeyValue → List WrapKeyValue → List WrapKeyValue → KeyringMeaning → KeyringMeaning → Resealing
told_run asked given keys others second later = resealing_told (reseal_reader asked given keys) others (default_now second).meaning (default_now later).meaning asked.frame

module _ (asked : ResealWords) (before after : Objects) (same : Type 0) (code : ℕ) (given : List KeyValue) (tree left second later : KeyringMeaning) (keys others : List WrapKeyValue)
    (told : tree.keys ≡ Some keys) (stayed : Stayed tree.faults left.faults) (lawful : IsLawful second) (second_told : second.keys ≡ Some others) where
  told_ended : Ending (reseal_asked asked given tree left second) before after same code → Ending (told_run asked given keys others second later) before after same code
  told_ended (inl (context, (done, shown))) = inl (
    context,
    (
      input_more (tree_answering (required_in asked.pairs) tree left) (answering_by (reseal_reader asked given keys)) (reseal_settings asked) given
          (tree_giving second) (keys_giving others second later asked.frame) asked.frame (tree_allows (reseal_settings asked) given (required_in asked.pairs) tree left keys told stayed)
          (keys_give others second later asked.frame lawful second_told) before.input after.input before.output after.output before.entropy after.entropy context done,
      shown,
    ),
  )
  told_ended (inr (error, (ends, said))) = inr (
    error,
    (
      stops_more (tree_answering (required_in asked.pairs) tree left) (answering_by (reseal_reader asked given keys)) (reseal_settings asked) given
          (tree_giving second) (keys_giving others second later asked.frame) asked.frame (tree_allows (reseal_settings asked) given (required_in asked.pairs) tree left keys told stayed)
          (keys_give others second later asked.frame lawful second_told) before.input after.input before.output after.output before.entropy after.entropy same ⊤ error ends,
      said,
    ),
  )

-- The resealing over both trees' keys ended so; `second` is what the shelf tells.
record EndedTold (asked : ResealWords) (before after : Objects) (same : Type 0) (code : ℕ) (given : List KeyValue) (keys : List WrapKeyValue) (second : KeyringMeaning) : Type 0 where
  others : List WrapKeyValue
  told : second.keys ≡ Some others
  steady : second.steady ≡ true
  later : KeyringMeaning
  goes : TreeGoes second later
  ended : Ending (told_run asked given keys others second later) before after same code

-- The second file gave no tree.
record EndedEarly (trees : Trees) (asked : ResealWords) (before after : Objects) (code : ℕ) : Type 0 where
  between : ShelfState
  files : between.files ≡ before.shelf.files
  faults : between.faults ≡ before.shelf.faults
  failure : Failure
  cause : FileFails trees.plain between after.shelf asked.to_keyring failure
  said : Reports failure code before.report after.report

-- what is so of each such end is so of the run
module _ (So : Type 0) (trees : Trees) (asked : ResealWords) (before after : Objects) (unchanged : Unchanged) (code : ℕ) (given : List KeyValue) (keys : List WrapKeyValue)
    (both : ReadsBoth trees asked before given keys) (so : EndedTold asked before after (same_streams unchanged) code given keys both.second → So) (early : EndedEarly trees asked before after code → So) where
  over_had : Had trees asked before after unchanged code → TreeWasReadFirstAnd trees asked.keyring before.shelf So
  over_had (inl b) =
      let has = b.first.has in
      let read : b.second ≡ both.second =
      tree_is_held (without_plugs trees) b.between after.shelf asked.to_keyring b.second both.second (subst (λ (f : Option Files). HoldsTree (without_plugs trees) f asked.to_keyring both.second) (sym b.first.files) both.holds) b.sealing.file in
      let others : List WrapKeyValue = b.sealing.keys in
      let pairs : b.given ≡ given = one_context asked.pairs b.given given has.given.made both.pairs in (
        b.between,
        if_none_failed trees _ _ _ _ _ b.tree b.left So has (λ stayed.
            let e = told_ended asked before after (same_streams unchanged) code b.given b.tree b.left b.second b.later keys others
            (told_then trees b.tree b.left both.left keys has.goes has.kept both.kept both.told) stayed b.sealing.lawful b.sealing.told b.ended in
            so (subst (λ (t : KeyringMeaning). EndedTold asked before after (same_streams unchanged) code given keys t) read (record {
              others = others;
              told = b.sealing.told;
              steady = b.sealing.steady;
              later = b.later;
              goes = b.goes;
              ended = subst (λ (g : List KeyValue). Ending (told_run asked g keys others b.second b.later) before after (same_streams unchanged) code) pairs e;
            }))),
      )
  over_had (inr f) =
      let has = f.fails.first.has in (
        f.fails.between,
        if_none_failed trees _ _ _ _ _ f.fails.tree f.fails.tree So has
            (λ stayed. early (record { between = f.fails.between; files = f.fails.first.files; faults = has.file.file.faults; failure = f.failure; cause = f.fails.cause; said = f.said })),
      )

  over_both : ResealRuns trees asked before after unchanged code → TreeWasReadFirstAnd trees asked.keyring before.shelf So
  over_both runs = over_had (had trees asked before after unchanged code both.left both.kept runs)

-- ---- what is written

-- an end that is called a fault is that fault
named_fault : (fault : Fault) (run : Resealing) (before after : Objects) (same : Type 0) (error : InputError) → resealing_failure error ≡ failures.Fault fault
    → ResealEnds run before.input after.input before.output after.output before.entropy after.entropy same ⊤ error → ResealEnds run before.input after.input before.output after.output before.entropy after.entropy same ⊤ (errors.Fault fault)
named_fault fault run before after same (errors.Fault other) is ends =
    let one : other ≡ fault = cc in subst (λ (f : Fault). ResealEnds run before.input after.input before.output after.output before.entropy after.entropy same ⊤ (errors.Fault f)) one ends
named_fault fault run before after same (errors.Refusal refusal) is ends = absurd cc
named_fault fault run before after same (errors.Outside outside) is ends = absurd cc
named_fault fault run before after same errors.Memory is ends = absurd cc

-- a second file that gives no tree is neither success nor a fault
early_zero : (trees : Trees) (asked : ResealWords) (before after : Objects) (code : ℕ) → EndedEarly trees asked before after code → code ≡ 0 → ⊥
early_zero trees asked before after code e zero = not_done e.failure code before.report after.report e.said zero

early_fault : (trees : Trees) (asked : ResealWords) (before after : Objects) (code : ℕ) → EndedEarly trees asked before after code → code ≡ 1 → ⊥
early_fault trees asked before after code e one =
    let named = fault_status e.failure code before.report after.report e.said one in
    no_fault named.fault (subst (λ (f : Failure). FileFails trees.plain e.between after.shelf asked.to_keyring f) named.is e.cause)
  where
    no_fault : (fault : Fault) → FileFails trees.plain e.between after.shelf asked.to_keyring (failures.Fault fault) → ⊥
    no_fault fault fails = fails

module _ (asked : ResealWords) (before after : Objects) (same : Type 0) (code : ℕ) (given : List KeyValue) (keys : List WrapKeyValue) (second : KeyringMeaning)
    (e : EndedTold asked before after same code given keys second) where
  abbrev others : List WrapKeyValue
  others = e.others

  abbrev reader : Reader
  reader = reseal_reader asked given keys

  abbrev old : ManagerMeaning
  old = (default_now second).meaning

  abbrev new : ManagerMeaning
  new = (default_now e.later).meaning

  of_keys : {So : List WrapKeyValue → Type 0} → So others → OfItsKeys second So
  of_keys so = record { keys = others; told = e.told; so = so }

  whole_said : (bytes : List ℕ) → before.input.left ≡ Some bytes → code ≡ 0 → Ending (told_run asked given keys others second e.later) before after same code
      → OfItsKeys second (λ (ws : List WrapKeyValue). ShowsResealed reader (reseal_writer asked ws) ws bytes before after code)
  whole_said bytes told zero (inl (context, (done, shown))) =
      let all : IsResealed reader others old asked.frame bytes before.output after.output before.entropy after.entropy context =
      whole_resealed reader others old new asked.frame bytes before.input after.input before.output after.output before.entropy after.entropy context told done in
      of_keys (record {
        context = context;
        only = all.only;
        key = all.key;
        unlocked = all.unlocked;
        whole = all.whole;
        drawn = all.drawn;
        drew = all.drew;
        gained = all.gained;
        shown = zero_shows context code before.report after.report shown zero;
      })
  whole_said bytes told zero (inr (error, (ends, said))) = absurd (not_done (resealing_failure error) code before.report after.report said zero)

  fault_said : (bytes : List ℕ) → before.input.left ≡ Some bytes → code ≡ 1 → Ending (told_run asked given keys others second e.later) before after same code
      → OfItsKeys second (λ (ws : List WrapKeyValue). NamesResealFault reader (reseal_writer asked ws) ws asked.frame bytes before after)
  fault_said bytes told one (inl (context, (done, shown))) = absurd (one_shows_none context code before.report after.report shown one)
  fault_said bytes told one (inr (error, (ends, said))) =
      let named = fault_status (resealing_failure error) code before.report after.report said one in
      let f = named_fault named.fault (told_run asked given keys others second e.later) before after same error named.is ends in
      let all : HasFaultAndFront reader others old asked.frame bytes before.output after.output before.entropy after.entropy named.fault =
      fault_front reader others old new asked.frame bytes before.input after.input before.output after.output before.entropy after.entropy named.fault f.drawn told f.is f.drew in
      of_keys (record {
        fault = named.fault;
        cause = all.cause;
        drawn = all.drawn;
        drew = all.drew;
        gained = all.gained;
        unfinished = all.unfinished;
        line = named.line;
      })

  -- only want of memory keeps a whole message from being resealed
  whole_done : (bytes : List ℕ) → CanBeResealed reader second asked.frame before.input bytes → StreamsDontFail before after → ShelfAndEntropyDontFail before after
      → Ending (told_run asked given keys others second e.later) before after same code → IsDoneOrMemory code
  whole_done bytes can nothing beside (inl (context, (done, shown))) = context_shown context code before after nothing shown
  whole_done bytes can nothing beside (inr (error, (ends, said))) =
      let memory : error ≡ errors.Memory =
      memory_alone reader others old new asked.frame bytes before.input after.input before.output after.output before.entropy after.entropy
      (record { whole = can.whole; only = can.only; key = can.key; input_whole = can.input_whole; unlocked = can.unlocked; unrefused = seal_refusal can.whole second ∙ can.unrefused; room = can.room })
      (e.goes.still e.steady) (record { source = nothing.reading; sink = nothing.writing; drawing = beside.drawing }) same ⊤ error ends in
      inr (memory_status (resealing_failure error) code before.report after.report (ap resealing_failure memory) said)

  written_rotated : (writers : List WrapKeyValue) (m : Written) → IsWrittenFor reader writers m → 1 ≤ asked.frame → asked.frame < 2 ^ 32 → before.input.left ≡ Some (written_message m) → code ≡ 0
      → Ending (told_run asked given keys others second e.later) before after same code → OfItsKeys second (λ (ws : List WrapKeyValue). ShowsRotated m ws asked.frame before after code)
  written_rotated writers m for wide narrow told zero (inl (context, (done, shown))) =
      let all = rotated reader writers others m old new asked.frame before.input after.input before.output after.output before.entropy after.entropy context for wide narrow told done in
      of_keys (record {
        rotated = all.1;
        shown = subst (λ (c : List KeyValue). ShowsContext c code before.report after.report) all.0 (zero_shows context code before.report after.report shown zero);
      })
  written_rotated writers m for wide narrow told zero (inr (error, (ends, said))) = absurd (not_done (resealing_failure error) code before.report after.report said zero)

-- a held file gives a tree, unless the shelf fails or memory runs out
early_memory : (trees : Trees) (asked : ResealWords) (before after : Objects) (code : ℕ) (second : KeyringMeaning) → HoldsTree (without_plugs trees) before.shelf.files asked.to_keyring second → ShelfAndEntropyDontFail before after
    → EndedEarly trees asked before after code → IsDoneOrMemory code
early_memory trees asked before after code second holds beside e = by e.failure e.cause e.said
  where
    held : HoldsTree (without_plugs trees) e.between.files asked.to_keyring second
    held = subst (λ (f : Option Files). HoldsTree (without_plugs trees) f asked.to_keyring second) (sym e.files) holds

    by : (failure : Failure) → FileFails trees.plain e.between after.shelf asked.to_keyring failure → Reports failure code before.report after.report → IsDoneOrMemory code
    by failures.NotRead cause said = absurd cause
    by (failures.BadNumber option) cause said = absurd cause
    by (failures.BadPair number) cause said = absurd cause
    by (failures.Fault fault) cause said = absurd cause
    by (failures.File refusal) cause said = absurd (held_is_taken (without_plugs trees) e.between after.shelf asked.to_keyring second refusal held cause)
    by (failures.Outside outsides.ShelfFault) cause said =
        absurd (held_is_read (without_plugs trees) e.between after.shelf asked.to_keyring second held (omega (arith, beside.files, e.faults)) cause)
    by (failures.Outside outside) cause said = absurd cause
    by (failures.Refusal refusal) cause said = absurd cause
    by failures.Memory cause said = inr (memory_status failures.Memory code before.report after.report refl said)

module _ (trees : Trees) (asked : ResealWords) (before after : Objects) (unchanged : Unchanged) (code : ℕ) (runs : ResealRuns trees asked before after unchanged code) where
  pub says_what_it_reseals : SaysWhatItReseals trees asked before after code
  says_what_it_reseals given keys bytes both told =
      over_both _ trees asked before after unchanged code given keys both
      (λ e. (
        λ zero. whole_said asked before after (same_streams unchanged) code given keys both.second e bytes told zero e.ended,
        λ one. fault_said asked before after (same_streams unchanged) code given keys both.second e bytes told one e.ended,
      ))
      (λ e. (λ zero. absurd (early_zero trees asked before after code e zero), λ one. absurd (early_fault trees asked before after code e one)))
      runs

  pub reseals_whole_messages : ResealsWholeMessages trees asked before after code
  reseals_whole_messages given keys bytes both can nothing beside =
      over_both _ trees asked before after unchanged code given keys both
      (λ e. whole_done asked before after (same_streams unchanged) code given keys both.second e bytes can nothing beside e.ended)
      (λ e. early_memory trees asked before after code both.second both.holds beside e)
      runs

  pub rotates_what_is_written : RotatesWhatIsWritten trees asked before after code
  rotates_what_is_written given keys writers m both for wide narrow told =
      over_both _ trees asked before after unchanged code given keys both
      (λ e. λ zero. written_rotated asked before after (same_streams unchanged) code given keys both.second e writers m for wide narrow told zero e.ended)
      (λ e. λ zero. absurd (early_zero trees asked before after code e zero))
      runs
