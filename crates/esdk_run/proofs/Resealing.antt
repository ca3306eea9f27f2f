-- How a resealing ends over the trees of two keyring files.
use Rattle.std.proofs.Common.{◌≡◌, ◌∙◌, ℕ, List, Ok, Err, inl, inr, refl, sym, subst, arith}
use Rattle.std.specs.Prelude.{IfErr, IfOk}
use Rattle.std.specs.declared.result.Result.{Result}
use Rattle.esdk_args.specs.declared.request.ResealWords.{ResealWords}
use Rattle.esdk_base.specs.Streams.{EntropyState, ShelfState, SinkState, SourceState}
use Rattle.esdk_fields.specs.Counts.{Stayed}
use Rattle.esdk_fields.specs.declared.refusals.Outside.TheVariants as outsides
use Rattle.context_codec.specs.Context.{KeyValue}
use Rattle.keyring_trait.specs.declared.manager_errors.ManagerError.{ManagerError}
use Rattle.keyring_trait.specs.declared.manager_errors.ManagerError.TheVariants as managers
use Rattle.keyring_trait.specs.Keyring.{KeyringMeaning}
use Rattle.keyring_trait.specs.Manager.{GivesMaterials, GivesNone, ManagerNow, Went, request_refusal}
use Rattle.keyring_trait.specs.Materials.{EncMaterialsValue}
use Rattle.keyring_trait.specs.Requests.{EncRequestValue}
use Rattle.cmm_default.specs.DefaultCmm.{default_now}
use Rattle.esdk_decrypt.specs.Decrypt.{answering_of}
use Rattle.esdk_decrypt.proofs.Told.{Allows}
use Rattle.reseal_core.specs.declared.errors.InputError.{InputError}
use Rattle.reseal_core.specs.declared.errors.InputError.TheVariants as errors
use Rattle.reseal_core.specs.Reseal.{ResealEnds, Resealing, ResealsInput, resealing_from}
use Rattle.reseal_core.proofs.Telling.{Giving, GivesMore, input_more, stops_more}
use Rattle.esdk_report.specs.Report.{Reports}
use Rattle.esdk_report.specs.declared.failure.Failure.{Failure}
use Rattle.esdk_report.specs.declared.failure.Failure.TheVariants as failures
use Rattle.esdk_run.specs.Failures.{resealing_failure}
use Rattle.esdk_run.specs.FileReading.{FileFails}
use Rattle.esdk_run.specs.Giving.{TreeGives, refusal_over}
use Rattle.esdk_run.specs.Objects.{Objects, Unchanged, same_streams}
use Rattle.esdk_run.specs.Prepared.{IsNotPrepared}
use Rattle.esdk_run.specs.Reseal.{HasFirst, HasSecond, ResealFails, ResealingFails, TreeSealsNone, reseal_settings, reseal_asked, untouched}
use Rattle.esdk_run.specs.Run.{ResealRuns, TellsOrLacksMemory}
use Rattle.esdk_run.specs.Trees.{IsUntouched, TreeGoes, Trees}
use Rattle.esdk_run.proofs.Chain.{gives_drawn, same_keys}
use Rattle.esdk_run.proofs.Preparing.{by_cause}

-- ---- the second tree

pub seal_refusal : (context : List KeyValue) (tree : KeyringMeaning) → request_refusal (default_now tree).meaning context ≡ refusal_over context tree
unfolding request_refusal refusal_over
seal_refusal context tree = refl

seals : (tree : KeyringMeaning) (request : EncRequestValue) (random : List ℕ) (m : EncMaterialsValue)
    → GivesMaterials (default_now tree) request random m → TreeGives (refusal_over request.context tree) tree request random m
seals tree request random m given =
    gives_drawn (refusal_over request.context tree) tree request random m (sym (seal_refusal request.context tree) ∙ given.unrefused tt)
    given.context (given.demanded tt) given.count (given.plain refl) (given.fresh refl)

-- a tree that didn't fail gives nothing only where it refuses
seals_none : (tree later : KeyringMeaning) (request : EncRequestValue) (error : ManagerError) → Stayed tree.faults later.faults → GivesNone (default_now tree) (default_now later) request error
    → TreeSealsNone tree request error
seals_none tree later request (managers.Fault fault) stayed cause = cause
seals_none tree later request (managers.Refusal refusal) stayed cause = sym (seal_refusal request.context tree) ∙ cause.1 tt
seals_none tree later request managers.KeyringFault stayed cause = omega (arith, stayed, cause.0)
seals_none tree later request managers.Memory stayed cause = tt

-- what the manager over the second tree may give
abbrev giving : ManagerNow → ManagerNow → Giving
giving old new = record {
  wraps = old.meaning.wraps;
  gives = λ request random m. GivesMaterials old request random m × new.gave old.uses request 0 random m;
  gives_none = GivesNone old new;
}

abbrev pub tree_giving : KeyringMeaning → Giving
tree_giving tree = record { wraps = tree.wraps; gives = λ request. TreeGives (refusal_over request.context tree) tree request; gives_none = TreeSealsNone tree }

tree_gives : (tree later : KeyringMeaning) → Stayed tree.faults later.faults → GivesMore (giving (default_now tree) (default_now later)) (tree_giving tree)
tree_gives tree later stayed = record {
  wraps = refl;
  gives = λ request random m given. seals tree request random m given.0;
  gives_none = λ request error cause. seals_none tree later request error stayed cause;
}

-- what is left of it
pub second_goes : (tree later : KeyringMeaning) → Went (default_now tree) (default_now later) → TreeGoes tree later
second_goes tree later went = record {
  keys = same_keys tree.keys later.keys went.tells (went.same refl);
  wraps = went.goes.wraps;
  refuses = went.goes.refuses;
  steady = went.goes.steady;
  later = went.goes.later;
  still = went.goes.still;
}

-- its file, where the manager over it is this
pub second_has : {N : Type 0} (meaning : N → KeyringMeaning) (trees : Trees) (asked : ResealWords) (between new : ShelfState) (node made : N) → made ≡ node
    → HasSecond trees asked between new (meaning node) → HasSecond trees asked between new (meaning made)
second_has {N} meaning trees asked between new node made is has = subst (λ (n : N). HasSecond trees asked between new (meaning n)) (sym is) has

-- ---- the run

-- what follows of managers that weren't asked
pub ends_unasked : (run : Resealing) (input taken : SourceState) (output put : SinkState) (entropy spent : EntropyState) (same unasked still : Type 0) (error : InputError) → (unasked → still)
    → ResealEnds run input taken output put entropy spent same unasked error → ResealEnds run input taken output put entropy spent same still error
ends_unasked run input taken output put entropy spent same unasked still (errors.Outside outsides.EntropyFault) so ends =
    record { rose = ends.rose; kept = ends.kept; none = ends.none; same = ends.same; manager = so ends.manager }
ends_unasked run input taken output put entropy spent same unasked still (errors.Outside outside) so ends = ends
ends_unasked run input taken output put entropy spent same unasked still (errors.Fault fault) so ends = ends
ends_unasked run input taken output put entropy spent same unasked still (errors.Refusal refusal) so ends = ends
ends_unasked run input taken output put entropy spent same unasked still errors.Memory so ends = ends

-- the course of a resealing over managers that held these trees, of which the second didn't fail
module _ (asked : ResealWords) (given : List KeyValue) (tree left second later : KeyringMeaning) (stayed : Stayed second.faults later.faults) (opened opening : ManagerNow)
    (allows : Allows (answering_of opened opening 0) (reseal_asked asked given tree left second).opening.manager)
    (input taken : SourceState) (output put : SinkState) (entropy spent : EntropyState) where
  abbrev from : Resealing
  from = resealing_from opened opening (default_now second) (default_now later) 0 (reseal_settings asked) given asked.frame

  abbrev to : Resealing
  to = reseal_asked asked given tree left second

  pub tree_reseals : (r : Result (List KeyValue) InputError) → IfOk r (ResealsInput from input taken output put entropy spent) → IfOk r (ResealsInput to input taken output put entropy spent)
  tree_reseals (Err error) done = tt
  tree_reseals (Ok context) done =
      input_more (answering_of opened opening 0) to.opening.manager (reseal_settings asked) given (giving (default_now second) (default_now later)) (tree_giving second) asked.frame
      allows (tree_gives second later stayed) input taken output put entropy spent context done

  pub tree_ends : (same unasked still : Type 0) (r : Result (List KeyValue) InputError) → (unasked → still) → IfErr r (ResealEnds from input taken output put entropy spent same unasked)
      → IfErr r (ResealEnds to input taken output put entropy spent same still)
  tree_ends same unasked still (Ok context) so ends = tt
  tree_ends same unasked still (Err error) so ends =
      ends_unasked to input taken output put entropy spent same unasked still error so
      (stops_more (answering_of opened opening 0) to.opening.manager (reseal_settings asked) given (giving (default_now second) (default_now later)) (tree_giving second) asked.frame
      allows (tree_gives second later stayed) input taken output put entropy spent same unasked error ends)

-- ---- the command

-- it fails as its resealing does
resealing_fails : (trees : Trees) (asked : ResealWords) (before after : Objects) (unchanged : Unchanged) (error : InputError)
    → ResealingFails trees asked before after unchanged error → ResealFails trees asked before after unchanged (resealing_failure error)
resealing_fails trees asked before after unchanged (errors.Fault fault) fails = fails
resealing_fails trees asked before after unchanged (errors.Refusal refusal) fails = inr fails
resealing_fails trees asked before after unchanged (errors.Outside outsides.ShelfFault) fails = absurd fails.so.is
resealing_fails trees asked before after unchanged (errors.Outside outside) fails = fails
resealing_fails trees asked before after unchanged errors.Memory fails = inr (inr fails)

pub resealing_ran : (trees : Trees) (asked : ResealWords) (before after : Objects) (unchanged : Unchanged) (code : ℕ)
    (given : List KeyValue) (tree left : KeyringMeaning) (between : ShelfState) (second later : KeyringMeaning) (r : Result (List KeyValue) InputError)
    → HasFirst trees asked before.shelf given tree left between → HasSecond trees asked between after.shelf second → TreeGoes second later
    → IfOk r (ResealsInput (reseal_asked asked given tree left second) before.input after.input before.output after.output before.entropy after.entropy)
    → IfErr r (ResealEnds (reseal_asked asked given tree left second) before.input after.input before.output after.output before.entropy after.entropy (same_streams unchanged) ((left ≡ tree) × (later ≡ second)))
    → IfOk r (λ context. TellsOrLacksMemory context code before.report after.report)
    → IfErr r (λ error. Reports (resealing_failure error) code before.report after.report)
    → ResealRuns trees asked before after unchanged code
resealing_ran trees asked before after unchanged code given tree left between second later (Ok context) first sealing goes reseals ends told said = inl (record {
  context = context;
  done = record { given = given; tree = tree; left = left; between = between; first = first; second = second; later = later; sealing = sealing; goes = goes; so = reseals };
  told = told;
})
resealing_ran trees asked before after unchanged code given tree left between second later (Err error) first sealing goes reseals ends told said = inr (record {
  failure = resealing_failure error;
  because = resealing_fails trees asked before after unchanged error
      (record { given = given; tree = tree; left = left; between = between; first = first; second = second; later = later; sealing = sealing; goes = goes; so = ends });
  said = said;
})

-- it fails so that isn't begun, and leaves all but the shelf untouched
pub reseal_not_begun : (trees : Trees) (asked : ResealWords) (before after : Objects) (unchanged : Unchanged)
    (failure : Failure) → IsNotPrepared trees asked.pairs asked.keyring before.shelf after.shelf unchanged.shelf failure
    → IsUntouched trees (untouched unchanged) → ResealFails trees asked before after unchanged failure
reseal_not_begun trees asked before after unchanged failure cause same =
    by_cause trees asked.pairs asked.keyring before.shelf after.shelf unchanged.shelf (ResealFails trees asked before after unchanged)
    (λ refusal pairs. inl (pairs, same)) (λ refusal none. inl (none, same)) (λ none. inl (none, same)) (λ lacks. inl (lacks, same)) failure cause

-- and so does one whose second file gives no tree
pub no_second : (trees : Trees) (asked : ResealWords) (before after : Objects) (unchanged : Unchanged) (given : List KeyValue) (tree : KeyringMeaning) (between : ShelfState)
    (failure : Failure) → HasFirst trees asked before.shelf given tree tree between → FileFails trees.plain between after.shelf asked.to_keyring failure → untouched unchanged
    → ResealFails trees asked before after unchanged failure
no_second trees asked before after unchanged given tree between failures.NotRead first cause same = absurd cause
no_second trees asked before after unchanged given tree between (failures.BadNumber option) first cause same = absurd cause
no_second trees asked before after unchanged given tree between (failures.BadPair number) first cause same = absurd cause
no_second trees asked before after unchanged given tree between (failures.Fault fault) first cause same = absurd cause
no_second trees asked before after unchanged given tree between (failures.File refusal) first cause same =
    inr (record { given = given; tree = tree; between = between; first = first; cause = cause; same = same })
no_second trees asked before after unchanged given tree between (failures.Outside outsides.ShelfFault) first cause same =
    inr (record { given = given; tree = tree; between = between; first = first; cause = cause; same = same })
no_second trees asked before after unchanged given tree between (failures.Outside outside) first cause same = absurd cause
no_second trees asked before after unchanged given tree between (failures.Refusal refusal) first cause same = absurd cause
no_second trees asked before after unchanged given tree between failures.Memory first cause same =
    inr (inl (record { given = given; tree = tree; between = between; first = first; cause = cause; same = same }))
