-- The manager of a batch over its tree: what it may say is what the tree serves.
use Rattle.std.proofs.Common.{◌≡◌, ◌∙◌, ℕ, List, true, false, true≢false, [], None, Some, Ok, Err, refl, sym, ap, subst, drop}
use Rattle.std.specs.Prelude.{IfOk, IfSome, ◌&&◌, is_none}
use Rattle.std.specs.declared.option.Option.{Option}
use Rattle.std.specs.declared.result.Result.{Result}
use Rattle.esdk_base.specs.Shelf.{Files}
use Rattle.esdk_base.specs.Streams.{EntropyState, ShelfState}
use Rattle.esdk_fields.specs.declared.faults.Fault.{Fault}
use Rattle.esdk_fields.specs.declared.faults.Fault.TheVariants as faults
use Rattle.context_codec.specs.Context.{KeyValue}
use Rattle.keyring_trait.specs.declared.manager_errors.ManagerError.{ManagerError}
use Rattle.keyring_trait.specs.declared.manager_errors.ManagerError.TheVariants as managers
use Rattle.keyring_trait.specs.Keyring.{KeyringMeaning}
use Rattle.keyring_trait.specs.Manager.{FindsMaterials, FindsNone, GivesMaterials, GivesNone, ManagerNow, Went, request_refusal}
use Rattle.keyring_trait.specs.Materials.{DecMaterialsValue, EncMaterialsValue}
use Rattle.keyring_trait.specs.Requests.{DecRequestValue, EncRequestValue}
use Rattle.keyring_trait.specs.Saying.{Admits, Saying, said_between}
use Rattle.keyring_trait.specs.Wrapping.{WrapKeyValue, ivs_of, made}
use Rattle.cmm_default.specs.DefaultCmm.{default_now, default_tells}
use Rattle.cmm_caching.specs.Asked.{store_limits}
use Rattle.cmm_caching.specs.CachingCmm.{caching_now}
use Rattle.cmm_caching.specs.Journal.{KeepsWithin}
use Rattle.cmm_caching.specs.Limits.{LimitsValue}
use Rattle.cmm_caching.specs.Store.{Store}
use Rattle.keyring_trait.specs.declared.journal.JournalLine.{JournalLine}
use Rattle.job_file.specs.declared.job.Job.{Job}
use Rattle.job_file.specs.JobFile.{JobFile}
use Rattle.batch_report.specs.declared.job_lines.JobLine.{JobLine}
use Rattle.esdk_batch.specs.Batch.{RunsBatch}
use Rattle.esdk_batch.specs.Watching.{shown_files}
use Rattle.esdk_batch.specs.Failures.{CountsFailures, tally_of}
use Rattle.esdk_encrypt.specs.Told.{NoneForRequest}
use Rattle.esdk_run.specs.Batch.{RunsWithin}
use Rattle.esdk_run.specs.Giving.{refusal_over}
use Rattle.esdk_run.specs.Serving.{IsSteadyIfCached, TreeOutlasts, TreeServes, TreeServesHeader, TreeServesNone, managing_over}
use Rattle.esdk_run.proofs.BatchMore.{runs_more}
use Rattle.esdk_run.proofs.Chain.{same_keys, where_some}

-- ---- the manager

-- the manager over a tree and with a cache
abbrev pub cached : Option Store → KeyringMeaning → ManagerNow
cached store tree = caching_now store (default_now tree)

-- What is so of a manager before its first call.
pub record Begins (cache : Option LimitsValue) (store : Option Store) (tree : KeyringMeaning) : Type 0 where
  pub limits : store_limits store ≡ cache
  pub tells : (keys : List WrapKeyValue) → default_tells tree keys → IsSteadyIfCached cache tree → (cached store tree).tells keys
  pub exact : (cached store tree).exact

-- without limits there is no cache
off_is_plain : (store : Option Store) → store_limits store ≡ None → (is_none store && true) ≡ true
off_is_plain None off = refl
off_is_plain (Some s) off = absurd cc

-- what is told where the tree is steady is so of each of the keys
where_told : (tree : KeyringMeaning) (Q : List WrapKeyValue → Type 0) → ((keys : List WrapKeyValue) → tree.keys ≡ Some keys → Q keys) → IfSome tree.keys Q
where_told tree Q each = where_some tree.keys Q each

-- it refuses what the tree is refused for
cached_refusal : (store : Option Store) (context : List KeyValue) (tree : KeyringMeaning) → request_refusal (cached store tree).meaning context ≡ refusal_over context tree
unfolding request_refusal refusal_over
cached_refusal store context tree = refl

-- ---- materials to encrypt with

serves : (cache : Option LimitsValue) (store : Option Store) (tree : KeyringMeaning) (wish : EncRequestValue) (random : List ℕ) (m : EncMaterialsValue) → Begins cache store tree
    → GivesMaterials (cached store tree) wish random m → TreeServes cache tree wish random m
serves cache store tree wish random m begins gives = record {
  unrefused = sym (cached_refusal store wish.context tree) ∙ gives.unrefused begins.exact;
  context = gives.context;
  required = gives.demanded begins.exact;
  count = gives.count;
  fresh = λ new. record {
    key = (gives.fresh refl new).key;
    wrapped = λ steady. where_told tree (λ keys. m.entries ≡ made keys m.context m.key (ivs_of tree.wraps (drop 32 random)))
        (λ keys told. (gives.fresh refl new).entries keys (begins.tells keys told steady));
  };
  wrapped = λ steady. where_told tree _ (λ keys told. gives.wrapped keys (begins.tells keys told steady));
  direct = λ off. gives.plain (off_is_plain store (begins.limits ∙ off));
}

serves_none : (cache : Option LimitsValue) (store later : Option Store) (tree left : KeyringMeaning) (wish : EncRequestValue) (error : ManagerError) → Begins cache store tree
    → GivesNone (cached store tree) (cached later left) wish error → NoneForRequest (refusal_over wish.context tree) tree.faults left.faults error
serves_none cache store later tree left wish (managers.Fault fault) begins cause = cause
serves_none cache store later tree left wish (managers.Refusal refusal) begins cause = sym (cached_refusal store wish.context tree) ∙ cause.1 begins.exact
serves_none cache store later tree left wish managers.KeyringFault begins cause = (sym (cached_refusal store wish.context tree) ∙ cause.1 begins.exact, cause.0)
serves_none cache store later tree left wish managers.Memory begins cause = tt

-- ---- materials to decrypt with

serves_header : (cache : Option LimitsValue) (store later : Option Store) (tree left : KeyringMeaning) (request : DecRequestValue) (m : DecMaterialsValue) → Begins cache store tree
    → FindsMaterials (cached store tree) (cached later left) request m → TreeServesHeader cache tree left request m
serves_header cache store later tree left request m begins finds = record {
  sound = finds.unfaulted begins.exact;
  context = finds.context;
  only = finds.only;
  opens = λ steady. where_told tree _ (λ keys told.
      let tells : (cached store tree).tells keys = begins.tells keys told steady in
      record {
        opened = rw finds.context at finds.opened keys tells;
        none = λ none. absurd (let no_key : Some m.key ≡ None = none in cc);
        first = λ stayed. sym (rw finds.context at finds.first keys tells stayed);
      });
  direct = λ off. finds.plain (off_is_plain store (begins.limits ∙ off));
}

fault_served : (cache : Option LimitsValue) (store later : Option Store) (tree left : KeyringMeaning) (request : DecRequestValue) (fault : Fault) → Begins cache store tree
    → FindsNone (cached store tree) (cached later left) request (managers.Fault fault)
    → TreeServesNone cache tree left request (managers.Fault fault)
fault_served cache store later tree left request faults.ReservedKey begins finds = finds.1 begins.exact
fault_served cache store later tree left request (faults.ContextMismatch key) begins finds = finds.1 begins.exact
fault_served cache store later tree left request (faults.MissingRequired key) begins finds = finds.1 begins.exact
fault_served cache store later tree left request (faults.ContextTooLong n) begins finds = finds.1 begins.exact
fault_served cache store later tree left request faults.NoKeyOpens begins finds = record {
  sound = finds.1 begins.exact;
  none = λ steady. record {
    sound = finds.1 begins.exact;
    none = where_told tree _ (λ keys told. finds.0 keys (begins.tells keys told steady));
  };
}
fault_served cache store later tree left request fault begins finds = absurd finds.0

serves_no_header : (cache : Option LimitsValue) (store later : Option Store) (tree left : KeyringMeaning) (request : DecRequestValue) (error : ManagerError) → Begins cache store tree
    → FindsNone (cached store tree) (cached later left) request error → TreeServesNone cache tree left request error
serves_no_header cache store later tree left request (managers.Fault fault) begins finds = fault_served cache store later tree left request fault begins finds
serves_no_header cache store later tree left request (managers.Refusal refusal) begins none = none
serves_no_header cache store later tree left request managers.KeyringFault begins failed = (failed.1 begins.exact, failed.0)
serves_no_header cache store later tree left request managers.Memory begins free = tt

-- ---- all that it may say

pub tree_admits : (cache : Option LimitsValue) (store later : Option Store) (tree left : KeyringMeaning) → Begins cache store tree
    → Admits (managing_over cache tree left) (said_between (cached store tree) (cached later left))
tree_admits cache store later tree left begins = record {
  wraps = refl;
  gives = λ wish now random m gives. serves cache store tree wish random m begins gives;
  gives_none = λ wish error cause. serves_none cache store later tree left wish error begins cause;
  finds = λ request now m finds. serves_header cache store later tree left request m begins finds;
  finds_none = λ request error finds. serves_no_header cache store later tree left request error begins finds;
}

-- ---- what is left of the tree

-- a plain manager has no cache, of which anything is so
plain_is_right : (store : Option Store) (tree : KeyringMeaning) (keys : List WrapKeyValue) → (is_none store && true) ≡ true → default_tells tree keys → (cached store tree).tells keys
plain_is_right None tree keys plain told = record { told = told; steady = λ some. absurd (true≢false some); right = tt }
plain_is_right (Some s) tree keys plain told = absurd cc

-- where there is no cache, nothing is asked of the tree
unsteady : (cache : Option LimitsValue) (tree : KeyringMeaning) → cache ≡ None → IsSteadyIfCached cache tree
unsteady None tree off = tt
unsteady (Some limits) tree off = absurd cc

-- what the words of a cache say
pub steady_cached : (cache : Option LimitsValue) (tree : KeyringMeaning) → IsSteadyIfCached cache tree → is_none cache ≡ false → tree.steady ≡ true
steady_cached None tree so some = absurd (true≢false some)
steady_cached (Some limits) tree so some = so

pub tree_outlasts : (cache : Option LimitsValue) (store later : Option Store) (tree left : KeyringMeaning) → Begins cache store tree
    → Went (cached store tree) (cached later left) → TreeOutlasts cache tree left
tree_outlasts cache store later tree left begins went =
    let on : (steady : IsSteadyIfCached cache tree) (keys : List WrapKeyValue) → tree.keys ≡ Some keys → left.keys ≡ Some keys =
    λ steady keys told. (went.tells keys (begins.tells keys told steady)).told in
    record {
      wraps = went.goes.wraps;
      refuses = went.goes.refuses;
      steady = went.goes.steady;
      later = went.goes.later;
      still = went.goes.still;
      keys = λ steady. where_told tree (λ keys. left.keys ≡ Some keys) (on steady);
      same = λ off.
          let plain : (is_none store && true) ≡ true = off_is_plain store (begins.limits ∙ off) in
          same_keys tree.keys left.keys (on (unsteady cache tree off))
          (λ keys told. (went.same plain keys (plain_is_right later left keys (went.goes.plain ∙ plain) told)).told);
    }

-- ---- a batch over such a manager

-- what the manager may say that held the tree of the first value, and then that of the second
abbrev pub said_over : {N : Type 0} → (N → KeyringMeaning) → (v w : N × Option Store) → Saying
said_over meaning v w = said_between (cached v.1 (meaning v.0)) (cached w.1 (meaning w.0))

pub runs_over : {N E : Type 0} (meaning : N → KeyringMeaning) (inner tree left : N) (made first last : N × Option Store) (file : JobFile) (old new : ShelfState) (entropy spent : EntropyState)
    (before after shown : List JournalLine) (r : Result (List JobLine) E) → first ≡ made → made.0 ≡ inner → inner ≡ tree → left ≡ last.0
    → Begins file.cache made.1 (meaning inner) → before ≡ [] → shown ≡ after → KeepsWithin (store_limits first.1) shown
    → IfOk r (RunsBatch (said_over meaning first last) file 0 old.files new.files entropy spent before after)
    → ((held : Files) → IfOk r (RunsBatch (said_over meaning first last) file 0 (Some held) (shown_files held old new) entropy spent before after))
    → IfOk r (RunsWithin (managing_over file.cache (meaning tree) (meaning left)) file old new entropy spent)
runs_over meaning inner tree left made first last file old new entropy spent before after shown (Err error) is_first is_made is_inner is_left begins none is_shown within runs shown_so = tt
runs_over {N} meaning inner tree left made first last file old new entropy spent before after shown (Ok lines) is_first is_made is_inner is_left begins none is_shown within runs shown_so =
    let is : first ≡ (tree, made.1) = is_first ∙ ap (λ (n : N). (n, made.1)) (is_made ∙ is_inner) in
    let begun : Begins file.cache made.1 (meaning tree) = subst (λ (n : N). Begins file.cache made.1 (meaning n)) is_inner begins in
    let over : (was now : Option Files) → RunsBatch (said_over meaning first last) file 0 was now entropy spent before after lines
    → RunsBatch (managing_over file.cache (meaning tree) (meaning left)) file 0 was now entropy spent [] after lines =
    λ was now said.
    (let ran : RunsBatch (said_over meaning (tree, made.1) last) file 0 was now entropy spent before after lines =
    subst (λ (v : N × Option Store). RunsBatch (said_over meaning v last) file 0 was now entropy spent before after lines) is said in
    let more : RunsBatch (managing_over file.cache (meaning tree) (meaning last.0)) file 0 was now entropy spent before after lines =
    runs_more (tree_admits file.cache made.1 last.1 (meaning tree) (meaning last.0) begun) ran in
    let from_none : RunsBatch (managing_over file.cache (meaning tree) (meaning last.0)) file 0 was now entropy spent [] after lines =
    subst (λ (b : List JournalLine). RunsBatch (managing_over file.cache (meaning tree) (meaning last.0)) file 0 was now entropy spent b after lines) none more in
    subst (λ (l : N). RunsBatch (managing_over file.cache (meaning tree) (meaning l)) file 0 was now entropy spent [] after lines) (sym is_left) from_none) in
    let limits : store_limits first.1 ≡ file.cache = ap (λ (v : N × Option Store). store_limits v.1) is ∙ begins.limits in
    record {
      journal = after;
      runs = over old.files new.files runs;
      shown = λ held. over (Some held) (shown_files held old new) (shown_so held);
      within = subst (λ (j : List JournalLine). KeepsWithin file.cache j) is_shown (subst (λ (l : Option LimitsValue). KeepsWithin l shown) limits within);
    }

pub outlasts_over : {N : Type 0} (meaning : N → KeyringMeaning) (cache : Option LimitsValue) (inner tree left : N) (made first last : N × Option Store)
    → first ≡ made → made.0 ≡ inner → inner ≡ tree → left ≡ last.0 → Begins cache made.1 (meaning inner)
    → Went (cached first.1 (meaning first.0)) (cached last.1 (meaning last.0)) → TreeOutlasts cache (meaning tree) (meaning left)
outlasts_over {N} meaning cache inner tree left made first last is_first is_made is_inner is_left begins went =
    let is : first ≡ (tree, made.1) = is_first ∙ ap (λ (n : N). (n, made.1)) (is_made ∙ is_inner) in
    let begun : Begins cache made.1 (meaning tree) = subst (λ (n : N). Begins cache made.1 (meaning n)) is_inner begins in
    let lasts : TreeOutlasts cache (meaning tree) (meaning last.0) = tree_outlasts cache made.1 last.1 (meaning tree) (meaning last.0) begun
    (subst (λ (v : N × Option Store). Went (cached v.1 (meaning v.0)) (cached last.1 (meaning last.0))) is went) in
    subst (λ (l : N). TreeOutlasts cache (meaning tree) (meaning l)) (sym is_left) lasts

-- the manager fails as often as its tree
pub counts_over : {N E : Type 0} (meaning : N → KeyringMeaning) (inner tree left : N) (made first last : N × Option Store) (jobs : List Job) (old new : ShelfState) (drawn spent : ℕ)
    (r : Result (List JobLine) E) → first ≡ made → made.0 ≡ inner → inner ≡ tree → left ≡ last.0
    → IfOk r (CountsFailures jobs (tally_of old drawn (cached first.1 (meaning first.0)).meaning.faults) (tally_of new spent (cached last.1 (meaning last.0)).meaning.faults))
    → IfOk r (CountsFailures jobs (tally_of old drawn (meaning tree).faults) (tally_of new spent (meaning left).faults))
counts_over meaning inner tree left made first last jobs old new drawn spent (Err error) is_first is_made is_inner is_left counts = tt
counts_over {N} meaning inner tree left made first last jobs old new drawn spent (Ok lines) is_first is_made is_inner is_left counts =
    let is : first.0 ≡ tree = (λ i. (is_first i).0) ∙ is_made ∙ is_inner in
    subst (λ (l : N). CountsFailures jobs (tally_of old drawn (meaning tree).faults) (tally_of new spent (meaning l).faults) lines) (sym is_left)
    (subst (λ (t : N). CountsFailures jobs (tally_of old drawn (meaning t).faults) (tally_of new spent (meaning last.0).faults) lines) is counts)
