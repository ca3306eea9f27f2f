-- What is read for the decrypt jobs of a batch, where the tree is steady and tells its keys.
use Rattle.std.proofs.Common.{◌≡◌, ◌⊎◌, ◌∙◌, ℕ, Bool, true, false, List, [], ◌∷◌, None, Some, inl, inr, refl, sym, ap, subst, arith}
use Rattle.std.specs.Prelude.{All, cond, find, not, option_map, take, ◌&&◌}
use Rattle.std.specs.declared.option.Option.{Option}
use Rattle.std.specs.List.{AllZip, list_all}
use Rattle.std.proofs.lemmas.List.Elements.{All-head, All-tail}
use Rattle.esdk_base.specs.Shelf.{Files}
use Rattle.esdk_fields.specs.Counts.{Stayed}
use Rattle.esdk_fields.specs.Place.{start}
use Rattle.esdk_fields.specs.Reading.{Reading, Read, Refused, Wanting}
use Rattle.esdk_fields.specs.declared.faults.Fault.TheVariants as faults
use Rattle.esdk_fields.specs.declared.refusals.Outside.TheVariants as outsides
use Rattle.context_codec.specs.Context.{KeyValue}
use Rattle.context_codec.specs.Join.{mismatch, too_long}
use Rattle.context_codec.specs.Parts.{holds, whole_of}
use Rattle.header_codec.specs.Table.{HeaderFields, header}
use Rattle.header_codec.specs.Header.{no_limits}
use Rattle.keyring_trait.specs.declared.manager_errors.ManagerError.{ManagerError}
use Rattle.keyring_trait.specs.declared.manager_errors.ManagerError.TheVariants as managers
use Rattle.keyring_trait.specs.declared.served.Served.{Served}
use Rattle.keyring_trait.specs.Keyring.{KeyringMeaning}
use Rattle.keyring_trait.specs.Materials.{DecMaterialsValue}
use Rattle.keyring_trait.specs.Requests.{DecRequestValue}
use Rattle.keyring_trait.specs.Saying.{Saying}
use Rattle.keyring_trait.specs.Unlocking.{Refuses, Unlocking, Unlocks, offences, pair_offence, reserved_stored}
use Rattle.keyring_trait.specs.Wrapping.{WrapKeyValue, first_some}
use Rattle.cmm_caching.specs.Limits.{LimitsValue}
use Rattle.message_format.specs.Judgement.{Judged, content, header_of, judged}
use Rattle.stream_open.specs.Asking.{request_of}
use Rattle.esdk_decrypt.specs.Decrypt.{AnswersReading, AnswersRequest, FailsReading, answers_at, fault_at_end}
use Rattle.esdk_decrypt.specs.Told.{Reader, answering_by, judged_by}
use Rattle.esdk_decrypt.proofs.Readers.{judged_reader}
use Rattle.esdk_decrypt.proofs.Told.{Allows}
use Rattle.job_file.specs.declared.job.Job.{Job}
use Rattle.job_file.specs.declared.job.Work.{Work}
use Rattle.job_file.specs.declared.job.Work.TheVariants.{Encrypt, Decrypt}
use Rattle.batch_report.specs.declared.job_lines.JobLine.{JobLine}
use Rattle.batch_report.specs.declared.job_lines.JobEnd.{JobEnd}
use Rattle.batch_report.specs.declared.job_lines.JobEnd.TheVariants as ends
use Rattle.esdk_batch.specs.Batch.{AllCome, WorksSo}
use Rattle.esdk_batch.specs.Answering.{HasAnswer, HasFailed, serving}
use Rattle.esdk_batch.specs.OpenStory.{JobOpens, OpensFront, OpensSo}
use Rattle.esdk_batch.specs.SealStory.{Seen, held_or_none}
use Rattle.esdk_run.specs.Decrypt.{TreeFinds, TreeFindsNone}
use Rattle.esdk_run.specs.EachJob.{IsReadBy, ReadsSo, JobReleases, JobReleasesFront, ShowsJudgements, WorkReadsSo, reader_for}
use Rattle.esdk_run.specs.Objects.{Objects, Unchanged}
use Rattle.esdk_run.specs.Run.{BatchRuns, RunsAllJobs}
use Rattle.esdk_run.specs.Serving.{IsSteadyIfCached, TreeServesHeader, TreeServesNone, managing_over}
use Rattle.esdk_run.specs.Trees.{Trees}
use Rattle.esdk_run.proofs.Keys.{keys_allow}
use Rattle.esdk_run.proofs.ReadJobs.{RequiresGiven, read_jobs_keep}
use Rattle.esdk_run.proofs.Showing.{each_has_a_line}
use Rattle.esdk_run.proofs.Statuses.{not_done, not_seven}

-- ---- required keys that are given

none_here : (here rest : Bool) (key : List ℕ) (found : Option (List ℕ)) → (here && rest) ≡ true → (rest ≡ true → found ≡ None) → cond (not here) (Some key) found ≡ None
none_here true rest key found all none = none all
none_here false rest key found all none = absurd cc

none_missing : (given : List KeyValue) (required : List (List ℕ)) → list_all (holds given) required ≡ true → find (λ key. not (holds given key)) required ≡ None
none_missing given [] all = refl
none_missing given (key ∷ required) all =
    none_here (holds given key) (list_all (holds given) required) key (find (λ k. not (holds given k)) required) all (none_missing given required)

-- they play no part in what is wrong with the pairs
given_offence : (stored given : List KeyValue) (required : List (List ℕ)) → list_all (holds given) required ≡ true → pair_offence stored given required ≡ pair_offence stored given []
unfolding offences
given_offence stored given required all =
    ap (λ (o : Option (List ℕ)). first_some (λ f. f) (option_map faults.MissingRequired o ∷ reserved_stored stored ∷ mismatch stored given ∷ too_long (whole_of stored given) ∷ []))
    (none_missing given required all)

-- ---- what the manager of a batch answers to the header of a decrypt job

module _ (cache : Option LimitsValue) (tree left : KeyringMeaning) (keys : List WrapKeyValue) (given : List KeyValue) (required : List (List ℕ))
    (steady : IsSteadyIfCached cache tree) (told : tree.keys ≡ Some keys) (stayed : Stayed tree.faults left.faults) (are_given : list_all (holds given) required ≡ true) where
  abbrev over : Saying
  over = managing_over cache tree left

  abbrev reader : Reader
  reader = reader_for keys given required

  found : (request : DecRequestValue) (m : DecMaterialsValue) → request.given ≡ given → TreeServesHeader cache tree left request m → TreeFinds required tree left request m
  found request m is serves = record {
    sound = subst (λ (pairs : List KeyValue). pair_offence request.stored pairs required ≡ pair_offence request.stored pairs []) (sym is) (given_offence request.stored given required are_given) ∙ serves.sound;
    context = serves.context;
    only = serves.only;
    opens = serves.opens steady;
  }

  not_found : (request : DecRequestValue) (error : ManagerError) → pair_offence request.stored request.given required ≡ pair_offence request.stored request.given []
      → TreeServesNone cache tree left request error → TreeFindsNone required tree left request error
  not_found request (managers.Fault faults.NoKeyOpens) same none = record { sound = same ∙ none.sound; none = (none.none steady).none }
  not_found request (managers.Fault fault) same none = same ∙ none
  not_found request (managers.Refusal refusal) same none = none
  not_found request managers.KeyringFault same failed = (same ∙ failed.0, failed.1)
  not_found request managers.Memory same free = tt

  allows : Allows (record { finds = TreeFinds required tree left; finds_none = TreeFindsNone required tree left }) (answering_by reader)
  allows = keys_allow no_limits given required tree left keys told stayed

  module _ (served : Option Served) (moment : ℕ) where
    request_answered : (request : DecRequestValue) (answer : Unlocking) → request.given ≡ given
        → AnswersRequest (answers_at (serving over served) moment) request answer → AnswersRequest (answering_by reader) request answer
    request_answered request (Unlocks whole only key) is answers =
        let m : DecMaterialsValue = record { context = whole; only = only; key = key; served = answers.0 } in
        (answers.0, allows.finds request m (found request m is answers.1.0))
    request_answered request (Refuses fault) is answers =
        allows.finds_none request (managers.Fault fault)
        (not_found request (managers.Fault fault)
        (subst (λ (pairs : List KeyValue). pair_offence request.stored pairs required ≡ pair_offence request.stored pairs []) (sym is) (given_offence request.stored given required are_given)) answers)

    reading_answered : (bytes : List ℕ) (r : Reading HeaderFields) (answer : Unlocking)
        → AnswersReading (answers_at (serving over served) moment) given bytes r answer → AnswersReading (answering_by reader) given bytes r answer
    reading_answered bytes (Read parts body) answer answers = request_answered (request_of given (header_of bytes parts)) answer refl answers
    reading_answered bytes (Refused fault at) answer is = is
    reading_answered bytes Wanting answer is = is

  -- so what is judged by that answer is the reader's judgement
  judged_so : (bytes : List ℕ) (served : Option Served) (answer : Unlocking) → HasAnswer over no_limits given bytes served answer → judged bytes no_limits answer ≡ judged_by reader bytes
  judged_so bytes served answer has =
      judged_reader reader bytes answer (reading_answered served has.moment bytes (header no_limits (start bytes)) answer has.answered)

  -- and it doesn't fail
  none_fails : (moment : ℕ) (bytes : List ℕ) (r : Reading HeaderFields) → FailsReading (answers_at over moment) given bytes r → ⊥
  none_fails moment bytes (Read parts body) failed = omega (arith, stayed, failed.1)
  none_fails moment bytes (Refused fault at) none = none
  none_fails moment bytes Wanting none = none

  never_fails : (bytes : List ℕ) → HasFailed over no_limits given bytes → ⊥
  never_fails bytes has = none_fails has.moment bytes (header no_limits (start bytes)) has.failed

  -- ---- what the job comes to

  releases : (seen : Seen) (bytes : List ℕ) (answer : Unlocking) → JobOpens over given seen bytes answer → JobReleases reader seen bytes
  releases seen bytes answer opens = record {
    from = opens.from;
    to = subst (λ (j : Judged). seen.to ≡ Some (content j)) (judged_so bytes seen.served answer opens.answered) opens.to;
  }

  front : (seen : Seen) → (seen.to ≡ Some []) ⊎ OpensFront over given seen → JobReleasesFront reader seen
  front seen (inl empty) = record { count = 0; front = empty }
  front seen (inr some) = record {
    count = some.count;
    front = subst (λ (j : Judged). seen.to ≡ Some (take some.count (content j))) (judged_so (held_or_none seen.from) seen.served some.answer some.answered) some.front;
  }

  pub reads_so : (seen : Seen) (end : JobEnd) → OpensSo over given seen end → ReadsSo reader seen end
  reads_so seen ends.Done opens = record {
    bytes = opens.bytes;
    releases = releases seen opens.bytes opens.answer opens.opens;
    whole = ap (λ (j : Judged). j.verdict) (sym (judged_so opens.bytes seen.served opens.answer opens.opens.answered)) ∙ opens.whole;
  }
  reads_so seen (ends.Fault fault) has = record {
    bytes = has.bytes;
    releases = releases seen has.bytes has.answer has.opens;
    cause = ap (λ (j : Judged). fault_at_end j.verdict) (sym (judged_so has.bytes seen.served has.answer has.opens.answered)) ∙ has.cause;
  }
  reads_so seen (ends.Outside outsides.KeyringFault) fails = absurd (never_fails fails.bytes fails.failed)
  reads_so seen (ends.Outside outsides.ShelfFault) (inl same) = inl same
  reads_so seen (ends.Outside outsides.ShelfFault) (inr left) = inr (front seen left)
  reads_so seen (ends.Outside outsides.InputTooLong) long = (front seen long.front, long.long)
  reads_so seen (ends.Outside outside) none = absurd none
  reads_so seen (ends.Refusal refusal) none = absurd none

-- ---- each job

-- what is seen of a job that drew these bytes
abbrev pub seen_with : Option (List ℕ) → Option (List ℕ) → Option (List ℕ) → Option Served → List ℕ → Seen
seen_with from before to served drawn = record { from = from; before = before; to = to; drawn = drawn; served = served }

work_read : (cache : Option LimitsValue) (tree left : KeyringMeaning) (keys : List WrapKeyValue) (work : Work) (from before to : Option (List ℕ)) (served : Option Served) (drawn : List ℕ) (end : JobEnd)
    → IsSteadyIfCached cache tree → tree.keys ≡ Some keys → Stayed tree.faults left.faults → RequiresGiven work
    → WorksSo (managing_over cache tree left) work (seen_with from before to served drawn) end → WorkReadsSo keys work (seen_with from before to served []) end
work_read cache tree left keys (Encrypt length frame context required) from before to served drawn end steady told stayed are_given works = tt
work_read cache tree left keys (Decrypt given required) from before to served drawn end steady told stayed are_given works =
    reads_so cache tree left keys given required steady told stayed are_given (seen_with from before to served []) end
    (subst (λ (d : List ℕ). OpensSo (managing_over cache tree left) given (seen_with from before to served d) end) works.0 works.1)

each_read : (cache : Option LimitsValue) (tree left : KeyringMeaning) (keys : List WrapKeyValue) (before after : Option Files) (jobs : List Job) (drawn : List (List ℕ)) (lines : List JobLine)
    → IsSteadyIfCached cache tree → tree.keys ≡ Some keys → Stayed tree.faults left.faults → All (λ job. RequiresGiven job.work) jobs
    → AllCome (managing_over cache tree left) before after jobs drawn lines → AllZip (IsReadBy keys before after) jobs lines
each_read cache tree left keys before after [] [] [] steady told stayed are_given all = tt
each_read cache tree left keys before after (job ∷ jobs) (drawn ∷ draws) (line ∷ lines) steady told stayed are_given all = (
  λ files now was is. work_read cache tree left keys job.work _ _ _ line.served drawn line.end steady told stayed
      (All-head (λ (j : Job). RequiresGiven j.work) job jobs are_given) (all.0.works files now was is),
  each_read cache tree left keys before after jobs draws lines steady told stayed (All-tail (λ (j : Job). RequiresGiven j.work) job jobs are_given) all.1,
)
each_read cache tree left keys before after jobs drawn lines steady told stayed are_given all = absurd all

-- ---- the batch

all_judged : (trees : Trees) (name : List ℕ) (before after : Objects) (code : ℕ) → RunsAllJobs trees name before after code → ShowsJudgements trees name before after
all_judged trees name before after code runs =
    let ran = runs.runs.runs.runs in
    let has = runs.runs.has in
    record {
      file = runs.runs.file;
      tree = runs.runs.tree;
      left = runs.runs.left;
      read = runs.runs.read;
      lines = runs.lines;
      has = has;
      kept = runs.runs.kept;
      still = runs.runs.goes.still;
      gained = runs.writes.gained;
      each = each_has_a_line _ _ _ runs.runs.file.jobs ran.draws runs.lines ran.jobs;
      judged = λ keys told stayed steady.
          subst (λ (files : Option Files). AllZip (IsReadBy keys files after.shelf.files) runs.runs.file.jobs runs.lines) has.stay
          (each_read runs.runs.file.cache runs.runs.tree runs.runs.left keys runs.runs.read.files after.shelf.files runs.runs.file.jobs ran.draws runs.lines steady told stayed
          (read_jobs_keep name has.jobs.read.bytes runs.runs.file has.jobs.read.is).given ran.jobs);
    }

pub says_each_judgement : (trees : Trees) (name : List ℕ) (before after : Objects) (unchanged : Unchanged) (code : ℕ)
    → BatchRuns trees name before after unchanged code → (code ≡ 0) ⊎ (code ≡ 7) → ShowsJudgements trees name before after
says_each_judgement trees name before after unchanged code (inl runs) reported = all_judged trees name before after code runs
says_each_judgement trees name before after unchanged code (inr fails) (inl zero) = absurd (not_done fails.failure code before.report after.report fails.said zero)
says_each_judgement trees name before after unchanged code (inr fails) (inr seven) = absurd (not_seven fails.failure code before.report after.report fails.said seven)
