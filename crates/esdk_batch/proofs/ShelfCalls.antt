-- The calls of a shelf, one after another; and that of a job's file the last one finishes it.
use Rattle.std.proofs.Common.{◌≡◌, ◌≢◌, ◌<◌, ◌≤◌, ◌+◌, ◌∙◌, ℕ, zero, suc, true, false, List, [], ◌∷◌, ◌++◌, length, get_or, set, map, refl, sym, ap, subst, inl, inr, arith, append_assoc, append-nil, length-set}
use Rattle.std.specs.Prelude.{◌⊎◌, All, OnErr, Result, Ok, Err, bytes_eq}
use Rattle.std.specs.List.{AllZip}
use Rattle.std.specs.Cmp.Lexicographic.{bytes_decides}
use Rattle.std.proofs.lemmas.List.{get_or_read, length-map}
use Rattle.std.proofs.lemmas.List.Folds.{list_any_at}
use Rattle.std.proofs.lemmas.List.Elements.{All-append, All-cons, All-nil, All-weaker, filter-append, filter_passes, All-filter}
use Rattle.esdk_fields.specs.Counts.{Rose}
use Rattle.esdk_seen.specs.Calls.{ForWhom, ShelfCall, announces, appends, creates, finishes, reads}
use Rattle.esdk_base.specs.Streams.{ShelfState}
use Rattle.esdk_base.specs.Told.{TellsAppend, TellsCall, whom}
use Rattle.keyring_trait.specs.declared.journal.Kind.{Kind}
use Rattle.job_file.specs.declared.job.Job.{Job}
use Rattle.job_file.specs.JobFile.{is_written}
use Rattle.batch_report.specs.declared.job_lines.JobLine.{JobLine}
use Rattle.batch_report.specs.declared.job_lines.JobEnd.{JobEnd}
use Rattle.batch_report.specs.declared.job_lines.JobEnd.TheVariants as ends
use Rattle.esdk_batch.specs.declared.progress.Live.{Live}
use Rattle.esdk_batch.specs.declared.progress.Progress.{Progress}
use Rattle.esdk_batch.specs.declared.progress.Progress.TheVariants as stages
use Rattle.esdk_batch.specs.Batch.{kind_of}
use Rattle.esdk_batch.specs.FileEndLaws.{calls_more, calls_none}
use Rattle.esdk_batch.specs.JobReads.{IsAtFront, IsReadSo, JobTurn, ReadsOnce, ReadsSoFar, all_calls, calls_of, reads_of}
use Rattle.esdk_batch.specs.Placing.{IsPlaced, PutsInPlace, readers_of, unplaced_end, unplaced_line}
use Rattle.esdk_batch.specs.Progress.{is_ended}
use Rattle.esdk_batch.specs.Rounds.{FilesAreApart}
use Rattle.esdk_batch.specs.ShelfCalls.{AreFinished, CallsAtMost, FinishesBy, FurtherCalls, FinishesNot, HasCalls, HasTurns, IsFinished, IsFinishedSo, IsOfJob, IsOfJobs, IsOfTurn, JobIsOver, IsReadOf, IsWrite, JobsCall, TurnCalls, calls_about, is_about}
use Rattle.esdk_batch.specs.Turns.{HasKind}
use Rattle.esdk_batch.proofs.Conclusion.{ended_at}
use Rattle.esdk_batch.proofs.JobReads.{all_more, apart_names, filter_none, kept_one, none_behind, once_read, once_so_far, read_and_writes, read_none, so_far_more, turns_here, turns_there, writes_behind}
use Rattle.esdk_batch.proofs.Places.{at_places}
use Rattle.esdk_batch.proofs.Standing.{apart_at}

-- ---- the calls of a shelf

-- no call was told
pub calls_still : (P : ShelfCall → Type 0) (old new : ShelfState) → new.calls ≡ old.calls → old.faults ≤ new.faults → HasCalls P old new
calls_still P old new same later = record { made = []; calls = same ∙ sym (append-nil old.calls); all = All-nil P; later = later }

abbrev pub calls_one : (P : ShelfCall → Type 0) (old new : ShelfState) (call : ShelfCall) → P call → new.calls ≡ old.calls ++ call ∷ [] → old.faults ≤ new.faults → HasCalls P old new
calls_one P old new call is told later = record { made = call ∷ []; calls = told; all = All-cons P call [] is (All-nil P); later = later }

abbrev pub calls_weaker : (P Q : ShelfCall → Type 0) (old new : ShelfState) → ((call : ShelfCall) → P call → Q call) → HasCalls P old new → HasCalls Q old new
calls_weaker P Q old new weaker has = record { made = has.made; calls = has.calls; all = All-weaker P Q weaker has.made has.all; later = has.later }

pub told_call : {T E : Type 0} (P : ShelfCall → Type 0) (old new : ShelfState) (result : Result T E) (call : ShelfCall) → P call → old.faults ≤ new.faults → TellsCall old.calls new.calls result call → HasCalls P old new
told_call P old new (Ok done) call is later tells = calls_one P old new call is tells later
told_call P old new (Err failed) call is later tells = elim tells [
  | inl same ↦ calls_still P old new same later
  | inr told ↦ calls_one P old new call is told later
]

pub told_append : {T E : Type 0} (old new : ShelfState) (result : Result T E) (name bytes : List ℕ) → old.faults ≤ new.faults → TellsAppend old.calls new.calls result name bytes → HasCalls (IsWrite name) old new
told_append old new (Ok done) name bytes later tells = calls_one (IsWrite name) old new (appends name bytes) refl tells later
told_append old new (Err failed) name bytes later tells = elim tells [
  | inl same ↦ calls_still (IsWrite name) old new same later
  | inr told ↦ calls_one (IsWrite name) old new _ refl told.1 later
]

-- ---- a job

write_named : (job : Job) (name : List ℕ) → name ≡ job.to → (call : ShelfCall) → IsWrite name call → IsOfTurn job call
write_named job name is call write = inr (subst (λ (n : List ℕ). IsWrite n call) is write)

read_named : (job : Job) (name : List ℕ) → name ≡ job.from → (call : ShelfCall) → IsReadOf name call → IsOfTurn job call
read_named job name is call read = inl (subst (λ (n : List ℕ). IsReadOf n call) is read)

pub writes_turn : (job : Job) (name : List ℕ) (old new : ShelfState) → name ≡ job.to → HasCalls (IsWrite name) old new → HasCalls (IsOfTurn job) old new
writes_turn job name old new is has = calls_weaker (IsWrite name) (IsOfTurn job) old new (write_named job name is) has

pub reads_turn : (job : Job) (name : List ℕ) (old new : ShelfState) → name ≡ job.from → HasCalls (IsReadOf name) old new → HasCalls (IsOfTurn job) old new
reads_turn job name old new is has = calls_weaker (IsReadOf name) (IsOfTurn job) old new (read_named job name is) has

-- a piece was read, and something was put behind the file or nothing
pub read_writes_turn : (job : Job) (from to : List ℕ) (old mid new : ShelfState) → from ≡ job.from → to ≡ job.to → HasCalls (IsReadOf from) old mid → HasCalls (IsWrite to) mid new → HasCalls (IsOfTurn job) old new
read_writes_turn job from to old mid new reads_from writes_to one two =
    calls_more (IsOfTurn job) old mid new (reads_turn job from old mid reads_from one) (writes_turn job to mid new writes_to two)

-- ---- a job that reads on

module _ (job : Job) (live : Live) (from to : List ℕ) (old mid new : ShelfState) (piece : List ℕ) (reads_from : from ≡ job.from) (writes_to : to ≡ job.to) (later : old.faults ≤ mid.faults)
    (told : mid.calls ≡ old.calls ++ reads from live.at piece ∷ []) (writes : HasCalls (IsWrite to) mid new) where
  abbrev piece_read : HasCalls (IsOfTurn job) old mid
  piece_read = calls_weaker (IsReadOf from) (IsOfTurn job) old mid (read_named job from reads_from) (calls_one (IsReadOf from) old mid (reads from live.at piece) refl told later)

  abbrev worked_on : HasCalls (IsOfTurn job) old new
  worked_on = calls_more (IsOfTurn job) old mid new piece_read (calls_weaker (IsWrite to) (IsOfTurn job) mid new (write_named job to writes_to) writes)

  reads_now : (made : List ShelfCall) → reads_of job.from (made ++ worked_on.made) ≡ reads_of job.from made ++ reads job.from live.at piece ∷ []
  reads_now made = read_and_writes job.from from to live.at piece made writes.made reads_from writes.all

  -- it goes on behind the piece
  pub reads_further : (next : Live) → 1 ≤ length piece → next.at ≡ live.at + length piece → FurtherCalls job (stages.Live live) (stages.Live next) old new
  reads_further next some at = record {
    has = worked_on;
    read = λ made so. subst (ReadsSoFar job.from next.at) (sym (reads_now made))
        (subst (λ (n : ℕ). ReadsSoFar job.from n (reads_of job.from made ++ reads job.from live.at piece ∷ [])) (sym at) (so_far_more job.from live.at (reads_of job.from made) piece some so));
  }

  -- it ends there
  pub reads_last : (next : Progress) (line : JobLine) → next ≡ stages.Ended line → FurtherCalls job (stages.Live live) next old new
  reads_last next line is = subst (λ (p : Progress). FurtherCalls job (stages.Live live) p old new) (sym is) (record {
    has = worked_on;
    read = λ made so. subst (ReadsOnce job.from) (sym (reads_now made)) (once_read job.from live.at (reads_of job.from made) piece so);
  })

-- it ends, and nothing was read
pub reads_no_more : (job : Job) (live : Live) (next : Progress) (line : JobLine) (old new : ShelfState) → next ≡ stages.Ended line → new.calls ≡ old.calls → old.faults ≤ new.faults
    → FurtherCalls job (stages.Live live) next old new
reads_no_more job live next line old new is same later = subst (λ (p : Progress). FurtherCalls job (stages.Live live) p old new) (sym is) (record {
  has = record { made = []; calls = same ∙ sym (append-nil old.calls); all = All-nil (IsOfTurn job); later = later };
  read = λ made so. subst (ReadsOnce job.from) (sym (ap (reads_of job.from) (append-nil made))) (once_so_far job.from live.at (reads_of job.from made) so);
})

first_so : (job : Job) (next : Progress) (made more : List ShelfCall) → IsAtFront next → reads_of job.from more ≡ reads_of job.from made → IsReadSo job stages.Waiting made → IsReadSo job next more
first_so job stages.Waiting made more at same so = absurd at
first_so job (stages.Live live) made more at same so = subst (ReadsSoFar job.from live.at) (sym same) (subst (λ (n : ℕ). ReadsSoFar job.from n (reads_of job.from made)) (sym at) so)
first_so job (stages.Ended line) made more at same so = subst (ReadsOnce job.from) (sym same) (once_so_far job.from 0 (reads_of job.from made) so)

-- it is opened, and what it writes is made
pub reads_first : (job : Job) (next : Progress) (old new : ShelfState) → IsAtFront next → HasCalls (IsWrite job.to) old new → FurtherCalls job stages.Waiting next old new
reads_first job next old new at writes = record {
  has = calls_weaker (IsWrite job.to) (IsOfTurn job) old new (write_named job job.to refl) writes;
  read = λ made so. first_so job next made (made ++ writes.made) at (writes_behind job.from job.to made writes.made writes.all) so;
}

turn_job : (job : Job) (call : ShelfCall) → IsOfTurn job call → IsOfJob job call
turn_job job (reads name at bytes) (inl read) = read
turn_job job (reads name at bytes) (inr write) = absurd write
turn_job job (creates name) (inl read) = absurd read
turn_job job (creates name) (inr write) = write
turn_job job (appends name bytes) (inl read) = absurd read
turn_job job (appends name bytes) (inr write) = write
turn_job job (announces name) (inl read) = absurd read
turn_job job (announces name) (inr write) = absurd write
turn_job job (finishes name whom) (inl read) = absurd read
turn_job job (finishes name whom) (inr write) = absurd write

-- ---- the calls about one name

pub about_both : (name : List ℕ) (made more : List ShelfCall) → calls_about name (made ++ more) ≡ calls_about name made ++ calls_about name more
about_both name made more = filter-append (is_about name) made more

write_about : (job : Job) (call : ShelfCall) → IsOfTurn job call → is_about job.to call ≡ true → IsWrite job.to call
write_about job (reads name at bytes) of about = absurd cc
write_about job (creates name) of about = turn_job job (creates name) of
write_about job (appends name bytes) of about = turn_job job (appends name bytes) of
write_about job (announces name) of about = absurd cc
write_about job (finishes name whom) (inl read) about = absurd read
write_about job (finishes name whom) (inr write) about = absurd write

-- in a turn the job's file isn't finished
pub turn_not : (job : Job) (made : List ShelfCall) → All (IsOfTurn job) made → FinishesNot job.to made
turn_not job made all =
    let of = All-filter (is_about job.to) (IsOfTurn job) made all in
    let about = filter_passes (is_about job.to) made in
    λ k d below. write_about job (get_or (calls_about job.to made) k d) (of k d below) (about k d below)

other_about : (job : Job) (other : List ℕ) (call : ShelfCall) → other ≢ job.to → IsOfJob job call → is_about other call ≡ false
other_about job other (reads name at bytes) apart of = refl
other_about job other (creates name) apart of = apart_names name job.to other of apart
other_about job other (appends name bytes) apart of = apart_names name job.to other of apart
other_about job other (announces name) apart of = absurd of
other_about job other (finishes name whom) apart of = apart_names name job.to other of apart

-- the calls of a job aren't about what another writes
pub about_other : (job : Job) (other : List ℕ) (made more : List ShelfCall) → other ≢ job.to → All (IsOfJob job) more → calls_about other (made ++ more) ≡ calls_about other made
about_other job other made more apart all =
    about_both other made more
    ∙ ap (λ (l : List ShelfCall). calls_about other made ++ l)
    (filter_none (is_about other) more (All-weaker (IsOfJob job) (λ (call : ShelfCall). is_about other call ≡ false) (λ call of. other_about job other call apart of) more all))
    ∙ append-nil (calls_about other made)

-- ---- how far a job's file is

rose_later : (before now later : ℕ) → now ≤ later → Rose before now → Rose before later
rose_later before now later less rose = omega (arith, less, rose)

rose_sooner : (first before now : ℕ) → first ≤ before → Rose before now → Rose first now
rose_sooner first before now less rose = omega (arith, less, rose)

once_same : (job : Job) (made more : List ShelfCall) → calls_about job.to more ≡ calls_about job.to made → IsFinished job made → IsFinished job more
once_same job made more same once = record { written = once.written; only = once.only; last = same ∙ once.last }

not_same : (name : List ℕ) (made more : List ShelfCall) → calls_about name more ≡ calls_about name made → FinishesNot name made → FinishesNot name more
not_same name made more same none = subst (λ (l : List ShelfCall). All (IsWrite name) l) (sym same) none

-- calls about other names came
pub so_same : (job : Job) (one : Progress) (made more : List ShelfCall) (before now later : ℕ) → calls_about job.to more ≡ calls_about job.to made → now ≤ later
    → IsFinishedSo job one made before now → IsFinishedSo job one more before later
so_same job stages.Waiting made more before now later same less so = not_same job.to made more same so
so_same job (stages.Live live) made more before now later same less so = not_same job.to made more same so
so_same job (stages.Ended line) made more before now later same less so = elim so [
  | inl once ↦ inl (once_same job made more same once)
  | inr none ↦ inr (not_same job.to made more same none.0, none.1, rose_later before now later less none.2)
]

not_behind : (name : List ℕ) (made more : List ShelfCall) → FinishesNot name made → FinishesNot name more → FinishesNot name (made ++ more)
not_behind name made more one two =
    subst (λ (l : List ShelfCall). All (IsWrite name) l) (sym (about_both name made more)) (All-append (IsWrite name) (calls_about name made) (calls_about name more) one two)

once_behind : (job : Job) (made more : List ShelfCall) → FinishesNot job.to made → IsFinished job more → IsFinished job (made ++ more)
once_behind job made more none once = record {
  written = calls_about job.to made ++ once.written;
  only = All-append (IsWrite job.to) (calls_about job.to made) once.written none once.only;
  last = about_both job.to made more ∙ ap (λ (l : List ShelfCall). calls_about job.to made ++ l) once.last
      ∙ sym (append_assoc (calls_about job.to made) once.written (finishes job.to (whom (readers_of (kind_of job.work))) ∷ []));
}

-- a turn came behind others, before which the file wasn't finished
pub so_behind : (job : Job) (one : Progress) (made more : List ShelfCall) (first before now : ℕ) → FinishesNot job.to made → first ≤ before
    → IsFinishedSo job one more before now → IsFinishedSo job one (made ++ more) first now
so_behind job stages.Waiting made more first before now none less so = not_behind job.to made more none so
so_behind job (stages.Live live) made more first before now none less so = not_behind job.to made more none so
so_behind job (stages.Ended line) made more first before now none less so = elim so [
  | inl once ↦ inl (once_behind job made more none once)
  | inr not ↦ inr (not_behind job.to made more none not.0, not.1, rose_sooner first before now less not.2)
]

-- ---- the file is put in its place

-- the call that finishes it stands last
finish_last : (job : Job) (kind : Kind) (made : List ShelfCall) → kind ≡ kind_of job.work → All (IsOfTurn job) made → IsFinished job (made ++ finishes job.to (whom (readers_of kind)) ∷ [])
finish_last job kind made is all =
    let call : ShelfCall = finishes job.to (whom (readers_of kind)) in
    let named : call ≡ finishes job.to (whom (readers_of (kind_of job.work))) = ap (λ (k : Kind). finishes job.to (whom (readers_of k))) is in
    record {
      written = calls_about job.to made;
      only = turn_not job made all;
      last = about_both job.to made (call ∷ [])
          ∙ ap (λ (l : List ShelfCall). calls_about job.to made ++ l) (kept_one (bytes_eq job.to job.to) call ((bytes_decides job.to job.to).1 refl) ∙ ap (λ (c : ShelfCall). c ∷ []) named);
    }

not_done : (end : JobEnd) → unplaced_end end ≡ ends.Done → ⊥
not_done ends.Done e = cc
not_done (ends.Refusal refusal) e = cc
not_done (ends.Fault fault) e = cc
not_done (ends.Outside outside) e = cc

-- what is said of it says what it ended as
ended_once : (job : Job) (placed : Progress) (line : JobLine) (made : List ShelfCall) (before now : ℕ) → (placed ≡ stages.Ended line) ⊎ (placed ≡ stages.Ended (unplaced_line line)) → IsFinished job made
    → IsFinishedSo job placed made before now
ended_once job placed line made before now is once = elim is [
  | inl same ↦ subst (λ (p : Progress). IsFinishedSo job p made before now) (sym same) (inl once)
  | inr other ↦ subst (λ (p : Progress). IsFinishedSo job p made before now) (sym other) (inl once)
]

finish_job : (job : Job) (kind : ForWhom) → IsOfJob job (finishes job.to kind)
finish_job job kind = refl

placed_as : (line : JobLine) (placed : Progress) (before after : ℕ) → IsPlaced (stages.Ended line) placed before after → (placed ≡ stages.Ended line) ⊎ (placed ≡ stages.Ended (unplaced_line line))
placed_as line placed before after is = elim is [ inl same ↦ inl same.0 | inr failed ↦ inr failed.0 ]

module _ (job : Job) (old next : Progress) (before mid after : ShelfState) (later : mid.faults ≤ after.faults) (further : FurtherCalls job old next before mid) where
  abbrev worked : HasCalls (IsOfJob job) before mid
  worked = calls_weaker (IsOfTurn job) (IsOfJob job) before mid (turn_job job) further.has

  -- no call came then
  abbrev still : after.calls ≡ mid.calls → HasCalls (IsOfJob job) before after
  still same = record { made = further.has.made; calls = same ∙ further.has.calls; all = worked.all; later = omega (arith, further.has.later, later) }

  running : (placed one : Progress) → after.calls ≡ mid.calls → placed ≡ one → IsFinishedSo job one further.has.made before.faults after.faults
      → ((made : List ShelfCall) → IsReadSo job old made → IsReadSo job one (made ++ further.has.made)) → TurnCalls job old placed before after
  running placed one same is so read = record {
    has = still same;
    so = subst (λ (p : Progress). IsFinishedSo job p further.has.made before.faults after.faults) (sym is) so;
    read = λ made was. subst (λ (p : Progress). IsReadSo job p (made ++ further.has.made)) (sym is) (read made was);
  }

  -- the call that finishes the file reads nothing
  read_finished : (placed : Progress) (line : JobLine) (call : ShelfCall) → next ≡ stages.Ended line → (placed ≡ stages.Ended line) ⊎ (placed ≡ stages.Ended (unplaced_line line)) → reads_of job.from (call ∷ []) ≡ []
      → (made : List ShelfCall) → IsReadSo job old made → IsReadSo job placed (made ++ (further.has.made ++ call ∷ []))
  read_finished placed line call ends is none made was =
      let so : ReadsOnce job.from (reads_of job.from (made ++ further.has.made)) = subst (λ (p : Progress). IsReadSo job p (made ++ further.has.made)) ends (further.read made was) in
      let all : ReadsOnce job.from (reads_of job.from (made ++ (further.has.made ++ call ∷ []))) =
      subst (ReadsOnce job.from) (sym (ap (reads_of job.from) (sym (append_assoc made further.has.made (call ∷ []))) ∙ none_behind job.from (made ++ further.has.made) (call ∷ []) none)) so in
      elim is [
        | inl same ↦ subst (λ (p : Progress). IsReadSo job p (made ++ (further.has.made ++ call ∷ []))) (sym same) all
        | inr other ↦ subst (λ (p : Progress). IsReadSo job p (made ++ (further.has.made ++ call ∷ []))) (sym other) all
      ]

  finished : (placed : Progress) (line : JobLine) → next ≡ stages.Ended line → line.kind ≡ kind_of job.work → (placed ≡ stages.Ended line) ⊎ (placed ≡ stages.Ended (unplaced_line line))
      → after.calls ≡ mid.calls ++ finishes job.to (whom (readers_of line.kind)) ∷ [] → TurnCalls job old placed before after
  finished placed line ends kind is told =
      let call : ShelfCall = finishes job.to (whom (readers_of line.kind)) in
      record {
        has = calls_more (IsOfJob job) before mid after worked (calls_one (IsOfJob job) mid after call (finish_job job (whom (readers_of line.kind))) told later);
        so = ended_once job placed line (further.has.made ++ call ∷ []) before.faults after.faults is (finish_last job line.kind further.has.made kind further.has.all);
        read = read_finished placed line call ends is refl;
      }

  finished_so : (placed : Progress) (is : Progress) → next ≡ is → HasKind job.work is → IsPlaced is placed mid.faults after.faults → FinishesBy job is placed mid after → TurnCalls job old placed before after
  finished_so placed stages.Waiting same kind is by = running placed stages.Waiting by is (turn_not job further.has.made further.has.all)
      (λ made was. subst (λ (p : Progress). IsReadSo job p (made ++ further.has.made)) same (further.read made was))
  finished_so placed (stages.Live live) same kind is by = running placed (stages.Live live) by is (turn_not job further.has.made further.has.all)
      (λ made was. subst (λ (p : Progress). IsReadSo job p (made ++ further.has.made)) same (further.read made was))
  finished_so placed (stages.Ended line) same kind is by = elim by [
    | inl told ↦ finished placed line same kind (placed_as line placed mid.faults after.faults is) told
    | inr failed ↦ running placed (stages.Ended (unplaced_line line)) failed.0 failed.1
        (inr (turn_not job further.has.made further.has.all, not_done line.end, rose_sooner before.faults mid.faults after.faults further.has.later failed.2))
        (λ made was. subst (λ (p : Progress). IsReadSo job p (made ++ further.has.made)) same (further.read made was))
  ]

-- a turn, behind which what the job wrote was put in its place
pub turn_finished : (job : Job) (old next placed : Progress) (before mid after : ShelfState) → HasKind job.work next → PutsInPlace next placed mid after → FurtherCalls job old next before mid
    → FinishesBy job next placed mid after → TurnCalls job old placed before after
turn_finished job old next placed before mid after kind puts further by = finished_so job old next before mid after puts.later further placed next refl kind puts.line by

-- as the code says how the job stood
pub calls_as : (job : Job) (old known new : Progress) (before now : ShelfState) → old ≡ known → TurnCalls job known new before now → TurnCalls job old new before now
calls_as job old known new before now is turn = subst (λ (p : Progress). TurnCalls job p new before now) (sym is) turn

-- ---- all jobs

written_at : (jobs : List Job) (i : ℕ) (job : Job) (name : List ℕ) → i < length jobs → job ≡ get_or jobs i job → name ≡ job.to → is_written jobs name ≡ true
written_at jobs i job name within is of =
    list_any_at (λ (j : Job). bytes_eq name j.to) jobs i job within ((bytes_decides name (get_or jobs i job).to).1 (of ∙ ap (λ (j : Job). j.to) is))

running_not : (job : Job) (one : Progress) (made : List ShelfCall) (before now : ℕ) → is_ended one ≡ false → IsFinishedSo job one made before now → FinishesNot job.to made
running_not job stages.Waiting made before now runs so = so
running_not job (stages.Live live) made before now runs so = so
running_not job (stages.Ended line) made before now runs so = absurd cc

pub job_jobs : (jobs : List Job) (i : ℕ) (job : Job) → i < length jobs → job ≡ get_or jobs i job → (call : ShelfCall) → IsOfJob job call → IsOfJobs jobs call
job_jobs jobs i job within is (reads name at bytes) of =
    list_any_at (λ (j : Job). bytes_eq name j.from) jobs i job within ((bytes_decides name (get_or jobs i job).from).1 (of ∙ ap (λ (j : Job). j.from) is))
job_jobs jobs i job within is (creates name) of = written_at jobs i job name within is of
job_jobs jobs i job within is (appends name bytes) of = written_at jobs i job name within is of
job_jobs jobs i job within is (announces name) of = absurd of
job_jobs jobs i job within is (finishes name whom) of = written_at jobs i job name within is of

module _ (jobs : List Job) (progress : List Progress) (i : ℕ) (job : Job) (old new : Progress) (began before now : ShelfState) (within : i < length progress) (each : length progress ≡ length jobs)
    (is : job ≡ get_or jobs i job) (was : old ≡ get_or progress i old) (runs : is_ended old ≡ false) (apart : FilesAreApart jobs)
    (has : HasCalls (IsOfJob job) before now) (so : IsFinishedSo job new has.made before.faults now.faults) (all : JobsCall jobs began before progress) where
  inside : i < length jobs
  inside = omega (arith, within, each)

  not_before : FinishesNot job.to all.has.made
  not_before = running_not job old all.has.made began.faults before.faults runs
      (subst (λ (p : Progress). IsFinishedSo job p all.has.made began.faults before.faults) (sym was)
      (subst (λ (j : Job). IsFinishedSo j (get_or progress i old) all.has.made began.faults before.faults) (sym is) (all.so i job old within)))

  here : (d : Job) → IsFinishedSo (get_or jobs i d) new (all.has.made ++ has.made) began.faults now.faults
  here d = subst (λ (j : Job). IsFinishedSo j new (all.has.made ++ has.made) began.faults now.faults) (get_or_read jobs i job inside is d)
      (so_behind job new all.has.made has.made began.faults before.faults now.faults not_before all.has.later so)

  there : (k : ℕ) (d : Job) (one : Progress) → k ≢ i → k < length progress → IsFinishedSo (get_or jobs k d) (get_or progress k one) (all.has.made ++ has.made) began.faults now.faults
  there k d one other below =
      so_same (get_or jobs k d) (get_or progress k one) all.has.made (all.has.made ++ has.made) began.faults before.faults now.faults
      (about_other job (get_or jobs k d).to all.has.made has.made (apart_at jobs i k job d apart inside (omega (arith, below, each)) other is) has.all) has.later (all.so k d one below)

  abbrev pub has_after : HasCalls (IsOfJobs jobs) began now
  has_after = calls_more (IsOfJobs jobs) began before now all.has (calls_weaker (IsOfJob job) (IsOfJobs jobs) before now (job_jobs jobs i job (omega (arith, within, each)) is) has)

  pub so_after : (k : ℕ) (d : Job) (one : Progress) → k < length (set progress i new) → IsFinishedSo (get_or jobs k d) (get_or (set progress i new) k one) (all.has.made ++ has.made) began.faults now.faults
  so_after k d one below = at_places (λ k p. IsFinishedSo (get_or jobs k d) p (all.has.made ++ has.made) began.faults now.faults) progress i new within (here d) (λ k p other under. there k d p other under) k one below

module _ (jobs : List Job) (progress : List Progress) (i : ℕ) (job : Job) (old new : Progress) (began before now : ShelfState) (within : i < length progress) (each : length progress ≡ length jobs)
    (is : job ≡ get_or jobs i job) (was : old ≡ get_or progress i old) (turn : TurnCalls job old new before now) (all : JobsCall jobs began before progress) where
  abbrev pub turns_now : List JobTurn
  turns_now = all.turns ++ (record { job = i; calls = turn.has.made }) ∷ []

  pub turns_all : all.has.made ++ turn.has.made ≡ all_calls turns_now
  turns_all = ap (λ (l : List ShelfCall). l ++ turn.has.made) all.in_turns ∙ sym (all_more all.turns (record { job = i; calls = turn.has.made }))

  -- the job had its turn
  read_here : (d : Job) → HasTurns (get_or jobs i d) new (calls_of i turns_now)
  read_here d =
      let before_it : HasTurns job old (calls_of i all.turns) =
      subst (λ (p : Progress). HasTurns job p (calls_of i all.turns)) (sym was) (subst (λ (j : Job). HasTurns j (get_or progress i old) (calls_of i all.turns)) (sym is) (all.reads_so i job old within)) in
      let behind : HasTurns job new (calls_of i all.turns ++ turn.has.made) =
      (All-append (IsOfJob job) (calls_of i all.turns) turn.has.made before_it.0 turn.has.all, turn.read (calls_of i all.turns) before_it.1) in
      subst (λ (j : Job). HasTurns j new (calls_of i turns_now)) (get_or_read jobs i job (omega (arith, within, each)) is d)
      (subst (HasTurns job new) (sym (turns_here i all.turns turn.has.made)) behind)

  read_there : (k : ℕ) (d : Job) (one : Progress) → k ≢ i → k < length progress → HasTurns (get_or jobs k d) (get_or progress k one) (calls_of k turns_now)
  read_there k d one other below = subst (HasTurns (get_or jobs k d) (get_or progress k one)) (sym (turns_there i k all.turns turn.has.made other)) (all.reads_so k d one below)

  pub read_after : (k : ℕ) (d : Job) (one : Progress) → k < length (set progress i new) → HasTurns (get_or jobs k d) (get_or (set progress i new) k one) (calls_of k turns_now)
  read_after k d one below = at_places (λ k p. HasTurns (get_or jobs k d) p (calls_of k turns_now)) progress i new within (read_here d) (λ k p other under. read_there k d p other under) k one below

pub jobs_after : (jobs : List Job) (progress : List Progress) (i : ℕ) (job : Job) (old new : Progress) (began before now : ShelfState) → i < length progress → length progress ≡ length jobs
    → job ≡ get_or jobs i job → old ≡ get_or progress i old → is_ended old ≡ false → FilesAreApart jobs → TurnCalls job old new before now → JobsCall jobs began before progress
    → JobsCall jobs began now (set progress i new)
jobs_after jobs progress i job old new began before now within each is was runs apart turn all = record {
  has = has_after jobs progress i job old new began before now within each is was runs apart turn.has turn.so all;
  so = so_after jobs progress i job old new began before now within each is was runs apart turn.has turn.so all;
  turns = turns_now jobs progress i job old new began before now within each is was turn all;
  in_turns = turns_all jobs progress i job old new began before now within each is was turn all;
  reads_so = read_after jobs progress i job old new began before now within each is was turn all;
}

pub at_most : (job : Job) (one : Progress) (made : List ShelfCall) (before now : ℕ) → IsFinishedSo job one made before now → IsFinished job made ⊎ FinishesNot job.to made
at_most job stages.Waiting made before now so = inr so
at_most job (stages.Live live) made before now so = inr so
at_most job (stages.Ended line) made before now so = elim so [ inl once ↦ inl once | inr none ↦ inr none.0 ]

still_so : (job : Job) (one : Progress) (made : List ShelfCall) (before now : ℕ) → is_ended one ≡ false → All (IsOfTurn job) made → IsFinishedSo job one made before now
still_so job stages.Waiting made before now runs all = turn_not job made all
still_so job (stages.Live live) made before now runs all = turn_not job made all
still_so job (stages.Ended line) made before now runs all = absurd cc

-- memory ran out in a turn
pub jobs_broken : (jobs : List Job) (progress : List Progress) (i : ℕ) (job : Job) (old : Progress) (began before now : ShelfState) → i < length progress → length progress ≡ length jobs
    → job ≡ get_or jobs i job → old ≡ get_or progress i old → is_ended old ≡ false → FilesAreApart jobs → HasCalls (IsOfTurn job) before now → JobsCall jobs began before progress → CallsAtMost jobs began now
jobs_broken jobs progress i job old began before now within each is was runs apart calls all =
    let has : HasCalls (IsOfJob job) before now = calls_weaker (IsOfTurn job) (IsOfJob job) before now (turn_job job) calls in
    let so : IsFinishedSo job old calls.made before.faults now.faults = still_so job old calls.made before.faults now.faults runs calls.all in
    record {
      has = has_after jobs progress i job old old began before now within each is was runs apart has so all;
      most = λ k d below. at_most (get_or jobs k d) (get_or (set progress i old) k stages.Waiting) (all.has.made ++ calls.made) began.faults now.faults
          (so_after jobs progress i job old old began before now within each is was runs apart has so all k d stages.Waiting (omega (arith, below, length-set progress i old, each)));
    }

-- ---- the batch

pub jobs_none : (jobs : List Job) (began : ShelfState) (progress : List Progress) → All (λ one. one ≡ stages.Waiting) progress → JobsCall jobs began began progress
jobs_none jobs began progress waiting = record {
  has = calls_none (IsOfJobs jobs) began;
  so = λ k job one below. subst (λ (p : Progress). IsFinishedSo (get_or jobs k job) p [] began.faults began.faults) (sym (waiting k one below)) (All-nil (IsWrite (get_or jobs k job).to));
  turns = [];
  in_turns = refl;
  reads_so = λ k job one below. subst (λ (p : Progress). HasTurns (get_or jobs k job) p []) (sym (waiting k one below)) (All-nil (IsOfJob (get_or jobs k job)), read_none (get_or jobs k job));
}

abbrev pub jobs_at_most : (jobs : List Job) (began now : ShelfState) (progress : List Progress) → length progress ≡ length jobs → JobsCall jobs began now progress → CallsAtMost jobs began now
jobs_at_most jobs began now progress each all = record {
  has = all.has;
  most = λ k job below. at_most (get_or jobs k job) (get_or progress k stages.Waiting) all.has.made began.faults now.faults (all.so k job stages.Waiting (omega (arith, below, each)));
}

-- of each, by what is so at each place
each_zip : {X Y : Type 0} (R : X → Y → Type 0) (xs : List X) (ys : List Y) → length ys ≡ length xs → ((k : ℕ) (x : X) (y : Y) → k < length ys → R (get_or xs k x) (get_or ys k y)) → AllZip R xs ys
each_zip R [] [] each at = tt
each_zip R [] (y ∷ ys) each at = absurd (omega (arith, each))
each_zip R (x ∷ xs) [] each at = absurd (omega (arith, each))
each_zip R (x ∷ xs) (y ∷ ys) each at = (at zero x y (omega arith), each_zip R xs ys (omega (arith, each)) (λ k a b below. at (suc k) a b (omega (arith, below))))

module _ (jobs : List Job) (began now : ShelfState) (progress : List Progress) (each : length progress ≡ length jobs) (all : JobsCall jobs began now progress) where
  over_at : (lines : List JobLine) → progress ≡ map stages.Ended lines → (k : ℕ) (job : Job) (line : JobLine) → k < length lines
      → JobIsOver (get_or jobs k job) (get_or lines k line).end all.has.made began.faults now.faults
  over_at lines ended k job line below =
      let under : k < length progress = omega (arith, below, ap length ended, length-map lines stages.Ended) in
      let named : get_or progress k (stages.Ended line) ≡ stages.Ended (get_or lines k line) = ap (λ (ps : List Progress). get_or ps k (stages.Ended line)) ended ∙ ended_at lines k line in
      subst (λ (p : Progress). IsFinishedSo (get_or jobs k job) p all.has.made began.faults now.faults) named (all.so k job (stages.Ended line) under)

  read_at : (lines : List JobLine) → progress ≡ map stages.Ended lines → (k : ℕ) (job : Job) → k < length jobs
      → All (IsOfJob (get_or jobs k job)) (calls_of k all.turns) × ReadsOnce (get_or jobs k job).from (reads_of (get_or jobs k job).from (calls_of k all.turns))
  read_at [] ended k job below = absurd (omega (arith, below, each, ap length ended))
  read_at (line ∷ lines) ended k job below =
      let one : Progress = stages.Ended line in
      let named : get_or progress k one ≡ stages.Ended (get_or (line ∷ lines) k line) = ap (λ (ps : List Progress). get_or ps k one) ended ∙ ended_at (line ∷ lines) k line in
      subst (λ (p : Progress). HasTurns (get_or jobs k job) p (calls_of k all.turns)) named (all.reads_so k job one (omega (arith, below, each)))

  over_all : (lines : List JobLine) → progress ≡ map stages.Ended lines → AllZip (λ job line. JobIsOver job line.end all.has.made began.faults now.faults) jobs lines
  over_all lines ended =
      each_zip (λ (job : Job) (line : JobLine). JobIsOver job line.end all.has.made began.faults now.faults) jobs lines
      (omega (arith, each, ap length ended, length-map lines stages.Ended)) (over_at lines ended)

-- the shelf was only told what is read before
pub jobs_finished : (jobs file : List Job) (before began now : ShelfState) (progress : List Progress) (lines : List JobLine) → jobs ≡ file → began ≡ before → length progress ≡ length jobs
    → JobsCall jobs began now progress → progress ≡ map stages.Ended lines → AreFinished file before now lines
jobs_finished jobs file before began now progress lines same still each all ended =
    let finished : AreFinished jobs began now lines = record { has = all.has; read = record { turns = all.turns; in_turns = all.in_turns; each = read_at jobs began now progress each all lines ended }; over = over_all jobs began now progress each all lines ended } in
    subst (λ (f : List Job). AreFinished f before now lines) same (subst (λ (s : ShelfState). AreFinished jobs s now lines) still finished)

pub most_since : (jobs file : List Job) (before began now : ShelfState) → jobs ≡ file → began ≡ before → CallsAtMost jobs began now → CallsAtMost file before now
most_since jobs file before began now same still calls =
    subst (λ (f : List Job). CallsAtMost f before now) same (subst (λ (s : ShelfState). CallsAtMost jobs s now) still calls)

-- memory ran out before the first turn
pub most_never : (jobs : List Job) (before now : ShelfState) → now ≡ before → CallsAtMost jobs before now
most_never jobs before now same =
    let none : CallsAtMost jobs before before = record { has = calls_none (IsOfJobs jobs) before; most = λ k job below. inr (All-nil (IsWrite (get_or jobs k job).to)) } in
    subst (λ (s : ShelfState). CallsAtMost jobs before s) (sym same) none

-- what holds whatever came
pub on_err : {T E P : Type 0} (r : Result T E) → P → OnErr r P
on_err (Ok done) so = tt
on_err (Err error) so = so
