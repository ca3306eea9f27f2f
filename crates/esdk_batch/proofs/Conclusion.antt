-- A batch all of whose jobs ended.
use Rattle.std.proofs.Common.{◌≡◌, ◌<◌, ℕ, zero, suc, List, [], ◌∷◌, ◌++◌, length, map, get_or, refl, sym, ap, subst, ◌∙◌, arith}
use Rattle.std.specs.Prelude.{Option, Some, zip, filter_map, option_map, Result, Ok, Err, OnOk}
use Rattle.std.specs.List.{cons_option}
use Rattle.std.specs.List.Sorted.{IsPermutation}
use Rattle.std.proofs.lemmas.List.{length-map}
use Rattle.esdk_base.specs.Shelf.{Files}
use Rattle.esdk_base.specs.Streams.{EntropyState, ShelfState}
use Rattle.keyring_trait.specs.declared.journal.JournalLine.{JournalLine}
use Rattle.keyring_trait.specs.declared.journal.Kind.{Kind}
use Rattle.desk_core.specs.Desk.{DeskValue}
use Rattle.job_file.specs.declared.job.Job.{Job}
use Rattle.job_file.specs.JobFile.{JobFile}
use Rattle.batch_report.specs.declared.job_lines.JobLine.{JobLine}
use Rattle.esdk_batch.specs.declared.progress.Progress.{Progress}
use Rattle.esdk_batch.specs.declared.progress.Progress.TheVariants as stages
use Rattle.esdk_batch.specs.Batch.{AllCome, ManagerAnswer, ComesTo, RunsBatch, in_line, in_report, kind_of, length_of}
use Rattle.esdk_batch.specs.Failures.{CountsFailures, Tally, tally_of}
use Rattle.keyring_trait.specs.Saying.{Saying}
use Rattle.esdk_batch.specs.Underway.{IsAt}
use Rattle.esdk_batch.specs.Turns.{HasKind, answered_so_far}
use Rattle.esdk_batch.specs.Rounds.{Beginning, Stand}
use Rattle.esdk_batch.specs.ShelfCalls.{announced}
use Rattle.esdk_batch.specs.Watching.{Watch, as_shown, files_by, shown_files}
use Rattle.esdk_batch.proofs.Announced.{told_seen}

-- ---- each job

-- all jobs, by what is so of each
all_come : (manager : Saying) (before after : Option Files) (jobs : List Job) (draws : List (List ℕ)) (lines : List JobLine) → length draws ≡ length lines → length lines ≡ length jobs
    → ((k : ℕ) (job : Job) (drawn : List ℕ) (line : JobLine) → k < length lines → ComesTo manager (get_or jobs k job) before after (get_or draws k drawn) (get_or lines k line))
    → AllCome manager before after jobs draws lines
all_come manager before after [] [] [] count each come = tt
all_come manager before after [] [] (line ∷ lines) count each come = absurd (omega (arith, each))
all_come manager before after [] (drawn ∷ draws) [] count each come = absurd (omega (arith, count))
all_come manager before after [] (drawn ∷ draws) (line ∷ lines) count each come = absurd (omega (arith, each))
all_come manager before after (job ∷ jobs) [] [] count each come = absurd (omega (arith, each))
all_come manager before after (job ∷ jobs) [] (line ∷ lines) count each come = absurd (omega (arith, count))
all_come manager before after (job ∷ jobs) (drawn ∷ draws) [] count each come = absurd (omega (arith, each))
all_come manager before after (job ∷ jobs) (drawn ∷ draws) (line ∷ lines) count each come = (
  come zero job drawn line (omega arith),
  all_come manager before after jobs draws lines (omega (arith, count)) (omega (arith, each)) (λ k j d l below. come (suc k) j d l (omega (arith, below))),
)

pub ended_at : (lines : List JobLine) (k : ℕ) (line : JobLine) → get_or (map stages.Ended lines) k (stages.Ended line) ≡ stages.Ended (get_or lines k line)
ended_at [] k line = refl
ended_at (l ∷ lines) zero line = refl
ended_at (l ∷ lines) (suc k) line = ended_at lines k line

comes_at : (manager : Saying) (jobs : List Job) (width : ℕ) (began : Beginning) (now : Option Files) (spent : EntropyState) (w : DeskValue) (lines : List JobLine)
    → (s : Stand manager jobs width began now spent w (map stages.Ended lines))
    → (k : ℕ) (job : Job) (drawn : List ℕ) (line : JobLine) → k < length lines → ComesTo manager (get_or jobs k job) began.files now (get_or s.draws k drawn) (get_or lines k line)
comes_at manager jobs width began now spent w lines s k job drawn line below =
    let under : k < length (map stages.Ended lines) = omega (arith, below, length-map lines stages.Ended) in
    record {
      kind = subst (HasKind (get_or jobs k job).work) (ended_at lines k line) (s.kinds k job (stages.Ended line) under);
      works = λ files left was is.
          (subst (λ one. IsAt manager (get_or jobs k job) files left (get_or s.draws k drawn) w.live one) (ended_at lines k line) (s.at files left was is k job drawn (stages.Ended line) under)).1;
    }

-- ---- the report's lines

same_answer : (job : Job) (line : JobLine) → line.kind ≡ kind_of job.work → in_report (job, line) ≡ answered_so_far (job, stages.Ended line)
same_answer job line is = ap (λ (kind : Kind). option_map (λ served. record { kind = kind; served = served; length = length_of job.work }) line.served) is

same_answers : (jobs : List Job) (lines : List JobLine) → ((k : ℕ) (job : Job) (line : JobLine) → k < length lines → k < length jobs → (get_or lines k line).kind ≡ kind_of (get_or jobs k job).work)
    → filter_map answered_so_far (zip jobs (map stages.Ended lines)) ≡ filter_map in_report (zip jobs lines)
same_answers [] lines kinds = refl
same_answers (job ∷ jobs) [] kinds = refl
same_answers (job ∷ jobs) (line ∷ lines) kinds =
    let rest = same_answers jobs lines (λ k j l below under. kinds (suc k) j l (omega (arith, below)) (omega (arith, under))) in
    ap (λ l. cons_option (answered_so_far (job, stages.Ended line)) l) rest
    ∙ ap (λ (o : Option ManagerAnswer). cons_option o (filter_map in_report (zip jobs lines))) (sym (same_answer job line (kinds zero job line (omega arith) (omega arith))))

-- ---- the batch

pub batch_ends : (manager : Saying) (file : JobFile) (v w : DeskValue) (before after : Option Files) (entropy spent : EntropyState) (lines_before lines_after : List JournalLine) (lines : List JobLine)
    → length lines ≡ length file.jobs → lines_before ≡ v.journal → lines_after ≡ w.journal
    → Stand manager file.jobs file.width (record { live = v.live; files = before; entropy = entropy; journal = v.journal; last = v.last }) after spent w (map stages.Ended lines)
    → RunsBatch manager file v.last before after entropy spent lines_before lines_after lines
batch_ends manager file v w before after entropy spent lines_before lines_after lines each was is s =
    let began : Beginning = record { live = v.live; files = before; entropy = entropy; journal = v.journal; last = v.last } in
    let come = comes_at manager file.jobs file.width began after spent w lines s in
    record {
      draws = s.draws;
      gained = s.gained;
      journal = is ∙ s.journal ∙ ap (λ l. l ++ s.gained) (sym was);
      jobs = all_come manager before after file.jobs s.draws lines (s.drawn.count ∙ length-map lines stages.Ended) each come;
      others = s.others;
      drawn = s.drawn.taken;
      served = subst (λ l. IsPermutation l (map in_line s.gained)) (same_answers file.jobs lines (λ k job line below under. (come k job [] line below).kind)) s.served;
      turns = λ stayed. (s.sealed stayed).seals;
    }

-- the same of the jobs and the progress that a call was handed
pub batch_ends_at : (manager : Saying) (file : JobFile) (v w : DeskValue) (before after : Option Files) (entropy spent : EntropyState) (lines_before lines_after : List JournalLine) (lines : List JobLine)
    (jobs : List Job) (width : ℕ) (progress : List Progress) → jobs ≡ file.jobs → width ≡ file.width → progress ≡ map stages.Ended lines → length progress ≡ length jobs
    → lines_before ≡ v.journal → lines_after ≡ w.journal
    → Stand manager jobs width (record { live = v.live; files = before; entropy = entropy; journal = v.journal; last = v.last }) after spent w progress
    → RunsBatch manager file v.last before after entropy spent lines_before lines_after lines
batch_ends_at manager file v w before after entropy spent lines_before lines_after lines jobs width progress same wide ended each was is s =
    let began : Beginning = record { live = v.live; files = before; entropy = entropy; journal = v.journal; last = v.last } in
    batch_ends manager file v w before after entropy spent lines_before lines_after lines
    (omega (arith, each, ap length ended, ap length same, length-map lines stages.Ended)) was is
    (subst (λ jobs. Stand manager jobs file.width began after spent w (map stages.Ended lines)) same
    (subst (λ width. Stand manager jobs width began after spent w (map stages.Ended lines)) wide
    (subst (λ progress. Stand manager jobs width began after spent w progress) ended s)))

-- ---- as the code says it

-- the shelf was told what is read
pub begun_as : (manager : Saying) (file : JobFile) (last : ℕ) (by : Watch) (before mid : ShelfState) (after : Option Files) (entropy spent : EntropyState) (lines_before lines_after : List JournalLine) (lines : List JobLine)
    → mid ≡ before → RunsBatch manager file last (files_by by mid) after entropy spent lines_before lines_after lines → RunsBatch manager file last (files_by by before) after entropy spent lines_before lines_after lines
begun_as manager file last by before mid after entropy spent lines_before lines_after lines same runs =
    subst (λ (s : ShelfState). RunsBatch manager file last (files_by by s) after entropy spent lines_before lines_after lines) same runs

-- the calls that show them are those since before then
pub shown_batch : (manager : Saying) (file : JobFile) (last : ℕ) (before : Files) (old new : ShelfState) (entropy spent : EntropyState) (lines_before lines_after : List JournalLine) (lines : List JobLine)
    → RunsBatch manager file last (files_by (as_shown (length old.calls) before) (announced file.jobs old)) (files_by (as_shown (length old.calls) before) new) entropy spent lines_before lines_after lines
    → RunsBatch manager file last (Some before) (shown_files before old new) entropy spent lines_before lines_after lines
shown_batch manager file last before old new entropy spent lines_before lines_after lines runs =
    subst (λ (files : Option Files). RunsBatch manager file last files (shown_files before old new) entropy spent lines_before lines_after lines)
    (told_seen before file.jobs old) runs

pub counted_as : (jobs : List Job) (entropy keyring : ℕ) (before mid : ShelfState) (now : Tally) (lines : List JobLine) → mid ≡ before → CountsFailures jobs (tally_of mid entropy keyring) now lines
    → CountsFailures jobs (tally_of before entropy keyring) now lines
counted_as jobs entropy keyring before mid now lines same counts = subst (λ (s : ShelfState). CountsFailures jobs (tally_of s entropy keyring) now lines) same counts

pub on_ok : {T E P : Type 0} (r : Result T E) → P → OnOk r P
on_ok (Ok done) so = so
on_ok (Err error) so = tt
