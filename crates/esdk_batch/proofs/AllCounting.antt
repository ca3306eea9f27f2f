-- What is counted of all jobs, turn by turn.
use Rattle.std.proofs.Common.{◌≡◌, ◌≢◌, ◌<◌, ◌+◌, ◌∙◌, ℕ, Bool, false, List, length, get_or, set, map, refl, sym, ap, subst, arith}
use Rattle.std.specs.Prelude.{All, Option, if◌then◌else◌}
use Rattle.std.specs.List.{sum_by}
use Rattle.std.proofs.lemmas.List.{get_or_read}
use Rattle.std.proofs.lemmas.List.Sums.{sum_by-set}
use Rattle.esdk_fields.specs.Counts.{RoseBy}
use Rattle.esdk_base.specs.Shelf.{Files, is_missing}
use Rattle.job_file.specs.declared.job.Job.{Job}
use Rattle.job_file.specs.JobFile.{is_written}
use Rattle.batch_report.specs.declared.job_lines.JobLine.{JobLine}
use Rattle.batch_report.specs.declared.job_lines.JobEnd.{JobEnd}
use Rattle.esdk_batch.specs.declared.progress.Progress.{Progress}
use Rattle.esdk_batch.specs.declared.progress.Progress.TheVariants as stages
use Rattle.esdk_batch.specs.Failures.{JobsCounted, CountsFailures, HasFile, Tally, TurnCounts, entropy_fails, fails_by, keyring_fails, shelf_fails, shelf_fails_of}
use Rattle.esdk_batch.specs.Files.{KeepsOthers}
use Rattle.esdk_batch.specs.Progress.{is_ended}
use Rattle.esdk_batch.specs.Rounds.{FilesAreApart}
use Rattle.esdk_batch.proofs.Counting.{kept_missing, rose_more, rose_zero, same_missing, sum_mapped, sum_none, sum_set, sum_zip_mapped, sum_zip_none}
use Rattle.esdk_batch.proofs.Places.{at_places}
use Rattle.esdk_batch.proofs.Standing.{apart_at, others_after}

-- ---- one job

running_none : (fails : JobEnd → ℕ) (one : Progress) → is_ended one ≡ false → fails_by fails one ≡ 0
running_none fails stages.Waiting running = refl
running_none fails (stages.Live now) running = refl
running_none fails (stages.Ended line) running = absurd cc

has_file_kept : (files left : Option Files) (name : List ℕ) (job : Job) (one : Progress) → KeepsOthers files left name → job.to ≢ name → HasFile files job one → HasFile left job one
has_file_kept files left name job stages.Waiting keeps apart has = tt
has_file_kept files left name job (stages.Live now) keeps apart has = kept_missing files left name job.to keeps apart ∙ has
has_file_kept files left name job (stages.Ended line) keeps apart has = tt

same_fails : (files began : Option Files) (job : Job) (one : Progress) → is_missing files job.from ≡ is_missing began job.from → fails_by (shelf_fails_of files job) one ≡ fails_by (shelf_fails_of began job) one
same_fails files began job stages.Waiting same = refl
same_fails files began job (stages.Live now) same = refl
same_fails files began job (stages.Ended line) same = ap (λ (b : Bool). if b then 0 else shelf_fails line.end) same

-- the file of the job at this place
pub has_file_at : (jobs : List Job) (progress : List Progress) (i : ℕ) (job : Job) (one : Progress) (began now : Tally) → i < length progress → length progress ≡ length jobs → job ≡ get_or jobs i job
    → one ≡ get_or progress i one → JobsCounted jobs began now progress → HasFile now.files job one
has_file_at jobs progress i job one began now within each is was all =
    subst (λ (p : Progress). HasFile now.files job p) (sym was) (subst (λ (j : Job). HasFile now.files j (get_or progress i one)) (sym is) (all.has i job one within))

-- ---- a turn

module _ (jobs : List Job) (progress : List Progress) (i : ℕ) (job : Job) (old new : Progress) (began before now : Tally) (within : i < length progress) (each : length progress ≡ length jobs)
    (is : job ≡ get_or jobs i job) (was : old ≡ get_or progress i old) (runs : is_ended old ≡ false) (apart : FilesAreApart jobs) (keeps : KeepsOthers before.files now.files job.to)
    (turn : TurnCounts job new before now) (all : JobsCounted jobs began before progress) where
  inside : i < length jobs
  inside = omega (arith, within, each)

  -- the job's file is as before the batch
  unread : is_written jobs job.from ≡ false
  unread = subst (λ (j : Job). is_written jobs j.from ≡ false) (sym is) (apart.unread i job inside)

  missing : is_missing before.files job.from ≡ is_missing began.files job.from
  missing = same_missing began.files before.files job.from all.told (all.others job.from unread)

  sum_after : (fails : JobEnd → ℕ) → sum_by (fails_by fails) (set progress i new) ≡ sum_by (fails_by fails) progress + fails_by fails new
  sum_after fails = omega (arith, sum_by-set (fails_by fails) progress i new old within, ap (fails_by fails) (sym was), running_none fails old runs)

  shelf_after : RoseBy (fails_by (shelf_fails_of began.files job) new) before.shelf now.shelf
  shelf_after = subst (λ (n : ℕ). RoseBy n before.shelf now.shelf) (same_fails before.files began.files job new missing) turn.shelf

  pub counted_after : JobsCounted jobs began now (set progress i new)
  counted_after = record {
    told = keeps.tells ∙ all.told;
    others = others_after jobs i job began.files before.files now.files inside is keeps all.others;
    has = λ k d one below. at_places (λ k one. HasFile now.files (get_or jobs k d) one) progress i new within
        (subst (λ (j : Job). HasFile now.files j new) (get_or_read jobs i job inside is d) turn.has)
        (λ k one other under. has_file_kept before.files now.files job.to (get_or jobs k d) (get_or progress k one) keeps
        (apart_at jobs i k job d apart inside (omega (arith, under, each)) other is) (all.has k d one under)) k one below;
    entropy = rose_more _ _ _ began.entropy before.entropy now.entropy (sum_after entropy_fails) all.entropy turn.entropy;
    keyring = rose_more _ _ _ began.keyring before.keyring now.keyring (sum_after keyring_fails) all.keyring turn.keyring;
    shelf = rose_more _ _ _ began.shelf before.shelf now.shelf
        (sum_set (λ (pair : Job × Progress). fails_by (shelf_fails_of began.files pair.0) pair.1) jobs progress i job old new each within is was (running_none (shelf_fails_of began.files job) old runs))
        all.shelf shelf_after;
  }

-- ---- the batch

waits_none : (fails : JobEnd → ℕ) (one : Progress) → one ≡ stages.Waiting → fails_by fails one ≡ 0
waits_none fails one waits = ap (fails_by fails) waits

-- no job had a turn
pub counted_none : (jobs : List Job) (began : Tally) (progress : List Progress) → All (λ one. one ≡ stages.Waiting) progress → JobsCounted jobs began began progress
counted_none jobs began progress waiting = record {
  told = refl;
  others = λ name none. refl;
  has = λ k job one below. subst (λ (p : Progress). HasFile began.files (get_or jobs k job) p) (sym (waiting k one below)) tt;
  entropy = rose_zero _ began.entropy began.entropy (sum_none (fails_by entropy_fails) progress (λ k d below. waits_none entropy_fails (get_or progress k d) (waiting k d below))) (omega arith);
  keyring = rose_zero _ began.keyring began.keyring (sum_none (fails_by keyring_fails) progress (λ k d below. waits_none keyring_fails (get_or progress k d) (waiting k d below))) (omega arith);
  shelf = rose_zero _ began.shelf began.shelf
      (sum_zip_none (λ (pair : Job × Progress). fails_by (shelf_fails_of began.files pair.0) pair.1) jobs progress
      (λ job k d below. waits_none (shelf_fails_of began.files job) (get_or progress k d) (waiting k d below))) (omega arith);
}

-- all jobs ended
pub counted_all : (jobs file : List Job) (began now : Tally) (progress : List Progress) (lines : List JobLine) → jobs ≡ file → progress ≡ map stages.Ended lines → JobsCounted jobs began now progress
    → CountsFailures file began now lines
counted_all jobs file began now progress lines same ended all =
    let counts : JobsCounted file began now (map stages.Ended lines) =
    subst (λ (j : List Job). JobsCounted j began now (map stages.Ended lines)) same (subst (λ (p : List Progress). JobsCounted jobs began now p) ended all) in
    record {
      entropy = subst (λ (n : ℕ). RoseBy n began.entropy now.entropy) (sum_mapped (fails_by entropy_fails) stages.Ended lines) counts.entropy;
      keyring = subst (λ (n : ℕ). RoseBy n began.keyring now.keyring) (sum_mapped (fails_by keyring_fails) stages.Ended lines) counts.keyring;
      shelf = subst (λ (n : ℕ). RoseBy n began.shelf now.shelf)
          (sum_zip_mapped (λ (pair : Job × Progress). fails_by (shelf_fails_of began.files pair.0) pair.1) stages.Ended file lines) counts.shelf;
    }
