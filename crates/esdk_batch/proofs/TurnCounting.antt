-- What a turn of a job counts, by how it came to its end or goes on.
use Rattle.std.proofs.Common.{◌≡◌, ◌≤◌, ◌∙◌, ℕ, Bool, true, false, List, sym, ap, subst, inl, inr, arith}
use Rattle.std.specs.Prelude.{Option, Some, None, if◌then◌else◌}
use Rattle.esdk_fields.specs.declared.refusals.Outside.{Outside}
use Rattle.esdk_fields.specs.declared.refusals.Outside.TheVariants as outsides
use Rattle.esdk_fields.specs.Counts.{RoseBy}
use Rattle.esdk_base.specs.Shelf.{Files, is_missing}
use Rattle.esdk_base.specs.Streams.{FailsToRead, ShelfState}
use Rattle.keyring_trait.specs.declared.journal.Kind.{Kind}
use Rattle.keyring_trait.specs.declared.served.Served.{Served}
use Rattle.job_file.specs.declared.job.Job.{Job}
use Rattle.batch_report.specs.declared.job_lines.JobLine.{JobLine}
use Rattle.batch_report.specs.declared.job_lines.JobEnd.{JobEnd}
use Rattle.batch_report.specs.declared.job_lines.JobEnd.TheVariants as ends
use Rattle.esdk_batch.specs.declared.progress.Live.{Live}
use Rattle.esdk_batch.specs.declared.progress.Progress.{Progress}
use Rattle.esdk_batch.specs.declared.progress.Progress.TheVariants as stages
use Rattle.esdk_batch.specs.Failures.{PieceCounts, Tally, TurnCounts, entropy_fails, fails_by, keyring_fails, shelf_fails, shelf_fails_of, tally_of}
use Rattle.esdk_batch.specs.Files.{ReadsNone}
use Rattle.esdk_batch.proofs.Counting.{rose_from, rose_none, rose_zero}

-- ---- the ends

told_of : (missing : Bool) (n before now : ℕ) → RoseBy n before now → RoseBy (if missing then 0 else n) before now
told_of true n before now rose = omega (arith, rose)
told_of false n before now rose = rose

module _ (job : Job) (next : Progress) (before now : Tally) where
  pub ended_counts : (line : JobLine) → next ≡ stages.Ended line → RoseBy (entropy_fails line.end) before.entropy now.entropy → RoseBy (keyring_fails line.end) before.keyring now.keyring
      → RoseBy (shelf_fails line.end) before.shelf now.shelf → TurnCounts job next before now
  ended_counts line is drew asked wrote =
      let counts : TurnCounts job (stages.Ended line) before now = record {
        has = tt;
        entropy = drew;
        keyring = asked;
        shelf = told_of (is_missing before.files job.from) (shelf_fails line.end) before.shelf now.shelf wrote;
      } in
      subst (λ (p : Progress). TurnCounts job p before now) (sym is) counts

  pub live_counts : (live : Live) → next ≡ stages.Live live → is_missing now.files job.to ≡ false → before.entropy ≤ now.entropy → before.keyring ≤ now.keyring → before.shelf ≤ now.shelf
      → TurnCounts job next before now
  live_counts live is there drew asked wrote =
      let counts : TurnCounts job (stages.Live live) before now = record {
        has = there;
        entropy = rose_none before.entropy now.entropy drew;
        keyring = rose_none before.keyring now.keyring asked;
        shelf = rose_none before.shelf now.shelf wrote;
      } in
      subst (λ (p : Progress). TurnCounts job p before now) (sym is) counts

-- the same where the entropy and the manager had failed less often before
pub counts_from : (job : Job) (next : Progress) (first before now : Tally) → first.files ≡ before.files → first.entropy ≤ before.entropy → first.keyring ≤ before.keyring → first.shelf ≡ before.shelf
    → TurnCounts job next before now → TurnCounts job next first now
counts_from job next first before now same less fewer still counts = record {
  has = counts.has;
  entropy = rose_from _ first.entropy before.entropy now.entropy less counts.entropy;
  keyring = rose_from _ first.keyring before.keyring now.keyring fewer counts.keyring;
  shelf = subst (λ (f : Option Files). RoseBy (fails_by (shelf_fails_of f job) next) first.shelf now.shelf) (sym same)
      (subst (λ (n : ℕ). RoseBy (fails_by (shelf_fails_of before.files job) next) n now.shelf) (sym still) counts.shelf);
}

-- ---- a file that isn't read

missing_part : (files : Option Files) (job : Job) (before now : ℕ) → is_missing files job.from ≡ true → now ≡ before → RoseBy (if is_missing files job.from then 0 else 1) before now
missing_part files job before now missing same = subst (λ (b : Bool). RoseBy (if b then 0 else 1) before now) (sym missing) (omega (arith, same))

read_part : (job : Job) (before now : ShelfState) → FailsToRead before now job.from → RoseBy (if is_missing before.files job.from then 0 else 1) before.faults now.faults
read_part job before now fails = elim fails [
  | inl rose ↦ told_of (is_missing before.files job.from) 1 before.faults now.faults rose
  | inr missing ↦ missing_part before.files job before.faults now.faults missing.0 missing.1
]

unread_so : (job : Job) (kind : Kind) (served : Option Served) (before now : ShelfState) (entropy keyring : ℕ) (at : ℕ) (outside : Outside) → ReadsNone before now job.from at outside
    → TurnCounts job (stages.Ended (record { kind = kind; end = ends.Outside outside; served = served })) (tally_of before entropy keyring) (tally_of now entropy keyring)
unread_so job kind served before now entropy keyring at outsides.ShelfFault none =
    record { has = tt; entropy = rose_none entropy entropy (omega arith); keyring = rose_none keyring keyring (omega arith); shelf = read_part job before now none }
unread_so job kind served before now entropy keyring at outsides.InputTooLong none = record {
  has = tt;
  entropy = rose_none entropy entropy (omega arith);
  keyring = rose_none keyring keyring (omega arith);
  shelf = told_of (is_missing before.files job.from) 0 before.faults now.faults (rose_none before.faults now.faults (omega (arith, ap (λ (s : ShelfState). s.faults) none.1)));
}
unread_so job kind served before now entropy keyring at outside none = absurd none

pub unread_counts : (job : Job) (next : Progress) (kind : Kind) (served : Option Served) (name : List ℕ) (before now : ShelfState) (entropy keyring failed : ℕ) (at : ℕ) (outside : Outside)
    → next ≡ stages.Ended (record { kind = kind; end = ends.Outside outside; served = served }) → name ≡ job.from → failed ≡ keyring → ReadsNone before now name at outside
    → TurnCounts job next (tally_of before entropy keyring) (tally_of now entropy failed)
unread_counts job next kind served name before now entropy keyring failed at outside is named same none =
    subst (λ (f : ℕ). TurnCounts job next (tally_of before entropy keyring) (tally_of now entropy f)) (sym same)
    (subst (λ (p : Progress). TurnCounts job p (tally_of before entropy keyring) (tally_of now entropy keyring)) (sym is)
    (unread_so job kind served before now entropy keyring at outside (subst (λ (n : List ℕ). ReadsNone before now n at outside) named none)))

-- ---- a piece that was read

-- the file that is written is there still
pub there_mid : (files mid : Option Files) (to name : List ℕ) → mid ≡ files → name ≡ to → is_missing files to ≡ false → is_missing mid name ≡ false
there_mid files mid to name stays named there = ap (λ (f : Option Files). is_missing f name) stays ∙ ap (λ (n : List ℕ). is_missing files n) named ∙ there

pub piece_as : (to : List ℕ) (end known : Option JobEnd) (before now : ShelfState) (keyring failed : ℕ) → end ≡ known → PieceCounts to end before now keyring failed → PieceCounts to known before now keyring failed
piece_as to end known before now keyring failed is counts = subst (λ (e : Option JobEnd). PieceCounts to e before now keyring failed) is counts

module _ (job : Job) (next : Progress) (to : List ℕ) (before mid now : ShelfState) (entropy keyring failed : ℕ) (same : mid.faults ≡ before.faults) where
  pub piece_ended : (line : JobLine) → next ≡ stages.Ended line → PieceCounts to (Some line.end) mid now keyring failed → TurnCounts job next (tally_of before entropy keyring) (tally_of now entropy failed)
  piece_ended line is counts =
      ended_counts job next (tally_of before entropy keyring) (tally_of now entropy failed) line is (rose_zero (entropy_fails line.end) entropy entropy counts.entropy (omega arith)) counts.keyring
      (subst (λ (f : ℕ). RoseBy (shelf_fails line.end) f now.faults) same counts.shelf)

  pub piece_goes : (live : Live) → next ≡ stages.Live live → to ≡ job.to → PieceCounts to None mid now keyring failed → TurnCounts job next (tally_of before entropy keyring) (tally_of now entropy failed)
  piece_goes live is named counts =
      let wrote : RoseBy 0 before.faults now.faults = subst (λ (f : ℕ). RoseBy 0 f now.faults) same counts.shelf in
      let all : TurnCounts job (stages.Live live) (tally_of before entropy keyring) (tally_of now entropy failed) = record {
        has = subst (λ (n : List ℕ). is_missing now.files n ≡ false) named counts.there;
        entropy = rose_none entropy entropy (omega arith);
        keyring = counts.keyring;
        shelf = wrote;
      } in
      subst (λ (p : Progress). TurnCounts job p (tally_of before entropy keyring) (tally_of now entropy failed)) (sym is) all
