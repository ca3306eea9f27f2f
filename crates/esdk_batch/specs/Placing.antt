-- What a job wrote is put in its place once the job ended.
use Rattle.std.specs.Prelude.{◌≡◌, ◌⊎◌, ◌≤◌, ℕ}
use Rattle.esdk_fields.specs.declared.refusals.Outside.TheVariants as outsides
use Rattle.esdk_fields.specs.Counts.{Rose}
use Rattle.esdk_base.specs.declared.shelf.Readers.{Readers}
use Rattle.esdk_base.specs.declared.shelf.Readers.TheVariants as readers
use Rattle.esdk_base.specs.Streams.{ShelfState}
use Rattle.keyring_trait.specs.declared.journal.Kind.{Kind}
use Rattle.keyring_trait.specs.declared.journal.Kind.TheVariants.{Seal, Unseal}
use Rattle.batch_report.specs.declared.job_lines.JobLine.{JobLine}
use Rattle.batch_report.specs.declared.job_lines.JobEnd.{JobEnd}
use Rattle.batch_report.specs.declared.job_lines.JobEnd.TheVariants as ends
use Rattle.esdk_batch.specs.declared.progress.Progress.{Progress}
use Rattle.esdk_batch.specs.declared.progress.Progress.TheVariants as stages

-- who may read what it wrote: anyone a message, its owner alone the content of one
abbrev pub readers_of : Kind → Readers
readers_of Seal = readers.Anyone
readers_of Unseal = readers.Owner

-- a job that was done but for its place ends with a failure of the shelf; another ends as it did
abbrev pub unplaced_end : JobEnd → JobEnd
unplaced_end ends.Done = ends.Outside outsides.ShelfFault
unplaced_end (ends.Refusal refusal) = ends.Refusal refusal
unplaced_end (ends.Fault fault) = ends.Fault fault
unplaced_end (ends.Outside outside) = ends.Outside outside

-- what is said of a job whose file couldn't be put in its place
abbrev pub unplaced_line : JobLine → JobLine
unplaced_line line = record line { end = unplaced_end line.end }

-- What is said of a job that ended stays, and where it is that the job is done, the shelf didn't
-- fail; or the shelf failed. Of a job that hasn't ended nothing is put in its place.
abbrev pub IsPlaced : Progress → Progress → (before after : ℕ) → Type 0
IsPlaced stages.Waiting placed before after = placed ≡ stages.Waiting
IsPlaced (stages.Live now) placed before after = placed ≡ stages.Live now
IsPlaced (stages.Ended line) placed before after =
    ((placed ≡ stages.Ended line) × (line.end ≡ ends.Done → after ≡ before))
    ⊎ ((placed ≡ stages.Ended (unplaced_line line)) × Rose before after)

-- What putting it in its place comes to: the files stay as they are.
pub record PutsInPlace (next placed : Progress) (before after : ShelfState) : Type 0 where
  pub files : after.files ≡ before.files
  pub later : before.faults ≤ after.faults
  pub line : IsPlaced next placed before.faults after.faults
