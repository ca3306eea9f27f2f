-- What a batch comes to: for each job, for the files, for the bytes drawn, and for the desk's
-- journal.
use Rattle.std.specs.Prelude.{◌≡◌, ◌≤◌, ◌+◌, ℕ, false, List, [], ◌∷◌, ◌++◌, length, map, zip}
use Rattle.std.specs.Prelude.{filter_map, All, Option, Some, None, option_map}
use Rattle.std.specs.List.{concat}
use Rattle.std.specs.List.Sorted.{IsPermutation}
use Rattle.std.specs.Io.KnownBytes.{Consumes}
use Rattle.esdk_fields.specs.Counts.{Stayed}
use Rattle.esdk_base.specs.Shelf.{Files, file_of}
use Rattle.esdk_base.specs.Streams.{EntropyState}
use Rattle.keyring_trait.specs.declared.journal.JournalLine.{JournalLine}
use Rattle.keyring_trait.specs.declared.journal.Kind.{Kind}
use Rattle.keyring_trait.specs.declared.journal.Kind.TheVariants.{Seal, Unseal}
use Rattle.keyring_trait.specs.declared.served.Served.{Served}
use Rattle.keyring_trait.specs.Saying.{Saying}
use Rattle.job_file.specs.declared.job.Job.{Job}
use Rattle.job_file.specs.declared.job.Work.{Work}
use Rattle.job_file.specs.declared.job.Work.TheVariants.{Encrypt, Decrypt}
use Rattle.job_file.specs.JobFile.{JobFile, is_written}
use Rattle.batch_report.specs.declared.job_lines.JobLine.{JobLine}
use Rattle.batch_report.specs.declared.job_lines.JobEnd.{JobEnd}
use Rattle.esdk_batch.specs.SealStory.{Seen, SealsSo}
use Rattle.esdk_batch.specs.OpenStory.{OpensSo}

-- ---- one job

abbrev pub kind_of : Work → Kind
kind_of (Encrypt length frame context required) = Seal
kind_of (Decrypt given required) = Unseal

-- the length that is declared of what it seals
abbrev pub length_of : Work → Option ℕ
length_of (Encrypt length frame context required) = length
length_of (Decrypt given required) = None

-- what the files hold that it reads and writes, the bytes that it drew, and how its materials were
-- served
abbrev pub seen_of : Job → Files → Files → List ℕ → JobLine → Seen
seen_of job before after drawn line = record {
  from = file_of (Some before) job.from;
  before = file_of (Some before) job.to;
  to = file_of (Some after) job.to;
  drawn = drawn;
  served = line.served;
}

abbrev pub WorksSo : Saying → Work → Seen → JobEnd → Type 0
WorksSo manager (Encrypt length frame context required) seen end =
    SealsSo manager (record {
      declared = length;
      frame = frame;
      context = context;
      required = required;
    }) seen end
WorksSo manager (Decrypt given required) seen end =
    (seen.drawn ≡ []) × OpensSo manager given seen end

-- What a job comes to that drew these bytes and of which this is said, where the files are known
-- before the batch and behind it: as the shelf tells them, or as its calls show them. A file that a
-- job reads is as it was before the batch.
pub record ComesTo (manager : Saying) (job : Job) (before after : Option Files) (drawn : List ℕ)
    (line : JobLine) : Type 0 where
  pub kind : line.kind ≡ kind_of job.work
  pub works : (files left : Files) → before ≡ Some files → after ≡ Some left
      → WorksSo manager job.work (seen_of job files left drawn line) line.end

-- each of the jobs
abbrev pub AllCome : Saying → Option Files → Option Files → List Job → List (List ℕ) → List JobLine
    → Type 0
AllCome manager before after [] [] [] = Unit {0}
AllCome manager before after (job ∷ jobs) (drawn ∷ draws) (line ∷ lines) =
    ComesTo manager job before after drawn line × AllCome manager before after jobs draws lines
AllCome manager before after jobs draws lines = ⊥

-- ---- the files

-- no name changed but those that jobs write
abbrev pub OnlyWritten : List Job → Option Files → Option Files → Type 0
OnlyWritten jobs before after = (name : List ℕ) → is_written jobs name ≡ false
    → file_of after name ≡ file_of before name

-- ---- the journal

-- What is known of an answer of the manager: what it was for, how it was served, and the declared
-- length.
pub record ManagerAnswer : Type 0 where
  pub kind : Kind
  pub served : Served
  pub length : Option ℕ

abbrev pub in_line : JournalLine → ManagerAnswer
in_line line = record { kind = line.kind; served = line.served; length = line.length }

abbrev pub in_report : Job × JobLine → Option ManagerAnswer
in_report pair = option_map (λ served. record {
  kind = pair.1.kind;
  served = served;
  length = length_of pair.0.work;
}) pair.1.served

-- the report's lines that say how materials were served are those that the journal gained, each
-- once
abbrev pub SaysWhatWasServed : List Job → List JobLine → List JournalLine → Type 0
SaysWhatWasServed jobs lines gained =
    IsPermutation (filter_map in_report (zip jobs lines)) (map in_line gained)

-- Of the sessions whose numbers follow `last`, so many: what was sealed stands before what was
-- opened. So these sessions were open at once.
pub record SealsFirst (width last : ℕ) (gained : List JournalLine) : Type 0 where
  pub first : List JournalLine
  pub later : List JournalLine
  pub parts : gained ≡ first ++ later
  pub sealed : All (λ line. line.kind ≡ Seal) first
  pub opened : All (λ line. line.session ≤ last + width → line.kind ≡ Unseal) later

-- ---- the bytes drawn

-- These bytes were drawn: they were the first of those to come, where the entropy told these; and
-- they stand behind those that were drawn before, which every entropy tells.
pub record Draws (entropy spent : EntropyState) (bytes : List ℕ) : Type 0 where
  pub told : Consumes entropy.to_come spent.to_come bytes
  pub came : spent.drawn ≡ entropy.drawn ++ bytes

-- ---- the batch

-- The jobs had their turns, and this is said of them, of files that are known so before the batch
-- and behind it, if they are. The encrypt jobs drew these bytes, in their order, of which those
-- without a line of X4 are all that was taken; the journal gained these lines.
pub record RunsBatch (manager : Saying) (file : JobFile) (last : ℕ) (before after : Option Files)
    (entropy spent : EntropyState) (lines_before lines_after : List JournalLine)
    (lines : List JobLine) : Type 0 where
  pub draws : List (List ℕ)
  pub gained : List JournalLine
  pub journal : lines_after ≡ lines_before ++ gained
  pub jobs : AllCome manager before after file.jobs draws lines
  pub others : (left : Files) → after ≡ Some left → OnlyWritten file.jobs before after
  pub drawn : Draws entropy spent (concat draws)
  pub served : SaysWhatWasServed file.jobs lines gained
  pub turns : Stayed entropy.faults spent.faults → SealsFirst file.width last gained
