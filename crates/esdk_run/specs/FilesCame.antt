-- What `extract`, `audit` and `batch` made of the files that came, once they are done. The calls of
-- the shelf tell what its reads gave, so that this is said of real files as of those in memory: a
-- file that is changed while it is read is what was read, and where two reads don't agree nothing
-- is said.
use Rattle.std.specs.Prelude.{◌≡◌, ℕ, List, ◌++◌, Some, Ok, true}
use Rattle.std.specs.List.{concat}
use Rattle.esdk_args.specs.declared.request.ExtractWords.{ExtractWords}
use Rattle.esdk_fields.specs.Counts.{Stayed}
use Rattle.std.specs.Io.KnownBytes.{Appends}
use Rattle.esdk_base.specs.Shelf.{Files}
use Rattle.esdk_base.specs.Streams.{EntropyState, ShelfState}
use Rattle.context_codec.specs.Context.{KeyValue}
use Rattle.keyring_trait.specs.Keyring.{KeyringMeaning}
use Rattle.keyring_trait.specs.Saying.{Saying}
use Rattle.keyring_trait.specs.Uses.{AskedOnce}
use Rattle.keyring_trait.specs.Wrapping.{WrapKeyValue}
use Rattle.job_file.specs.AuditFile.{AuditFile}
use Rattle.job_file.specs.Audit.{audit_of}
use Rattle.job_file.specs.declared.job.Job.{Job}
use Rattle.job_file.specs.JobFile.{JobFile}
use Rattle.job_file.specs.Jobs.{jobs_of}
use Rattle.whole_input.specs.FileReads.{Grows, IsReadAs, ReadsWholeFile}
use Rattle.audit_core.specs.Laws.{told_by}
use Rattle.audit_core.specs.MessageFiles.{HaveCome}
use Rattle.audit_core.specs.Messages.{Message}
use Rattle.batch_report.specs.declared.job_lines.JobLine.{JobLine}
use Rattle.batch_report.specs.BatchReport.{report_of}
use Rattle.esdk_batch.specs.Batch.{AllCome}
use Rattle.esdk_batch.specs.ShelfCalls.{AreFinished, announced}
use Rattle.esdk_batch.specs.Watching.{shown_files}
use Rattle.esdk_decrypt.specs.Told.{Reader}
use Rattle.esdk_run.specs.AuditTold.{ShowsOpeners}
use Rattle.esdk_run.specs.Batch.{status_of}
use Rattle.esdk_run.specs.Extract.{extract_reader}
use Rattle.esdk_run.specs.ExtractTold.{GainsRange}
use Rattle.esdk_run.specs.Objects.{Objects}
use Rattle.esdk_run.specs.Pairs.{context_in}
use Rattle.esdk_run.specs.Serving.{managing_over}
use Rattle.esdk_run.specs.Trees.{Trees}
use Rattle.esdk_run.specs.WhatCame.{TreeCame}

-- ---- `extract`

-- The keyring file was read as this tree, and behind it the calls of the shelf were only added to.
-- Of any bytes that agree with what each read of the message's file gave, this is so for who has
-- the keys of the tree, where it tells them and none of its keyrings failed (none of a steady tree
-- fails).
pub record ReadsOfWhatCame (trees : Trees) (asked : ExtractWords) (before after : Objects)
    (So : Reader → List ℕ → Type 0) : Type 0 where
  pub given : List KeyValue
  pub pairs : context_in asked.pairs ≡ Ok given
  pub tree : KeyringMeaning
  pub left : KeyringMeaning
  pub kept : trees.kept ≡ Some left
  pub steady : tree.steady ≡ true → Stayed tree.faults left.faults
  pub middle : ShelfState
  pub keyring : TreeCame trees asked.keyring before.shelf middle tree
  pub grown : Grows middle.calls after.shelf.calls
  pub so : (keys : List WrapKeyValue) (bytes : List ℕ) → tree.keys ≡ Some keys
      → Stayed tree.faults left.faults
      → IsReadAs middle.calls after.shelf.calls asked.from bytes
      → So (extract_reader asked given keys) bytes

-- The output gained the range of any bytes that agree with what the reads gave, for who has the
-- keys of the tree; and so it did, whether a keyring failed or not, for who has the keys that the
-- leaves of this tree went by in the run, each asked once, where they show them.
pub record ExtractedWhatCame (trees : Trees) (asked : ExtractWords) (before after : Objects)
    : Type 0 where
  pub reads : ReadsOfWhatCame trees asked before after
      (λ reader bytes. GainsRange reader asked bytes before after)
  pub by_use : (bytes : List ℕ) → IsReadAs reads.middle.calls after.shelf.calls asked.from bytes
      → AskedOnce reads.tree.uses reads.left.uses
      (λ keys. GainsRange (extract_reader asked reads.given keys) asked bytes before after)

-- ---- `audit`

-- From this moment on the calls of the shelf read the files of these messages, and nothing else.
-- The output gained the lines of what the bytes say that came, and the status says whether each
-- message has an opener.
pub record ShowsWhatCame (file : AuditFile) (leaves : List (List WrapKeyValue))
    (middle : ShelfState) (before after : Objects) (code : ℕ) : Type 0 where
  pub messages : List Message
  pub came : HaveCome middle.calls after.shelf.calls file.messages messages
  pub shows : ShowsOpeners leaves messages before after code

-- The calls of the shelf read the file of the audit, and then the keyring file that it names. Where
-- the leaves tell their wrapping keys and none of them failed (none of a steady tree fails), they
-- then read the files of its messages, and the lines are those of what came.
pub record AuditedWhatCame (trees : Trees) (name : List ℕ) (before after : Objects) (code : ℕ)
    : Type 0 where
  pub bytes : List ℕ
  pub file : AuditFile
  pub between : ShelfState
  pub read : ReadsWholeFile name before.shelf.calls between.calls bytes
  pub is : audit_of bytes ≡ Ok file
  pub tree : KeyringMeaning
  pub left : KeyringMeaning
  pub steady : tree.steady ≡ true → Stayed tree.faults left.faults
  pub middle : ShelfState
  pub keyring : TreeCame trees file.keyring between middle tree
  pub meanings : List KeyringMeaning
  pub leaves_are : trees.leaves keyring.file ≡ Ok meanings
  pub shown : (leaves : List (List WrapKeyValue)) → told_by meanings ≡ Some leaves
      → Stayed tree.faults left.faults → ShowsWhatCame file leaves middle before after code

-- ---- `batch`

-- Where the reads between two moments of the shelf agree with these files, each job comes to what
-- is said of it: what it reads is what they hold, what it writes is what the calls made of it, and
-- what the jobs drew, one behind another, is just what was drawn.
pub record ComeToWhatIsShown (manager : Saying) (jobs : List Job) (old new : ShelfState)
    (entropy spent : EntropyState) (held : Files) (lines : List JobLine) : Type 0 where
  pub draws : List (List ℕ)
  pub drawn : spent.drawn ≡ entropy.drawn ++ concat draws
  pub come : AllCome manager (Some held) (shown_files held old new) jobs draws lines

-- The calls of the shelf read the job file, and then the keyring file that it names; and then they
-- announced what each job reads, in the order of the jobs. From then on each call read what a job
-- reads, or made what a job writes, appended to it or finished it; and the file of each job was
-- finished once, for those who may read it, behind all that was written into it, or the shelf
-- failed while the jobs ran and the job isn't done; and each job read its file once. Of any files
-- that agree with what each of these reads gave, each job comes to what is said of it, its own file
-- being what was appended to it since it was made. The output gained the report of these lines.
pub record BatchedWhatCame (trees : Trees) (name : List ℕ) (before after : Objects) (code : ℕ)
    : Type 0 where
  pub bytes : List ℕ
  pub file : JobFile
  pub between : ShelfState
  pub read : ReadsWholeFile name before.shelf.calls between.calls bytes
  pub is : jobs_of bytes name ≡ Ok file
  pub tree : KeyringMeaning
  pub left : KeyringMeaning
  pub middle : ShelfState
  pub keyring : TreeCame trees file.keyring between middle tree
  pub lines : List JobLine
  pub jobs : (held : Files) → ComeToWhatIsShown (managing_over file.cache tree left) file.jobs
      middle after.shelf before.entropy after.entropy held lines
  pub finished : AreFinished file.jobs (announced file.jobs middle) after.shelf lines
  pub gained : Appends before.output.written after.output.written (report_of lines)
  pub status : code ≡ status_of lines
