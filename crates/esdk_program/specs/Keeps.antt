-- What a run keeps, beside what it does (`Does` of Program.antt): what it leaves alone; what is
-- promised where that says nothing, of a tree that tells no keys and where a keyring failed; and of
-- `batch`, which isn't a function of a world, since it writes files.
use Rattle.std.specs.Prelude.{◌≡◌, ◌⊎◌, ℕ, ◌+◌, ◌≤◌, ◌^◌, List, ◌++◌, Bool, true, false, ⊤, Some}
use Rattle.std.specs.Prelude.{None, Ok, Err, IfSome}
use Rattle.std.specs.List.{All}
use Rattle.esdk_args.specs.declared.request.Request.TheVariants as requests
use Rattle.esdk_fields.specs.Counts.{Stayed}
use Rattle.esdk_seen.specs.Calls.{ShelfCall, announces, appends, creates, finishes, reads}
use Rattle.esdk_base.specs.Shelf.{Holds}
use Rattle.context_codec.specs.Context.{KeyValue}
use Rattle.header_codec.specs.Header.{no_limits}
use Rattle.keyring_trait.specs.Keyring.{KeyringMeaning}
use Rattle.job_file.specs.JobFile.{JobFile}
use Rattle.whole_input.specs.File.{most_file}
use Rattle.whole_input.specs.Pieces.{most_piece}
use Rattle.esdk_encrypt.specs.Laws.{FitsMessage}
use Rattle.extract_core.specs.Extract.{most_read}
use Rattle.esdk_run.specs.Ages.{ShowsAges}
use Rattle.esdk_run.specs.Batch.{ChangesOnlyWritten}
use Rattle.esdk_run.specs.EachJob.{DoesJobs, NothingOfBatchFails, ShowsJudgements}
use Rattle.esdk_run.specs.Encrypt.{refusal_asked}
use Rattle.esdk_run.specs.Extract.{range_asked}
use Rattle.esdk_run.specs.FilesCame.{BatchedWhatCame, ExtractedWhatCame}
use Rattle.esdk_run.specs.Objects.{Unchanged}
use Rattle.esdk_run.specs.Pairs.{context_in}
use Rattle.esdk_run.specs.Promises.{On, Ticks, Words}
use Rattle.esdk_run.specs.Run.{draws, is_batch, reads_input, reads_shelf}
use Rattle.esdk_run.specs.Served.{HoldsJobs, ShowsLimits}
use Rattle.esdk_run.specs.Told.{IsDoneOrMemory, StreamsDontFail, TreeWasReadAnd, WasRun}
use Rattle.esdk_run.specs.WhatCame.{OpenedWhatCame, SealedWhatCame}
use Rattle.esdk_program.specs.World.{Run}

-- the command takes a keyring tree
abbrev pub takes_tree : Words → Bool
takes_tree (Ok (requests.List asked)) = false
takes_tree (Ok (requests.Migrate asked)) = false
takes_tree (Ok (requests.Gen seed size)) = false
takes_tree (Ok request) = true
takes_tree (Err fault) = false

-- It is said of the command that it only reads files, if it touches any. (`extract` does no more,
-- but no clause of `run` says which calls it makes.)
abbrev pub only_reads : Words → Bool
only_reads (Ok (requests.Batch name)) = false
only_reads (Ok (requests.Extract asked)) = false
only_reads (Ok request) = true
only_reads (Err fault) = true

-- the call is a read
abbrev pub IsRead : ShelfCall → Type 0
IsRead (reads name at piece) = ⊤
IsRead (creates name) = ⊥
IsRead (appends name piece) = ⊥
IsRead (announces name) = ⊥
IsRead (finishes name whom) = ⊥

-- The calls between two moments of a shelf were reads, all of them.
abbrev pub OnlyReads : List ShelfCall → List ShelfCall → Type 0
OnlyReads old new = (made : List ShelfCall) × (new ≡ old ++ made) × All IsRead made

-- What is so of each run. `unchanged` says of an object that it is as before, itself and not only
-- what it tells; `time` is the clock.
pub record Keeps (r : Run) (unchanged : Unchanged) (time : Ticks) : Type 0 where
  -- Only `batch` changes files that the shelf tells.
  pub files : is_batch r.words ≡ false → r.after.shelf.files ≡ r.before.shelf.files
  -- All others but `extract` only read from the shelf, whether it tells its files or not.
  pub calls : only_reads r.words ≡ true → OnlyReads r.before.shelf.calls r.after.shelf.calls
  -- `list` and `gen` leave the shelf alone, and so do words that are refused.
  pub shelf : reads_shelf r.words ≡ false → unchanged.shelf
  -- Only `list`, `encrypt`, `decrypt` and `reseal` read the input.
  pub input : reads_input r.words ≡ false → unchanged.input
  -- At most 2^62 bytes of it are taken.
  pub taken : r.after.input.given ≤ r.before.input.given + 2 ^ 62
  -- Only `encrypt`, `batch` and `reseal` draw from the entropy.
  pub entropy : draws r.words ≡ false → unchanged.entropy
  -- Only `batch` reads the clock.
  pub clock : is_batch r.words ≡ false → time.same
  -- `list`, `migrate`, `gen` and refused words have no keyring that could fail.
  pub no_tree : takes_tree r.words ≡ false → r.trees.kept ≡ None
  -- `extract`: of a file that the shelf tells no more is read than the header, up to a piece behind
  -- it, and the slots that the range names, beside the keyring file; however it ends.
  pub extract_reads : On requests.Extract r.words
      (λ asked. (bytes : List ℕ) → Holds r.before.shelf.files asked.from bytes
      → r.after.shelf.given ≤ r.before.shelf.given + most_file + most_piece
      + most_read no_limits (range_asked asked) bytes)
  -- ---- where a tree tells no keys, or a keyring failed

  -- `encrypt`, once it is done: over this shelf nothing was read but the keyring file; the whole
  -- input was, and the output gained the message of that, under the keys that the tree tells, or
  -- else under those that its leaves went by, where they show these.
  pub sealed : On requests.Encrypt r.words
      (λ asked. r.code ≡ 0 → SealedWhatCame r.trees asked r.before r.after)
  -- `decrypt`, once it is done: over this shelf nothing was read but the keyring file; the whole
  -- input was, which is a whole message to who has the keys that the tree's leaves went by, where
  -- they show these, whether one failed or not; and the output gained its content.
  pub opened : On requests.Decrypt r.words
      (λ asked. r.code ≡ 0 → OpenedWhatCame r.trees asked r.before r.after)
  -- `extract`, once it is done: the output gained the range of any bytes that agree with what the
  -- reads of the message's file gave, to who has the keys that the tree's leaves went by, likewise.
  pub extracted : On requests.Extract r.words
      (λ asked. r.code ≡ 0 → ExtractedWhatCame r.trees asked r.before r.after)
  -- `encrypt`: an input that fits into a message is done, unless memory runs out or an object
  -- fails: where the words give a context, a tree is given back, the request isn't refused, and the
  -- limit on entries allows as many as the tree makes. The tree needn't tell its keys.
  pub fits : On requests.Encrypt r.words
      (λ asked. (context : List KeyValue) (left : KeyringMeaning) (text : List ℕ)
      → context_in asked.pairs ≡ Ok context → r.trees.kept ≡ Some left
      → refusal_asked asked context left ≡ None → IfSome asked.max_keys (λ most. left.wraps ≤ most)
      → FitsMessage asked.frame r.before.input text → StreamsDontFail r.before r.after
      → Stayed r.before.entropy.faults r.after.entropy.faults
      → TreeWasReadAnd r.trees asked.keyring r.before.shelf r.after.shelf (IsDoneOrMemory r.code))
  -- ---- `batch`

  -- Over any objects, once it is reported, of any files that agree with what the reads gave each
  -- job comes to what is said of it. Behind the job file and the keyring file the shelf was told
  -- what each job reads, and then called for the files of the jobs alone; the file of each job was
  -- finished once, for those who may read it, behind all that was written into it, or the shelf
  -- failed and the job isn't done.
  pub batched : On requests.Batch r.words
      (λ name. WasRun r.code → BatchedWhatCame r.trees name r.before r.after r.code)
  -- However it ends, no file that the shelf tells changed but those that jobs write.
  pub others : On requests.Batch r.words
      (λ name. (r.after.shelf.files ≡ r.before.shelf.files)
      ⊎ ChangesOnlyWritten name r.before.shelf r.after.shelf)
  -- Jobs that the shelf tells are run and reported, unless memory runs out, the shelf fails or the
  -- output does.
  pub batch : On requests.Batch r.words
      (λ name. (file : JobFile) (tree : KeyringMeaning)
      → HoldsJobs r.trees r.before.shelf.files name file tree
      → Stayed r.before.shelf.faults r.after.shelf.faults
      → Stayed r.before.output.faults r.after.output.faults → IsDoneOrMemory r.code ⊎ (r.code ≡ 7))
  -- Of jobs that the shelf tells each that must be is done, unless memory runs out or an object
  -- fails.
  pub jobs : On requests.Batch r.words
      (λ name. (file : JobFile) (tree : KeyringMeaning)
      → HoldsJobs r.trees r.before.shelf.files name file tree
      → NothingOfBatchFails r.trees tree r.before r.after
      → (r.code ≡ 5) ⊎ DoesJobs file.cache tree r.before.shelf.files file.jobs r.before.output
      r.after.output)
  -- Of each decrypt job is said what the keys of the tree read of its file.
  pub judgements : On requests.Batch r.words
      (λ name. WasRun r.code → ShowsJudgements r.trees name r.before r.after)
  -- The report keeps to the limits of the job file's cache.
  pub limits : On requests.Batch r.words
      (λ name. WasRun r.code → ShowsLimits name r.before r.after)
  -- An entry of the cache is as old as the clock says. The moments of the journal's lines are, in
  -- order, among those that the clock gave.
  pub ages : On requests.Batch r.words
      (λ name. WasRun r.code → ShowsAges name r.before.shelf r.after.shelf r.before.output
      r.after.output time.before time.after)
