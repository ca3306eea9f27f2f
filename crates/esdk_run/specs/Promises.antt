-- What a run of the program promises, command by command. The whole course of a run, with each
-- failure and what it leaves, is `RunsAs` of Run.antt; what stands here of one command, but for
-- `judged` and `ages`, follows from that and says it in a user's words. The line over a field
-- leaves out on what it depends, which the definition says that the field names: what the objects
-- tell, that a tree is given back and tells its keys, that none of its keyrings failed, the status.
use Rattle.std.specs.Prelude.{◌≡◌, ℕ, ◌+◌, ◌≤◌, ◌^◌, false, Result, Ok, ◌⊎◌, List, Some, None}
use Rattle.std.specs.Prelude.{IfSome, ◌≢◌, length, ◌<◌}
use Rattle.audit_core.specs.Messages.{Message}
use Rattle.extract_core.specs.Extract.{most_read}
use Rattle.header_codec.specs.Header.{no_limits}
use Rattle.body_format.specs.declared.verdicts.Verdict.TheVariants.{Whole}
use Rattle.job_file.specs.JobFile.{JobFile}
use Rattle.whole_input.specs.File.{most_file}
use Rattle.whole_input.specs.Pieces.{most_piece}
use Rattle.serde_json.specs.Data.{Data}
use Rattle.esdk_decrypt.specs.Laws.{Written, IsWrittenFor, written_message}
use Rattle.esdk_decrypt.specs.Told.{judged_by}
use Rattle.esdk_fields.specs.Counts.{Stayed}
use Rattle.esdk_fields.specs.Bytes.{AreBytes}
use Rattle.context_codec.specs.Context.{KeyValue}
use Rattle.keyring_trait.specs.Keyring.{KeyringMeaning}
use Rattle.keyring_trait.specs.Wrapping.{WrapKeyValue}
use Rattle.esdk_encrypt.specs.Laws.{GainsMessage, FitsMessage}
use Rattle.esdk_args.specs.declared.request.Request.{Request}
use Rattle.esdk_args.specs.declared.request.Request.TheVariants as requests
use Rattle.esdk_args.specs.declared.request.WordsFault.{WordsFault}
use Rattle.esdk_base.specs.Streams.{ClockState, OnTold}
use Rattle.esdk_base.specs.Shelf.{Holds}
use Rattle.esdk_list.specs.List.{listing_fault}
use Rattle.esdk_run.specs.FilesCame.{ReadsOfWhatCame, ExtractedWhatCame, AuditedWhatCame}
use Rattle.esdk_run.specs.FilesCame.{BatchedWhatCame}
use Rattle.esdk_run.specs.ExtractTold.{GainsRange, NamesExtractFault, ReadsMessageFile}
use Rattle.esdk_run.specs.ExtractTold.{ShelfAndOutputsDontFail, extracted_by, WritesOfContent}
use Rattle.esdk_run.specs.AuditTold.{ShowsOpeners, HoldsAudit, HasShortFiles}
use Rattle.esdk_run.specs.EachJob.{ShowsJudgements, NothingOfBatchFails, DoesJobs}
use Rattle.esdk_run.specs.Objects.{Objects, Unchanged, same_streams}
use Rattle.esdk_run.specs.ResealTold.{NamesResealFault, OfItsKeys, ShowsResealed, ReadsBoth}
use Rattle.esdk_run.specs.ResealTold.{reseal_reader, reseal_writer, ShelfAndEntropyDontFail}
use Rattle.esdk_run.specs.ResealTold.{CanBeResealed, ShowsRotated}
use Rattle.esdk_run.specs.Run.{AgreesWith, draws, reads_input, reads_shelf, is_batch}
use Rattle.esdk_run.specs.Served.{Generates, ShowsLimits, HoldsJobs}
use Rattle.esdk_run.specs.Told.{ComesBack, ComesBackBefore}
use Rattle.esdk_run.specs.Told.{WasRun, StreamsDontFail, TreeWasReadAnd, IsDoneOrMemory}
use Rattle.esdk_run.specs.Told.{HasPairsAndKeys, NamesFault, ShowsWhole, GivesBack}
use Rattle.esdk_run.specs.Told.{TreeWasReadFirstAnd, TreeIsLeftAnd}
use Rattle.esdk_run.specs.Trees.{Trees}
use Rattle.esdk_run.specs.Unarmoured.{outlook_of}
use Rattle.esdk_run.specs.WhatCame.{SealedWhatCame, OpenedWhatCame}
use Rattle.esdk_run.specs.Batch.{ChangesOnlyWritten}
use Rattle.esdk_run.specs.Ages.{ShowsAges}
use Rattle.esdk_run.specs.ArmouredMessage.{output_form}
use Rattle.esdk_run.specs.Pairs.{context_in}
use Rattle.esdk_run.specs.Encrypt.{run_writer, refusal_asked}
use Rattle.esdk_run.specs.EarlyEnd.{LeavesMessageFront}
use Rattle.esdk_run.specs.Read.{SaysWhatIsReadAs}
use Rattle.esdk_run.specs.Decrypt.{reader_of}
use Rattle.esdk_run.specs.UnarmouredTold.{IsWholeAs, TellsAs}
use Rattle.esdk_run.specs.Migrate.{value_asked}
use Rattle.esdk_run.specs.Extract.{extract_reader, range_asked}

-- what the words ask for, or why they are refused
abbrev pub Words : Type 0
Words = Result Request WordsFault

-- Where the words ask for this command, this is so of what they ask.
abbrev pub On : {A : Type 0} → (A → Request) → Words → (A → Type 0) → Type 0
On {A} command words So = (asked : A) → words ≡ Ok (command asked) → So asked

-- The clock of a run: what it tells before and after, and what says that it is as before.
pub record Ticks : Type 1 where
  pub before : ClockState
  pub after : ClockState
  pub same : Type 0

-- of these
abbrev pub ticks : ClockState → ClockState → Type 0 → Ticks
ticks before after same = record { before = before; after = after; same = same }

-- What a run with these words promises, which began with these objects, left those, and ended with
-- this status: first of every command, then command by command.
pub record Promises (trees : Trees) (words : Words) (before after : Objects)
    (unchanged : Unchanged) (time : Ticks) (code : ℕ) : Type 0 where
  -- Only `batch` changes files that the shelf tells.
  pub files : is_batch words ≡ false → after.shelf.files ≡ before.shelf.files
  -- `list` and `gen` leave the shelf alone, and so do words that are refused.
  pub shelf : reads_shelf words ≡ false → unchanged.shelf
  -- Only `list`, `encrypt`, `decrypt` and `reseal` read the input.
  pub input : reads_input words ≡ false → unchanged.input
  -- Only `encrypt`, `batch` and `reseal` draw from the entropy.
  pub entropy : draws words ≡ false → unchanged.entropy
  -- Only `batch` reads the clock.
  pub clock : is_batch words ≡ false → time.same
  -- At most 2^62 bytes of the input are taken.
  pub taken : after.input.given ≤ before.input.given + 2 ^ 62
  -- `list`: no input that begins with a header and its tag is refused for a fault, and no other is
  -- done. Of an armoured input that is said of the bytes that its text gives.
  pub judged : On requests.List words (λ asked. OnTold before.input.left
      (λ bytes. AgreesWith code
      (listing_fault asked.uncommitted (outlook_of asked.armour bytes).bytes)))
  -- `encrypt`: a tree is given back only where the keyring file was read as one; and where a shelf
  -- tells that it holds one, and doesn't fail, that is given back, unless the words' pairs are
  -- refused or memory runs out.
  pub encrypt_tree : On requests.Encrypt words
      (λ asked. ComesBack trees asked.pairs asked.keyring before.shelf after.shelf code)
  -- `encrypt`: over any objects, once it is done the output gained the message of the bytes that
  -- came from the input to its end, under the keys of the tree that came from the shelf, and under
  -- those that its leaves went by, with the bytes that were drawn.
  pub sealed : On requests.Encrypt words
      (λ asked. code ≡ 0 → SealedWhatCame trees asked before after)
  -- `encrypt`: once it is done, an output that tells its bytes gained the message of the input's
  -- bytes, over the context of the words, under the keys that the tree tells; with `--armour`, its
  -- armour text.
  pub message : On requests.Encrypt words
      (λ asked. (context : List KeyValue) (left : KeyringMeaning) (keys : List WrapKeyValue)
      (text written : List ℕ) → context_in asked.pairs ≡ Ok context → trees.kept ≡ Some left
      → left.keys ≡ Some keys → before.input.left ≡ Some text → before.output.written ≡ Some written
      → code ≡ 0 → GainsMessage (output_form asked.armour) (run_writer asked context keys) text
      written before.entropy after.output)
  -- `encrypt`: an input that fits into a message is done, unless memory runs out or an object
  -- fails: where the words give a context, a tree is given back, the request isn't refused, and the
  -- limit on entries allows as many as the tree makes. The tree needn't tell its keys.
  pub fits : On requests.Encrypt words
      (λ asked. (context : List KeyValue) (left : KeyringMeaning) (text : List ℕ)
      → context_in asked.pairs ≡ Ok context → trees.kept ≡ Some left
      → refusal_asked asked context left ≡ None → IfSome asked.max_keys (λ most. left.wraps ≤ most)
      → FitsMessage asked.frame before.input text → StreamsDontFail before after
      → Stayed before.entropy.faults after.entropy.faults
      → TreeWasReadAnd trees asked.keyring before.shelf after.shelf (IsDoneOrMemory code))
  -- `encrypt`: where it isn't done over a tree that tells its keys, it left the input and the
  -- output as they were, or a front of the message of the bytes taken, in the same form. (A frame
  -- has at least a byte, whatever the words.)
  pub front : On requests.Encrypt words
      (λ asked. (context : List KeyValue) (left : KeyringMeaning) (keys : List WrapKeyValue)
      → context_in asked.pairs ≡ Ok context → trees.kept ≡ Some left → left.keys ≡ Some keys
      → 1 ≤ asked.frame → code ≢ 0 → same_streams unchanged
      ⊎ LeavesMessageFront asked (run_writer asked context keys) before after)
  -- `decrypt`: the same is so of its tree.
  pub decrypt_tree : On requests.Decrypt words
      (λ asked. ComesBack trees asked.pairs asked.keyring before.shelf after.shelf code)
  -- `decrypt`: over any objects, once it is done the bytes that came from the input to its end, or
  -- those that they give as armour text, are a whole message to the keys of the tree that came from
  -- the shelf, and to those that its leaves went by, and the output gained its content.
  pub opened : On requests.Decrypt words
      (λ asked. code ≡ 0 → OpenedWhatCame trees asked before after)
  -- `decrypt`: what the keys of the tree read of the bytes taken is said, whatever the input and
  -- the output tell.
  pub reads : On requests.Decrypt words
      (λ asked. (given : List KeyValue) (keys : List WrapKeyValue)
      → HasPairsAndKeys trees asked given keys
      → TreeWasReadAnd trees asked.keyring before.shelf after.shelf
      (SaysWhatIsReadAs asked.armour (reader_of asked given keys) before after code))
  -- `decrypt`: the judgement of all bytes of the input is said, however few of them were taken: a
  -- verdict that is a fault stays when bytes follow.
  pub judgement : On requests.Decrypt words
      (λ asked. (given : List KeyValue) (keys : List WrapKeyValue) (bytes : List ℕ)
      → HasPairsAndKeys trees asked given keys → before.input.left ≡ Some bytes
      → TreeWasReadAnd trees asked.keyring before.shelf after.shelf
      ((code ≡ 0 → ShowsWhole asked given keys (outlook_of asked.armour bytes) before after code)
      × (code ≡ 1 → NamesFault asked given keys (outlook_of asked.armour bytes) before after)))
  -- `decrypt`: an input that is a whole message, or a whole text of one, is done, unless memory
  -- runs out or an object fails.
  pub whole : On requests.Decrypt words
      (λ asked. (given : List KeyValue) (keys : List WrapKeyValue) (bytes : List ℕ)
      → HasPairsAndKeys trees asked given keys
      → IsWholeAs asked.armour (reader_of asked given keys) before.input bytes
      → StreamsDontFail before after
      → TreeWasReadAnd trees asked.keyring before.shelf after.shelf (IsDoneOrMemory code))
  -- `decrypt`: a message that was written for one of the keys and for the pairs, or the armour text
  -- of one, comes back: its text and its whole context, unless memory runs out or an object fails.
  pub round_trip : On requests.Decrypt words
      (λ asked. (given : List KeyValue) (keys writers : List WrapKeyValue) (m : Written)
      → HasPairsAndKeys trees asked given keys → IsWrittenFor (reader_of asked given keys) writers m
      → TellsAs asked.armour before.input (written_message m)
      → TreeWasReadAnd trees asked.keyring before.shelf after.shelf
      ((code ≡ 0 → GivesBack m.text m.context before after code)
      × (StreamsDontFail before after → IsDoneOrMemory code)))
  -- `migrate`: a keyring file that the shelf tells is written in version 2, unless it is refused,
  -- memory runs out or an object fails.
  pub migration : On requests.Migrate words
      (λ asked. (bytes : List ℕ) (value : Data) → Holds before.shelf.files asked.keyring bytes
      → length bytes ≤ most_file → value_asked asked bytes ≡ Ok value
      → Stayed before.shelf.faults after.shelf.faults
      → Stayed before.output.faults after.output.faults → IsDoneOrMemory code)
  -- `batch`: the report keeps to the limits of the job file's cache.
  pub limits : On requests.Batch words (λ name. WasRun code → ShowsLimits name before after)
  -- `batch`: an entry of the cache is as old as the clock says. The moments of the journal's lines
  -- are, in order, among those that the clock gave.
  pub ages : On requests.Batch words (λ name.
      WasRun code → ShowsAges name before.shelf after.shelf before.output after.output time.before
      time.after)
  -- `batch`: over any objects, once it is reported, of any files that agree with what the reads
  -- gave each job comes to what is said of it. Behind the job file and the keyring file the shelf
  -- was told what each job reads, and then called for the files of the jobs alone; the file of each
  -- job was finished once, for those who may read it, behind all that was written into it, or the
  -- shelf failed and the job isn't done.
  pub batched : On requests.Batch words
      (λ name. WasRun code → BatchedWhatCame trees name before after code)
  -- `batch`: however it ends, no file that the shelf tells changed but those that jobs write.
  pub others : On requests.Batch words
      (λ name. (after.shelf.files ≡ before.shelf.files)
      ⊎ ChangesOnlyWritten name before.shelf after.shelf)
  -- `batch`: jobs that the shelf tells are run and reported, unless memory runs out, the shelf
  -- fails or the output does.
  pub batch : On requests.Batch words
      (λ name. (file : JobFile) (tree : KeyringMeaning)
      → HoldsJobs trees before.shelf.files name file tree
      → Stayed before.shelf.faults after.shelf.faults
      → Stayed before.output.faults after.output.faults → IsDoneOrMemory code ⊎ (code ≡ 7))
  -- `batch`: of each decrypt job is said what the keys of the tree read of its file.
  pub judgements : On requests.Batch words
      (λ name. WasRun code → ShowsJudgements trees name before after)
  -- `batch`: of jobs that the shelf tells each that must be is done, unless memory runs out or an
  -- object fails.
  pub jobs : On requests.Batch words
      (λ name. (file : JobFile) (tree : KeyringMeaning)
      → HoldsJobs trees before.shelf.files name file tree
      → NothingOfBatchFails trees tree before after
      → (code ≡ 5) ⊎ DoesJobs file.cache tree before.shelf.files file.jobs before.output
      after.output)
  -- `gen`: the output gains the line of the seed and the size.
  pub generator : (seed size : ℕ) → words ≡ Ok (requests.Gen seed size)
      → Generates seed size before.output after.output unchanged.output code
  -- `extract`: a tree is given back only where the keyring file was read as one; and where a shelf
  -- tells that it holds one, and doesn't fail, that is given back, unless the words' pairs are
  -- refused or memory runs out.
  pub extract_tree : On requests.Extract words
      (λ asked. ComesBackBefore trees asked.pairs asked.keyring before.shelf after.shelf code)
  -- `extract`: over any objects, once it is done the output gained the range of any bytes that
  -- agree with what the reads of the message's file gave, under the keys of the tree that came from
  -- the shelf, and under those that its leaves went by.
  pub extracted : On requests.Extract words
      (λ asked. code ≡ 0 → ExtractedWhatCame trees asked before after)
  -- `extract`: and where it ends with a fault, that is the one of these bytes.
  pub extract_fault : On requests.Extract words
      (λ asked. code ≡ 1 → ReadsOfWhatCame trees asked before after
      (λ reader bytes. NamesExtractFault reader asked bytes before after))
  -- `extract`: of a file that the shelf tells the range is written, and the fault that ends it is
  -- named; no more bytes are read than for a keyring file, the header and the slots taken.
  pub extraction : On requests.Extract words
      (λ asked. (given : List KeyValue) (keys : List WrapKeyValue) (bytes : List ℕ)
      → ReadsMessageFile trees asked before given keys bytes
      → TreeWasReadFirstAnd trees asked.keyring before.shelf
      ((code ≡ 0 → GainsRange (extract_reader asked given keys) asked bytes before after)
      × (code ≡ 1 → NamesExtractFault (extract_reader asked given keys) asked bytes before after)))
  -- `extract`: a range without a fault is done, unless memory runs out or an object fails.
  pub sound_range : On requests.Extract words
      (λ asked. (given : List KeyValue) (keys : List WrapKeyValue) (bytes : List ℕ)
      → ReadsMessageFile trees asked before given keys bytes
      → (extracted_by (extract_reader asked given keys) bytes (range_asked asked)).fault ≡ None
      → ShelfAndOutputsDontFail before after
      → TreeWasReadFirstAnd trees asked.keyring before.shelf (IsDoneOrMemory code))
  -- `extract`: of a whole message the bytes of the range are written, as far as there are any, of
  -- those that `decrypt` writes by the same words; whatever the range.
  pub range_of_content : On requests.Extract words
      (λ asked. (given : List KeyValue) (keys : List WrapKeyValue) (bytes : List ℕ)
      → ReadsMessageFile trees asked before given keys bytes → AreBytes bytes
      → (judged_by (extract_reader asked given keys) bytes).verdict ≡ Whole
      → TreeWasReadFirstAnd trees asked.keyring before.shelf
      (WritesOfContent (extract_reader asked given keys) asked bytes before after code))
  -- `extract`: of a file that the shelf tells no more is read than the header, up to a piece behind
  -- it, and the slots that the range names, beside the keyring file; however it ends. That it is no
  -- more than the slots that are taken, `extraction` says.
  pub extract_reads : On requests.Extract words
      (λ asked. (bytes : List ℕ) → Holds before.shelf.files asked.from bytes
      → after.shelf.given ≤ before.shelf.given + most_file + most_piece
      + most_read no_limits (range_asked asked) bytes)
  -- `reseal`: the first tree is given back, only where its keyring file was read as one; and where
  -- a shelf tells that it holds one, and doesn't fail, that is given back, unless the words' pairs
  -- are refused or memory runs out.
  pub reseal_tree : On requests.Reseal words
      (λ asked. ComesBackBefore trees asked.pairs asked.keyring before.shelf after.shelf code)
  -- `reseal`: the judgement of all bytes of the input is said. Of a whole message the output gains
  -- the new one, under the second tree's keys and over the same whole context; of one with a fault
  -- all frames but the last of what is released before it.
  pub resealing : On requests.Reseal words
      (λ asked. (given : List KeyValue) (keys : List WrapKeyValue) (bytes : List ℕ)
      (both : ReadsBoth trees asked before given keys) → before.input.left ≡ Some bytes
      → TreeWasReadFirstAnd trees asked.keyring before.shelf
      ((code ≡ 0 → OfItsKeys both.second (λ others. ShowsResealed (reseal_reader asked given keys)
      (reseal_writer asked others) others bytes before after code))
      × (code ≡ 1 → OfItsKeys both.second (λ others. NamesResealFault
      (reseal_reader asked given keys) (reseal_writer asked others) others asked.frame bytes before
      after))))
  -- `reseal`: a whole message is done, unless it is refused, memory runs out or an object fails.
  pub resealed_whole : On requests.Reseal words
      (λ asked. (given : List KeyValue) (keys : List WrapKeyValue) (bytes : List ℕ)
      (both : ReadsBoth trees asked before given keys)
      → CanBeResealed (reseal_reader asked given keys) both.second asked.frame before.input bytes
      → StreamsDontFail before after → ShelfAndEntropyDontFail before after
      → TreeWasReadFirstAnd trees asked.keyring before.shelf (IsDoneOrMemory code))
  -- `reseal`: a message that was written for one of the first tree's keys and for the pairs is
  -- resealed to one that is read under any tree with one of the second tree's keys: its text and
  -- its whole context. Four bytes hold the new frame length.
  pub rotation : On requests.Reseal words
      (λ asked. (given : List KeyValue) (keys writers : List WrapKeyValue) (m : Written)
      (both : ReadsBoth trees asked before given keys)
      → IsWrittenFor (reseal_reader asked given keys) writers m → 1 ≤ asked.frame
      → asked.frame < 2 ^ 32 → before.input.left ≡ Some (written_message m)
      → TreeWasReadFirstAnd trees asked.keyring before.shelf
      (code ≡ 0 → OfItsKeys both.second (λ others. ShowsRotated m others asked.frame before after
      code)))
  -- `audit`: over any objects, once it is done the lines are those of the bytes that came from the
  -- shelf: of the file of the audit, of the keyring file, and of the front of each message's file.
  pub audit_came : On requests.Audit words
      (λ name. WasRun code → AuditedWhatCame trees name before after code)
  -- `audit`: of files that the shelf tells the lines say which leaves of a tree that tells its keys
  -- open which messages, and which messages a leaf is needed for. The status is 0 where each
  -- message has an opener, else 7.
  pub audit : On requests.Audit words
      (λ name. (tree : KeyringMeaning) (leaves : List (List WrapKeyValue)) (messages : List Message)
      → HoldsAudit trees before.shelf.files name tree leaves messages → WasRun code
      → TreeIsLeftAnd trees tree (ShowsOpeners leaves messages before after code))
  -- `audit`: messages whose files the shelf tells are audited, unless memory runs out or an object
  -- fails.
  pub audited : On requests.Audit words
      (λ name. (tree : KeyringMeaning) (leaves : List (List WrapKeyValue)) (messages : List Message)
      (held : HoldsAudit trees before.shelf.files name tree leaves messages)
      → HasShortFiles held.bytes held.keyring messages
      → Stayed before.shelf.faults after.shelf.faults
      → Stayed before.output.faults after.output.faults
      → (code ≡ 5) ⊎ TreeIsLeftAnd trees tree (WasRun code))
