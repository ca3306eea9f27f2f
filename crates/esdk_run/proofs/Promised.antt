-- What is promised of each command, by a name of its own.
use Rattle.std.specs.Prelude.{IfSome, List, None, Ok, Some, length, ℕ, ◌+◌, ◌<◌, ◌^◌, ◌≡◌, ◌≢◌, ◌≤◌, ◌⊎◌}
use Rattle.audit_core.specs.Messages.{Message}
use Rattle.body_format.specs.declared.verdicts.Verdict.TheVariants.{Whole}
use Rattle.context_codec.specs.Context.{KeyValue}
use Rattle.esdk_args.specs.declared.request.DecryptWords.{DecryptWords}
use Rattle.esdk_args.specs.declared.request.EncryptWords.{EncryptWords}
use Rattle.esdk_args.specs.declared.request.ExtractWords.{ExtractWords}
use Rattle.esdk_args.specs.declared.request.MigrateWords.{MigrateWords}
use Rattle.esdk_args.specs.declared.request.ResealWords.{ResealWords}
use Rattle.esdk_base.specs.Shelf.{Holds}
use Rattle.esdk_base.specs.Streams.{ShelfState, SinkState}
use Rattle.esdk_decrypt.specs.Laws.{IsWrittenFor, Written, written_message}
use Rattle.esdk_decrypt.specs.Told.{judged_by}
use Rattle.esdk_encrypt.specs.Laws.{FitsMessage, GainsMessage}
use Rattle.esdk_fields.specs.Bytes.{AreBytes}
use Rattle.esdk_fields.specs.Counts.{Stayed}
use Rattle.extract_core.specs.Extract.{most_read}
use Rattle.header_codec.specs.Header.{no_limits}
use Rattle.job_file.specs.JobFile.{JobFile}
use Rattle.keyring_trait.specs.Keyring.{KeyringMeaning}
use Rattle.keyring_trait.specs.Wrapping.{WrapKeyValue}
use Rattle.serde_json.specs.Data.{Data}
use Rattle.whole_input.specs.File.{most_file}
use Rattle.whole_input.specs.Pieces.{most_piece}
use Rattle.esdk_run.specs.ArmouredMessage.{output_form}
use Rattle.esdk_run.specs.AuditTold.{HasShortFiles, HoldsAudit, ShowsOpeners}
use Rattle.esdk_run.specs.Decrypt.{reader_of}
use Rattle.esdk_run.specs.EachJob.{DoesJobs, NothingOfBatchFails}
use Rattle.esdk_run.specs.EarlyEnd.{LeavesMessageFront}
use Rattle.esdk_run.specs.Encrypt.{refusal_asked, run_writer}
use Rattle.esdk_run.specs.Extract.{extract_reader, range_asked}
use Rattle.esdk_run.specs.ExtractTold.{GainsRange, NamesExtractFault, ReadsMessageFile, ShelfAndOutputsDontFail, WritesOfContent, extracted_by}
use Rattle.esdk_run.specs.Migrate.{value_asked}
use Rattle.esdk_run.specs.Objects.{Objects, Unchanged, same_streams}
use Rattle.esdk_run.specs.Pairs.{context_in}
use Rattle.esdk_run.specs.Read.{SaysWhatIsReadAs}
use Rattle.esdk_run.specs.ResealTold.{CanBeResealed, NamesResealFault, OfItsKeys, ReadsBoth, ShelfAndEntropyDontFail, ShowsResealed, ShowsRotated, reseal_reader, reseal_writer}
use Rattle.esdk_run.specs.Served.{HoldsJobs}
use Rattle.esdk_run.specs.Told.{GivesBack, HasPairsAndKeys, IsDoneOrMemory, NamesFault, ShowsWhole, StreamsDontFail, TreeIsLeftAnd, TreeWasReadAnd, TreeWasReadFirstAnd, WasRun}
use Rattle.esdk_run.specs.Trees.{Trees}
use Rattle.esdk_run.specs.Unarmoured.{outlook_of}
use Rattle.esdk_run.specs.UnarmouredTold.{IsWholeAs, TellsAs}

-- Once `encrypt` is done, an output that tells its bytes gained the message of the input's bytes, over the context of the words, under the keys that the tree tells; with
-- `--armour`, its armour text.
abbrev pub WritesTheMessage : Trees → EncryptWords → Objects → Objects → ℕ → Type 0
WritesTheMessage trees asked before after code = (context : List KeyValue) (left : KeyringMeaning) (keys : List WrapKeyValue) (text written : List ℕ)
    → context_in asked.pairs ≡ Ok context → trees.kept ≡ Some left → left.keys ≡ Some keys
    → before.input.left ≡ Some text → before.output.written ≡ Some written → code ≡ 0
    → GainsMessage (output_form asked.armour) (run_writer asked context keys) text written before.entropy after.output

-- An input that fits into a message is encrypted, unless memory runs out or an object fails: where the words give a context, a tree is given back, the request isn't
-- refused, and the limit on entries allows as many as the tree makes. The tree needn't tell its keys.
abbrev pub EncryptsWhatFits : Trees → EncryptWords → Objects → Objects → ℕ → Type 0
EncryptsWhatFits trees asked before after code = (context : List KeyValue) (left : KeyringMeaning) (text : List ℕ)
    → context_in asked.pairs ≡ Ok context → trees.kept ≡ Some left
    → refusal_asked asked context left ≡ None → IfSome asked.max_keys (λ most. left.wraps ≤ most) → FitsMessage asked.frame before.input text
    → StreamsDontFail before after → Stayed before.entropy.faults after.entropy.faults
    → TreeWasReadAnd trees asked.keyring before.shelf after.shelf (IsDoneOrMemory code)

-- Where `encrypt` isn't done over a tree that tells its keys, it left the input and the output as
-- they were, or a front of the message. (A frame has at least a byte, whatever the words.)
abbrev pub LeavesAFront : Trees → EncryptWords → Objects → Objects → Unchanged → ℕ → Type 0
LeavesAFront trees asked before after unchanged code =
    (context : List KeyValue) (left : KeyringMeaning) (keys : List WrapKeyValue)
    → context_in asked.pairs ≡ Ok context → trees.kept ≡ Some left → left.keys ≡ Some keys
    → 1 ≤ asked.frame → code ≢ 0
    → same_streams unchanged ⊎ LeavesMessageFront asked (run_writer asked context keys) before after

-- `decrypt` says what is read of the bytes that it took, whatever the input and the output tell.
abbrev pub SaysWhatItReads : Trees → DecryptWords → Objects → Objects → ℕ → Type 0
SaysWhatItReads trees asked before after code = (given : List KeyValue) (keys : List WrapKeyValue) → HasPairsAndKeys trees asked given keys
    → TreeWasReadAnd trees asked.keyring before.shelf after.shelf (SaysWhatIsReadAs asked.armour (reader_of asked given keys) before after code)

-- `decrypt` says of the input what the judgement of all its bytes is, however little of it was taken: a verdict that is a fault stays when bytes follow.
abbrev pub SaysTheJudgement : Trees → DecryptWords → Objects → Objects → ℕ → Type 0
SaysTheJudgement trees asked before after code = (given : List KeyValue) (keys : List WrapKeyValue) (bytes : List ℕ)
    → HasPairsAndKeys trees asked given keys → before.input.left ≡ Some bytes
    → TreeWasReadAnd trees asked.keyring before.shelf after.shelf
    ((code ≡ 0 → ShowsWhole asked given keys (outlook_of asked.armour bytes) before after code) × (code ≡ 1 → NamesFault asked given keys (outlook_of asked.armour bytes) before after))

-- An input that is a whole message, or a whole text of one, is decrypted, unless memory runs out or an object fails.
abbrev pub DecryptsWholeMessages : Trees → DecryptWords → Objects → Objects → ℕ → Type 0
DecryptsWholeMessages trees asked before after code = (given : List KeyValue) (keys : List WrapKeyValue) (bytes : List ℕ)
    → HasPairsAndKeys trees asked given keys → IsWholeAs asked.armour (reader_of asked given keys) before.input bytes → StreamsDontFail before after
    → TreeWasReadAnd trees asked.keyring before.shelf after.shelf (IsDoneOrMemory code)

-- A message that was written for one of the keys and for the pairs, or the armour text of one, is decrypted to its text and its whole context, unless memory runs out or an object fails.
abbrev pub ReadsBack : Trees → DecryptWords → Objects → Objects → ℕ → Type 0
ReadsBack trees asked before after code = (given : List KeyValue) (keys writers : List WrapKeyValue) (m : Written)
    → HasPairsAndKeys trees asked given keys → IsWrittenFor (reader_of asked given keys) writers m
    → TellsAs asked.armour before.input (written_message m)
    → TreeWasReadAnd trees asked.keyring before.shelf after.shelf
    ((code ≡ 0 → GivesBack m.text m.context before after code) × (StreamsDontFail before after → IsDoneOrMemory code))

-- A keyring file that the shelf tells is written in version 2, unless it is refused, memory runs out or an object fails.
abbrev pub MigratesWhatIsHeld : MigrateWords → ShelfState → ShelfState → SinkState → SinkState → ℕ → Type 0
MigratesWhatIsHeld asked old new before after code = (bytes : List ℕ) (value : Data) → Holds old.files asked.keyring bytes → length bytes ≤ most_file → value_asked asked bytes ≡ Ok value
    → Stayed old.faults new.faults → Stayed before.faults after.faults → IsDoneOrMemory code

-- Jobs that the shelf tells are run and reported, unless memory runs out, the shelf fails or the
-- output does.
abbrev pub RunsWhatIsHeld : Trees → List ℕ → ShelfState → ShelfState → SinkState → SinkState → ℕ → Type 0
RunsWhatIsHeld trees name old new before after code =
    (file : JobFile) (tree : KeyringMeaning) → HoldsJobs trees old.files name file tree
    → Stayed old.faults new.faults → Stayed before.faults after.faults → IsDoneOrMemory code ⊎ (code ≡ 7)

-- Of jobs that the shelf tells each that must be is done, unless memory runs out or an object fails.
abbrev pub DoesWhatItMust : Trees → List ℕ → Objects → Objects → ℕ → Type 0
DoesWhatItMust trees name before after code =
    (file : JobFile) (tree : KeyringMeaning) → HoldsJobs trees before.shelf.files name file tree
    → NothingOfBatchFails trees tree before after
    → (code ≡ 5)
    ⊎ DoesJobs file.cache tree before.shelf.files file.jobs before.output after.output

-- `extract`, at status 0 and 1, writes what is extracted of the file, and names the fault that ends
-- it; it reads no more bytes than `ReadsTaken` says.
abbrev pub SaysWhatItExtracts : Trees → ExtractWords → Objects → Objects → ℕ → Type 0
SaysWhatItExtracts trees asked before after code =
    (given : List KeyValue) (keys : List WrapKeyValue) (bytes : List ℕ)
    → ReadsMessageFile trees asked before given keys bytes
    → TreeWasReadFirstAnd trees asked.keyring before.shelf
    ((code ≡ 0 → GainsRange (extract_reader asked given keys) asked bytes before after)
    × (code ≡ 1 → NamesExtractFault (extract_reader asked given keys) asked bytes before after))

-- A range without a fault is extracted, unless memory runs out or an object fails.
abbrev pub ExtractsSoundRanges : Trees → ExtractWords → Objects → Objects → ℕ → Type 0
ExtractsSoundRanges trees asked before after code =
    (given : List KeyValue) (keys : List WrapKeyValue) (bytes : List ℕ)
    → ReadsMessageFile trees asked before given keys bytes
    → (extracted_by (extract_reader asked given keys) bytes (range_asked asked)).fault ≡ None
    → ShelfAndOutputsDontFail before after
    → TreeWasReadFirstAnd trees asked.keyring before.shelf (IsDoneOrMemory code)

-- Of a whole message the bytes of the range are written, as far as there are any, of those that
-- `decrypt` writes by the same words; whatever the range.
abbrev pub ExtractsOfContent : Trees → ExtractWords → Objects → Objects → ℕ → Type 0
ExtractsOfContent trees asked before after code =
    (given : List KeyValue) (keys : List WrapKeyValue) (bytes : List ℕ)
    → ReadsMessageFile trees asked before given keys bytes → AreBytes bytes
    → (judged_by (extract_reader asked given keys) bytes).verdict ≡ Whole
    → TreeWasReadFirstAnd trees asked.keyring before.shelf
    (WritesOfContent (extract_reader asked given keys) asked bytes before after code)

-- Where the shelf tells the message's file it gives no more bytes than a keyring file may have, one
-- piece, the header, up to a piece behind it, and the slots that the range names; however the run
-- ends. That it is no more than the slots that are taken, `SaysWhatItExtracts` says.
abbrev pub ReadsNoMore : ExtractWords → Objects → Objects → Type 0
ReadsNoMore asked before after = (bytes : List ℕ) → Holds before.shelf.files asked.from bytes
    → after.shelf.given ≤ before.shelf.given + most_file + most_piece
    + most_read no_limits (range_asked asked) bytes

-- `reseal` says of the input what the judgement of all its bytes is, however little of it was
-- taken, and writes what that releases under the second tree's keys: all of it, or all but the last
-- frame.
abbrev pub SaysWhatItReseals : Trees → ResealWords → Objects → Objects → ℕ → Type 0
SaysWhatItReseals trees asked before after code =
    (given : List KeyValue) (keys : List WrapKeyValue) (bytes : List ℕ)
    (both : ReadsBoth trees asked before given keys) → before.input.left ≡ Some bytes
    → TreeWasReadFirstAnd trees asked.keyring before.shelf
    ((code ≡ 0 → OfItsKeys both.second
    (λ others. ShowsResealed (reseal_reader asked given keys) (reseal_writer asked others) others
    bytes before after code))
    × (code ≡ 1 → OfItsKeys both.second
    (λ others. NamesResealFault (reseal_reader asked given keys) (reseal_writer asked others) others
    asked.frame bytes before after)))

-- An input that is a whole message is resealed, unless memory runs out or an object fails.
abbrev pub ResealsWholeMessages : Trees → ResealWords → Objects → Objects → ℕ → Type 0
ResealsWholeMessages trees asked before after code =
    (given : List KeyValue) (keys : List WrapKeyValue) (bytes : List ℕ)
    (both : ReadsBoth trees asked before given keys)
    → CanBeResealed (reseal_reader asked given keys) both.second asked.frame before.input bytes
    → StreamsDontFail before after → ShelfAndEntropyDontFail before after
    → TreeWasReadFirstAnd trees asked.keyring before.shelf (IsDoneOrMemory code)

-- A message that was written for one of the first tree's keys and for the pairs is resealed to one
-- that is read under any tree with one of the second tree's keys: its text and its whole context.
-- Four bytes hold the new frame length.
abbrev pub RotatesWhatIsWritten : Trees → ResealWords → Objects → Objects → ℕ → Type 0
RotatesWhatIsWritten trees asked before after code =
    (given : List KeyValue) (keys writers : List WrapKeyValue) (m : Written)
    (both : ReadsBoth trees asked before given keys)
    → IsWrittenFor (reseal_reader asked given keys) writers m
    → 1 ≤ asked.frame → asked.frame < 2 ^ 32 → before.input.left ≡ Some (written_message m)
    → TreeWasReadFirstAnd trees asked.keyring before.shelf
    (code ≡ 0 → OfItsKeys both.second
    (λ others. ShowsRotated m others asked.frame before after code))

-- At status 0 and 7 the output gained exactly the lines of what the files' bytes say, and the
-- status is 0 where each message has an opener, else 7.
abbrev pub SaysTheOpeners : Trees → (name : List ℕ) → Objects → Objects → ℕ → Type 0
SaysTheOpeners trees name before after code =
    (tree : KeyringMeaning) (leaves : List (List WrapKeyValue)) (messages : List Message)
    → HoldsAudit trees before.shelf.files name tree leaves messages → WasRun code
    → TreeIsLeftAnd trees tree (ShowsOpeners leaves messages before after code)

-- Messages whose files the shelf tells are audited, unless memory runs out (status 5), or the
-- shelf, the output or a keyring fails.
abbrev pub AuditsWhatIsHeld : Trees → (name : List ℕ) → Objects → Objects → ℕ → Type 0
AuditsWhatIsHeld trees name before after code =
    (tree : KeyringMeaning) (leaves : List (List WrapKeyValue)) (messages : List Message)
    (held : HoldsAudit trees before.shelf.files name tree leaves messages)
    → HasShortFiles held.bytes held.keyring messages
    → Stayed before.shelf.faults after.shelf.faults
    → Stayed before.output.faults after.output.faults
    → (code ≡ 5) ⊎ TreeIsLeftAnd trees tree (WasRun code)
