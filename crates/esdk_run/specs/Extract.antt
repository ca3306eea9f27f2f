-- What the command `extract` comes to.
use Rattle.std.specs.Prelude.{◌≡◌, ◌⊎◌, ℕ, ◌≤◌, ◌+◌, List, false, None}
use Rattle.header_codec.specs.Header.{no_limits}
use Rattle.esdk_args.specs.declared.request.DecryptWords.{DecryptWords}
use Rattle.esdk_args.specs.declared.request.ExtractWords.{ExtractWords}
use Rattle.esdk_base.specs.Streams.{ShelfState}
use Rattle.esdk_fields.specs.declared.refusals.Outside.TheVariants as outsides
use Rattle.context_codec.specs.Context.{KeyValue}
use Rattle.keyring_trait.specs.Keyring.{KeyringMeaning}
use Rattle.keyring_trait.specs.Wrapping.{WrapKeyValue}
use Rattle.esdk_decrypt.specs.Decrypt.{DecryptAsked}
use Rattle.esdk_decrypt.specs.Told.{Reader}
use Rattle.whole_input.specs.FileReads.{Grows}
use Rattle.extract_core.specs.declared.errors.ExtractError.{ExtractError}
use Rattle.extract_core.specs.declared.errors.ExtractError.TheVariants as errors
use Rattle.extract_core.specs.Extracted.{ByteRange}
use Rattle.extract_core.specs.Extract.{ExtractEnds, Extracts, OnFile, most_read, range_of}
use Rattle.esdk_report.specs.declared.failure.Failure.{Failure}
use Rattle.esdk_report.specs.declared.failure.Failure.TheVariants as failures
use Rattle.esdk_run.specs.Decrypt.{decrypt_asked, reader_of}
use Rattle.esdk_run.specs.Objects.{Objects, Unchanged}
use Rattle.esdk_run.specs.Pairs.{RefusesWordPairs}
use Rattle.esdk_run.specs.Trees.{HasNoTree, HasTree, IsUntouched, TreeLacksMemory, Trees}

-- The decryption with the same keyring file and the same pairs, without limits; only messages that
-- commit to their data key are read.
abbrev pub as_decryption : ExtractWords → DecryptWords
as_decryption asked = record {
  keyring = asked.keyring;
  max_keys = None;
  max_unit = None;
  uncommitted = false;
  armour = false;
  pairs = asked.pairs;
}

-- the range that the words name
abbrev pub range_asked : ExtractWords → ByteRange
range_asked asked = range_of asked.at asked.count

-- what is asked for, of a tree that means this before and that after the run
abbrev pub extract_asked : ExtractWords → List KeyValue → KeyringMeaning → KeyringMeaning
    → DecryptAsked
extract_asked asked given tree left = decrypt_asked (as_decryption asked) given tree left

-- who reads where the tree tells these keys
abbrev pub extract_reader : ExtractWords → List KeyValue → List WrapKeyValue → Reader
extract_reader asked given keys = reader_of (as_decryption asked) given keys

-- ---- how it ends

-- The words give these pairs, and the keyring file is read as a tree. Then this was the shelf, and
-- it told the files that it told before.
pub record HasTreeFor (trees : Trees) (asked : ExtractWords) (before after : Objects) : Type 0 where
  pub given : List KeyValue
  pub tree : KeyringMeaning
  pub left : KeyringMeaning
  pub middle : ShelfState
  pub has : HasTree trees asked.pairs asked.keyring before.shelf middle given tree left
  pub files : middle.files ≡ before.shelf.files

-- The shelf gave no more bytes than the header of the message, up to a piece behind it, and the
-- slots that the range names; where the manager answered, `Extracts` and `ExtractEnds` say: and the
-- slots that are taken. Which bytes it gave isn't said here.
abbrev pub ReadsOfFile : ExtractWords → ShelfState → ShelfState → Type 0
ReadsOfFile asked middle after = OnFile middle after asked.from
    (λ bytes. after.given ≤ middle.given + most_read no_limits (range_asked asked) bytes)

-- The range was written, as far as the message has it.
pub record ExtractsRange (trees : Trees) (asked : ExtractWords) (before after : Objects)
    : Type 0 where
  pub tree_for : HasTreeFor trees asked before after
  pub written : ℕ
  pub done : Extracts (extract_asked asked tree_for.given tree_for.tree tree_for.left)
      (range_asked asked)
      tree_for.middle after.shelf asked.from before.output after.output written
  pub faults : after.shelf.faults ≡ tree_for.middle.faults
  pub grown : Grows tree_for.middle.calls after.shelf.calls
  pub reads : ReadsOfFile asked tree_for.middle after.shelf

-- The extraction ended with this error.
pub record ExtractionFails (trees : Trees) (asked : ExtractWords) (before after : Objects)
    (unwritten : Type 0) (error : ExtractError) : Type 0 where
  pub tree_for : HasTreeFor trees asked before after
  pub ended : ExtractEnds (extract_asked asked tree_for.given tree_for.tree tree_for.left)
      (range_asked asked)
      tree_for.middle after.shelf asked.from before.output after.output unwritten error
  pub grown : Grows tree_for.middle.calls after.shelf.calls
  pub reads : ReadsOfFile asked tree_for.middle after.shelf

-- Why a range wasn't extracted, and what that left. Memory runs out before there is a tree, with
-- nothing read but its file, or in the extraction.
abbrev pub ExtractFails : Trees → ExtractWords → Objects → Objects → Unchanged → Failure → Type 0
ExtractFails trees asked before after unchanged (failures.File refusal) =
    HasNoTree trees asked.pairs asked.keyring before.shelf after.shelf (failures.File refusal)
    × IsUntouched trees unchanged.output
ExtractFails trees asked before after unchanged (failures.Outside outsides.ShelfFault) =
    (HasNoTree trees asked.pairs asked.keyring before.shelf after.shelf
    (failures.Outside outsides.ShelfFault) × IsUntouched trees unchanged.output)
    ⊎ ExtractionFails trees asked before after unchanged.output (errors.Outside outsides.ShelfFault)
ExtractFails trees asked before after unchanged (failures.Outside outside) =
    ExtractionFails trees asked before after unchanged.output (errors.Outside outside)
ExtractFails trees asked before after unchanged (failures.Fault fault) =
    ExtractionFails trees asked before after unchanged.output (errors.Fault fault)
ExtractFails trees asked before after unchanged (failures.Refusal refusal) =
    RefusesWordPairs asked.pairs refusal unchanged.shelf × IsUntouched trees unchanged.output
ExtractFails trees asked before after unchanged failures.Memory =
    (TreeLacksMemory trees asked.pairs asked.keyring before.shelf after.shelf unchanged.shelf
    × IsUntouched trees unchanged.output)
    ⊎ ExtractionFails trees asked before after unchanged.output errors.Memory
ExtractFails trees asked before after unchanged failure = ⊥
