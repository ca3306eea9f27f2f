-- What a run comes to over the tree that it gives back, where its objects tell what they hold: when
-- it must be done, and what of the input's bytes it says.
use Rattle.std.specs.Prelude.{◌≡◌, ◌⊎◌, ℕ, ◌≤◌, List, [], ◌∷◌, length, Option, Some, Ok}
use Rattle.std.specs.Io.KnownBytes.{Appends}
use Rattle.esdk_args.specs.declared.pair_words.PairWord.{PairWord}
use Rattle.esdk_args.specs.declared.request.DecryptWords.{DecryptWords}
use Rattle.esdk_fields.specs.Counts.{Stayed}
use Rattle.esdk_base.specs.Shelf.{Files, Holds}
use Rattle.esdk_base.specs.Streams.{ShelfState}
use Rattle.esdk_fields.specs.declared.faults.Fault.{Fault}
use Rattle.esdk_report.specs.Lines.{fault_line, printed_line}
use Rattle.context_codec.specs.Context.{KeyValue}
use Rattle.keyring_trait.specs.Keyring.{KeyringMeaning}
use Rattle.keyring_trait.specs.Wrapping.{WrapKeyValue}
use Rattle.whole_input.specs.File.{most_file}
use Rattle.armour_core.specs.Outlook.{Outlook}
use Rattle.armour_core.specs.declared.text_end.TextEnd.TheVariants.{Whole}
use Rattle.message_format.specs.Judgement.{content}
use Rattle.esdk_decrypt.specs.Laws.{IsWholeMessage}
use Rattle.esdk_decrypt.specs.Told.{judged_by}
use Rattle.esdk_run.specs.Decrypt.{reader_of}
use Rattle.esdk_run.specs.Objects.{Objects}
use Rattle.esdk_run.specs.Pairs.{context_in}
use Rattle.esdk_report.specs.Report.{ReportGains, ShowsContext}
use Rattle.esdk_run.specs.Trees.{TreeGoes, TreeIs, Trees}
use Rattle.esdk_run.specs.UnarmouredTold.{input_fault}

-- ---- the tree that is given back

-- The keyring file was read as a tree, of which this is left.
pub record IsLeft (trees : Trees) (name : List ℕ) (old new : ShelfState) (left : KeyringMeaning)
    : Type 0 where
  pub tree : KeyringMeaning
  pub file : TreeIs trees.read old new name tree
  pub goes : TreeGoes tree left

-- What is left of this tree is given back, and this is so, too, where none of its keyrings failed
-- in the run, and its count isn't at its end. (None fails of a steady tree.)
pub record TreeIsLeftAnd (trees : Trees) (tree : KeyringMeaning) (So : Type 0) : Type 0 where
  pub left : KeyringMeaning
  pub kept : trees.kept ≡ Some left
  pub goes : TreeGoes tree left
  pub so : Stayed tree.faults left.faults → So

-- The keyring file was read as a tree, of which that is so.
abbrev pub TreeWasReadAnd : Trees → (name : List ℕ) → (old new : ShelfState) → Type 0 → Type 0
TreeWasReadAnd trees name old new So =
    (tree : KeyringMeaning) × TreeIs trees.read old new name tree × TreeIsLeftAnd trees tree So

-- The same of a command that reads another file of the shelf behind the keyring file.
abbrev pub TreeWasReadFirstAnd : Trees → (name : List ℕ) → (old : ShelfState) → Type 0 → Type 0
TreeWasReadFirstAnd trees name old So =
    (middle : ShelfState) × TreeWasReadAnd trees name old middle So

-- The shelf tells that the file of this name holds this tree. (A file of more than 1,048,576 bytes
-- holds none.)
pub record HoldsTree (trees : Trees) (files : Option Files) (name : List ℕ) (tree : KeyringMeaning)
    : Type 0 where
  pub bytes : List ℕ
  pub holds : Holds files name bytes
  pub few : length bytes ≤ most_file
  pub is : trees.read bytes ≡ Ok (tree ∷ [])

-- this tree is given back, as the run left it
abbrev pub GivesTree : Trees → KeyringMeaning → Type 0
GivesTree trees tree = (left : KeyringMeaning) × (trees.kept ≡ Some left) × TreeGoes tree left

-- Where a shelf tells that it holds a tree, and doesn't fail, that is given back, unless the words'
-- pairs are refused or memory runs out.
abbrev pub GivesWhatIsHeld : Trees → List PairWord → (name : List ℕ) → (old new : ShelfState) → ℕ
    → Type 0
GivesWhatIsHeld trees words name old new code = (context : List KeyValue) (tree : KeyringMeaning)
    → context_in words ≡ Ok context → HoldsTree trees old.files name tree
    → Stayed old.faults new.faults → (code ≡ 5) ⊎ GivesTree trees tree

-- A tree is given back only where the keyring file was read as one, and one that is held is given
-- back.
pub record ComesBack (trees : Trees) (words : List PairWord) (name : List ℕ) (old new : ShelfState)
    (code : ℕ) : Type 0 where
  pub read : (left : KeyringMeaning) → trees.kept ≡ Some left → IsLeft trees name old new left
  pub held : GivesWhatIsHeld trees words name old new code

-- The same of a command that reads another file of the shelf behind the keyring file, also where
-- that file is refused.
pub record ComesBackBefore (trees : Trees) (words : List PairWord) (name : List ℕ)
    (old new : ShelfState) (code : ℕ) : Type 0 where
  pub read : (left : KeyringMeaning) → trees.kept ≡ Some left
      → (middle : ShelfState) × IsLeft trees name old middle left
  pub held : GivesWhatIsHeld trees words name old new code

-- No count of faults of the input, the output and the report rose, and none is at its end.
pub record StreamsDontFail (before after : Objects) : Type 0 where
  pub reading : Stayed before.input.faults after.input.faults
  pub writing : Stayed before.output.faults after.output.faults
  pub reporting : Stayed before.report.faults after.report.faults

-- the status is 0, or 5 for want of memory; what was done at 0 other clauses say
abbrev pub IsDoneOrMemory : ℕ → Type 0
IsDoneOrMemory code = (code ≡ 0) ⊎ (code ≡ 5)

-- all was run and reported, as a batch and an audit end
abbrev pub WasRun : ℕ → Type 0
WasRun code = (code ≡ 0) ⊎ (code ≡ 7)

-- ---- `encrypt`

-- ---- `decrypt`, where the tree tells its keys and no keyring of it failed

-- The words give these pairs, and a tree is given back that tells these keys.
pub record HasPairsAndKeys (trees : Trees) (asked : DecryptWords) (given : List KeyValue)
    (keys : List WrapKeyValue) : Type 0 where
  pub left : KeyringMeaning
  pub pairs : context_in asked.pairs ≡ Ok given
  pub kept : trees.kept ≡ Some left
  pub told : left.keys ≡ Some keys

-- All of the input's bytes, or what they give as armour, have this fault, the output gained what
-- their judgement releases, and the report gained the fault's line.
pub record NamesFault (asked : DecryptWords) (given : List KeyValue) (keys : List WrapKeyValue)
    (input : Outlook) (before after : Objects) : Type 0 where
  pub fault : Fault
  pub cause : input_fault input.end (judged_by (reader_of asked given keys) input.bytes).verdict
      ≡ Some fault
  pub gained : Appends before.output.written after.output.written
      (content (judged_by (reader_of asked given keys) input.bytes))
  pub line : ReportGains (printed_line (fault_line fault)) before.report after.report

-- All of the input's bytes, or what they give as armour, are a whole message, the output gained its
-- content, and the report the line of its whole context.
pub record ShowsWhole (asked : DecryptWords) (given : List KeyValue) (keys : List WrapKeyValue)
    (input : Outlook) (before after : Objects) (code : ℕ) : Type 0 where
  pub context : List KeyValue
  pub end : input.end ≡ Whole
  pub message : IsWholeMessage (reader_of asked given keys) input.bytes before.output after.output
      context
  pub shown : ShowsContext context code before.report after.report

-- The output gained this text, and the report the line of this context.
pub record GivesBack (text : List ℕ) (context : List KeyValue) (before after : Objects) (code : ℕ)
    : Type 0 where
  pub gained : Appends before.output.written after.output.written text
  pub shown : ShowsContext context code before.report after.report

-- ---- `migrate`
