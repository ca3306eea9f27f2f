-- What `reseal` says over the tree that it gives back, where the shelf tells the second keyring
-- file.
use Rattle.std.specs.Prelude.{◌≡◌, ℕ, List, [], length}
use Rattle.std.specs.Prelude.{None, Some, Ok}
use Rattle.std.specs.Io.KnownBytes.{Appends}
use Rattle.esdk_args.specs.declared.request.ResealWords.{ResealWords}
use Rattle.esdk_fields.specs.Counts.{Stayed}
use Rattle.esdk_fields.specs.declared.faults.Fault.{Fault}
use Rattle.esdk_base.specs.Streams.{SourceState}
use Rattle.context_codec.specs.Context.{KeyValue}
use Rattle.context_codec.specs.Parts.{keys_of}
use Rattle.keyring_trait.specs.Keyring.{KeyringMeaning}
use Rattle.keyring_trait.specs.Unlocking.{Unlocks}
use Rattle.keyring_trait.specs.Wrapping.{WrapKeyValue, active}
use Rattle.body_format.specs.declared.verdicts.Verdict.TheVariants.{Whole}
use Rattle.message_format.specs.Judgement.{content}
use Rattle.esdk_encrypt.specs.Encrypt.{Drew}
use Rattle.esdk_encrypt.specs.Told.{Writer, message_by}
use Rattle.esdk_decrypt.specs.Decrypt.{fault_at_end}
use Rattle.esdk_decrypt.specs.Laws.{IsWholeInput, Written}
use Rattle.esdk_decrypt.specs.Told.{Reader, judged_by, unlocked_to}
use Rattle.reseal_core.specs.Laws.{HasRoom, IsNoMessage, IsRotated, front_by}
use Rattle.esdk_report.specs.Lines.{fault_line, printed_line}
use Rattle.esdk_report.specs.Report.{ReportGains, ShowsContext}
use Rattle.esdk_run.specs.Giving.{refusal_over}
use Rattle.esdk_run.specs.Objects.{Objects}
use Rattle.esdk_run.specs.Pairs.{context_in, required_in}
use Rattle.esdk_run.specs.Reseal.{reseal_settings}
use Rattle.esdk_run.specs.Told.{HoldsTree}
use Rattle.esdk_run.specs.Trees.{Trees}

-- ---- who reads, and who writes

-- who reads the old message, where the first tree tells these keys
abbrev pub reseal_reader : ResealWords → List KeyValue → List WrapKeyValue → Reader
reseal_reader asked given keys = record {
  keys = keys;
  settings = reseal_settings asked;
  given = given;
  required = required_in asked.pairs;
}

-- Who writes the new one, where the second tree tells these keys: over the old one's whole context.
-- The keys of the pairs that were only authenticated are required, and no others.
abbrev pub reseal_writer : ResealWords → List WrapKeyValue → List KeyValue → List KeyValue → Writer
reseal_writer asked keys whole only = record {
  keys = keys;
  context = whole;
  required = keys_of only;
  size = asked.frame;
  max_keys = None;
}

-- as the second keyring file is read: no plug may stand in it
abbrev pub without_plugs : Trees → Trees
without_plugs trees = record trees { read = trees.plain }

-- The words give these pairs, a tree is given back that tells these keys, and the shelf tells that
-- the second file holds a tree.
pub record ReadsBoth (trees : Trees) (asked : ResealWords) (before : Objects)
    (given : List KeyValue) (keys : List WrapKeyValue) : Type 0 where
  pub left : KeyringMeaning
  pub pairs : context_in asked.pairs ≡ Ok given
  pub kept : trees.kept ≡ Some left
  pub told : left.keys ≡ Some keys
  pub second : KeyringMeaning
  pub holds : HoldsTree (without_plugs trees) before.shelf.files asked.to_keyring second

-- The tree tells its keys, and this is so of them.
pub record OfItsKeys (tree : KeyringMeaning) (So : List WrapKeyValue → Type 0) : Type 0 where
  pub keys : List WrapKeyValue
  pub told : tree.keys ≡ Some keys
  pub so : So keys

-- ---- what is written

-- All of the input's bytes are a whole message, unlocked with this whole context. The output gained
-- the new message of its content, made with just the bytes that were drawn, and the report the line
-- of the context.
pub record ShowsResealed (reader : Reader) (writer : List KeyValue → List KeyValue → Writer)
    (others : List WrapKeyValue) (bytes : List ℕ) (before after : Objects) (code : ℕ) : Type 0 where
  pub context : List KeyValue
  pub only : List KeyValue
  pub key : List ℕ
  pub unlocked : unlocked_to reader bytes ≡ Unlocks context only key
  pub whole : (judged_by reader bytes).verdict ≡ Whole
  pub drawn : List ℕ
  pub drew : Drew (length (active others)) before.entropy after.entropy drawn
  pub gained : Appends before.output.written after.output.written
      (message_by (writer context only) drawn (content (judged_by reader bytes)))
  pub shown : ShowsContext context code before.report after.report

-- All of the input's bytes have this fault. The output gained the new header and all frames but the
-- last of what they release, and nothing where they aren't unlocked; and that is a whole message to
-- nobody who allows so many entries and frames of this length. The report gained the fault's line.
pub record NamesResealFault (reader : Reader) (writer : List KeyValue → List KeyValue → Writer)
    (others : List WrapKeyValue) (size : ℕ) (bytes : List ℕ) (before after : Objects) : Type 0 where
  pub fault : Fault
  pub cause : fault_at_end (judged_by reader bytes).verdict ≡ Some fault
  pub drawn : List ℕ
  pub drew : Drew (length (active others)) before.entropy after.entropy drawn
  pub gained : Appends before.output.written after.output.written
      (front_by writer drawn (unlocked_to reader bytes) (judged_by reader bytes).unlocked
      (content (judged_by reader bytes)))
  pub unfinished : IsNoMessage
      (front_by writer drawn (unlocked_to reader bytes) (judged_by reader bytes).unlocked
      (content (judged_by reader bytes)))
      size (length (active others))
  pub line : ReportGains (printed_line (fault_line fault)) before.report after.report

-- ---- what is resealed

-- The input tells these bytes, which are a whole message to the reader. The second tree refuses
-- nothing to its whole context, and a new message has room for its content.
pub record CanBeResealed (reader : Reader) (second : KeyringMeaning) (size : ℕ)
    (input : SourceState) (bytes : List ℕ) : Type 0 where
  pub whole : List KeyValue
  pub only : List KeyValue
  pub key : List ℕ
  pub input_whole : IsWholeInput reader input bytes
  pub unlocked : unlocked_to reader bytes ≡ Unlocks whole only key
  pub unrefused : refusal_over whole second ≡ None
  pub room : HasRoom size (content (judged_by reader bytes))

-- Nor does a count of faults of the shelf or the entropy rise, and none is at its end.
pub record ShelfAndEntropyDontFail (before after : Objects) : Type 0 where
  pub files : Stayed before.shelf.faults after.shelf.faults
  pub drawing : Stayed before.entropy.faults after.entropy.faults

-- ---- rotation

-- The output gained a message with the text of this one, written for each reader who has one of the
-- new keys and is given what the old one's readers are given; and the report the line of its whole
-- context.
pub record ShowsRotated (m : Written) (others : List WrapKeyValue) (size : ℕ)
    (before after : Objects) (code : ℕ) : Type 0 where
  pub rotated : IsRotated m others [] size before.output after.output
  pub shown : ShowsContext m.context code before.report after.report
