-- What follows of the program as a function, without an object.
use Rattle.std.specs.Prelude.{◌≡◌, ◌⊎◌, ◌↔◌, ℕ, ◌+◌, ◌^◌, ◌<◌, ◌≤◌, List, [], ◌∷◌, ◌++◌, length}
use Rattle.std.specs.Prelude.{true, Option, None, Some, All}
use Rattle.esdk_args.specs.declared.request.ResealWords.{ResealWords}
use Rattle.esdk_fields.specs.Bytes.{AreBytes}
use Rattle.esdk_fields.specs.declared.faults.Fault.{Fault}
use Rattle.context_codec.specs.Context.{KeyValue}
use Rattle.context_codec.specs.Parts.{only_of}
use Rattle.header_codec.specs.Header.{HeaderValue, no_limits}
use Rattle.keyring_trait.specs.Keyring.{KeyringMeaning}
use Rattle.keyring_trait.specs.Unlocking.{Unlocks}
use Rattle.keyring_trait.specs.Wrapping.{WrapKeyValue, active}
use Rattle.armour_core.specs.ArmourText.{armour_text}
use Rattle.armour_core.specs.Outlook.{Outlook}
use Rattle.armour_core.specs.declared.text_end.TextEnd.TheVariants.{Whole}
use Rattle.esdk_encrypt.specs.Encrypt.{drawn_count}
use Rattle.esdk_encrypt.specs.Told.{message_by}
use Rattle.esdk_decrypt.specs.Laws.{IsWrittenFor, Written, written_message}
use Rattle.esdk_decrypt.specs.Told.{Reader, judged_by, unlocked_to}
use Rattle.reseal_core.specs.Laws.{HasRoom, ReadsNew}
use Rattle.extract_core.specs.Extract.{IsHeaderOf}
use Rattle.extract_core.specs.Extracted.{ByteRange, in_range}
use Rattle.extract_core.specs.Laws.{EndsAsItBegins}
use Rattle.audit_core.specs.Laws.{StandsIn}
use Rattle.audit_core.specs.Messages.{Message, audited}
use Rattle.esdk_report.specs.Report.{context_line}
use Rattle.esdk_run.specs.Giving.{refusal_over}
use Rattle.esdk_run.specs.ResealTold.{reseal_writer}
use Rattle.esdk_run.specs.Unarmoured.{outlook_of}
use Rattle.esdk_program.specs.Effect.{Effect, done_with}
use Rattle.esdk_program.specs.Program.{judged_effect, part_with, range_of_file, resealed_by}

-- ---- `decrypt`

-- an input of just these bytes
abbrev pub just : List ℕ → Outlook
just bytes = record { bytes = bytes; end = Whole }

-- What `decrypt` does of a message that was written for one of the reader's keys and for its pairs:
-- its text, and the line of its whole context.
abbrev pub OpensWhatIsWritten : Type 0
OpensWhatIsWritten = (reader : Reader) (writers : List WrapKeyValue) (m : Written)
    → IsWrittenFor reader writers m
    → judged_effect reader (just (written_message m)) ≡ done_with m.text (context_line m.context)

-- The same of its armour text.
abbrev pub OpensWhatIsArmoured : Type 0
OpensWhatIsArmoured = (reader : Reader) (writers : List WrapKeyValue) (m : Written)
    → IsWrittenFor reader writers m → AreBytes (written_message m)
    → length (armour_text (written_message m)) < 2 ^ 62
    → judged_effect reader (outlook_of true (armour_text (written_message m)))
    ≡ done_with m.text (context_line m.context)

-- ---- `reseal`

-- What an entry says of the key is short, as of each key of a keyring file.
abbrev pub HasShortNames : WrapKeyValue → Type 0
HasShortNames w = (length w.namespace ≤ 1024) × (length w.name ≤ 1024)

-- One of these keys wraps at least, and 64 at the most, under short names; and as many bytes were
-- drawn as they want.
pub record CanWrap (keys : List WrapKeyValue) (drawn : List ℕ) : Type 0 where
  pub some : 1 ≤ length (active keys)
  pub few : length (active keys) ≤ 64
  pub named : All HasShortNames (active keys)
  pub count : length drawn ≡ drawn_count (length (active keys))

-- A message, its reader, and the keys that it was written for; the words of `reseal`, the second
-- tree and its keys, and the bytes drawn.
pub record Rotation : Type 0 where
  pub old : Written
  pub reader : Reader
  pub writers : List WrapKeyValue
  pub asked : ResealWords
  pub second : KeyringMeaning
  pub others : List WrapKeyValue
  pub drawn : List ℕ

-- The message was written for the reader, the second tree's keys can wrap, and four bytes hold the
-- new frame length.
pub record CanRotate (r : Rotation) : Type 0 where
  pub written : IsWrittenFor r.reader r.writers r.old
  pub wraps : CanWrap r.others r.drawn
  pub wide : 1 ≤ r.asked.frame
  pub narrow : r.asked.frame < 2 ^ 32

-- what `reseal` does of the message
abbrev pub rotation_effect : Rotation → Effect
rotation_effect r =
    resealed_by r.reader r.second (reseal_writer r.asked r.others) r.drawn (written_message r.old)

-- Where the second tree refuses nothing to the whole context, and a new message has room for the
-- text: a new message of it under the second tree's keys, and the line of the whole context.
abbrev pub ResealsWhatIsWritten : Type 0
ResealsWhatIsWritten = (r : Rotation) → CanRotate r → refusal_over r.old.context r.second ≡ None
    → HasRoom r.asked.frame r.old.text
    → rotation_effect r ≡ done_with (message_by (reseal_writer r.asked r.others r.old.context
    (only_of r.old.required r.old.context)) r.drawn r.old.text) (context_line r.old.context)

-- A message of the old text over the old whole context. It is written for each reader who has one
-- of the new keys, sets no limit that it passes, and is given what the old message's readers are
-- given.
pub record IsRewritten (r : Rotation) (output : List ℕ) : Type 0 where
  pub new : Written
  pub is : output ≡ written_message new
  pub text : new.text ≡ r.old.text
  pub context : new.context ≡ r.old.context
  pub written : (reader : Reader) → ReadsNew r.old r.others [] r.asked.frame reader
      → IsWrittenFor reader (active r.others) new

-- That is what `reseal` writes at status 0.
abbrev pub RewritesForNewReaders : Type 0
RewritesForNewReaders = (r : Rotation) → CanRotate r → (rotation_effect r).code ≡ 0
    → IsRewritten r (rotation_effect r).output

-- So `decrypt` opens it for each such reader: the old text, and the old whole context.
abbrev pub OpensWhatIsResealed : Type 0
OpensWhatIsResealed = (r : Rotation) (reader : Reader) → CanRotate r → (rotation_effect r).code ≡ 0
    → ReadsNew r.old r.others [] r.asked.frame reader
    → judged_effect reader (just (rotation_effect r).output)
    ≡ done_with r.old.text (context_line r.old.context)

-- ---- `extract`

-- Where `decrypt` opens a message, `extract` writes the bytes of the range that its text has: none,
-- where the range begins at its end or behind it.
abbrev pub ExtractsOfTheText : Type 0
ExtractsOfTheText = (reader : Reader) (range : ByteRange) (bytes text line : List ℕ)
    → AreBytes bytes → judged_effect reader (just bytes) ≡ done_with text line
    → (range_of_file reader range (Some bytes)).output ≡ in_range range 0 text

-- And that is all, where the range is empty or begins within the text.
abbrev pub ExtractsWithinTheText : Type 0
ExtractsWithinTheText = (reader : Reader) (range : ByteRange) (bytes text line : List ℕ)
    → AreBytes bytes → judged_effect reader (just bytes) ≡ done_with text line
    → (range.count ≡ 0) ⊎ (range.at < length text)
    → range_of_file reader range (Some bytes) ≡ done_with (in_range range 0 text) []

-- The range of the text is written, and where it begins among the message's slots says how it ends:
-- without a fault, or behind them with M10, and rarely with M18.
pub record RangeOfText (reader : Reader) (range : ByteRange) (bytes text : List ℕ) : Type 0 where
  pub header : HeaderValue
  pub stands : IsHeaderOf reader.settings header bytes
  pub fault : Option Fault
  pub ends : EndsAsItBegins header.content range (judged_by reader bytes).units fault
  pub does : range_of_file reader range (Some bytes) ≡ part_with (in_range range 0 text) fault

-- So it is of each range.
abbrev pub ExtractsAsItBegins : Type 0
ExtractsAsItBegins = (reader : Reader) (range : ByteRange) (bytes text line : List ℕ)
    → AreBytes bytes → judged_effect reader (just bytes) ≡ done_with text line
    → RangeOfText reader range bytes text

-- ---- `audit`

-- who has the keys of one leaf alone, is given these pairs, and sets no limits
abbrev pub leaf_reader : List WrapKeyValue → List KeyValue → Reader
leaf_reader keys given =
    record { keys = keys; settings = no_limits; given = given; required = [] }

-- The reader unlocks the header of these bytes, with this whole context.
pub record UnlocksHeader (reader : Reader) (bytes : List ℕ) : Type 0 where
  pub context : List KeyValue
  pub only : List KeyValue
  pub key : List ℕ
  pub answer : unlocked_to reader bytes ≡ Unlocks context only key
  pub unlocked : (judged_by reader bytes).unlocked ≡ true

-- A leaf stands in the audit's line of a message exactly where its keys alone unlock the header.
abbrev pub ListsWhoUnlocks : Type 0
ListsWhoUnlocks = (before behind : List (List WrapKeyValue)) (keys : List WrapKeyValue)
    (m : Message)
    → StandsIn (audited (before ++ keys ∷ behind) m) (length before + 1)
    ↔ UnlocksHeader (leaf_reader keys m.given) m.bytes

-- So it does where `decrypt` opens the message with its keys alone.
abbrev pub ListsWhoOpens : Type 0
ListsWhoOpens = (before behind : List (List WrapKeyValue)) (keys : List WrapKeyValue)
    (m : Message) (text line : List ℕ)
    → judged_effect (leaf_reader keys m.given) (just m.bytes) ≡ done_with text line
    → StandsIn (audited (before ++ keys ∷ behind) m) (length before + 1)
