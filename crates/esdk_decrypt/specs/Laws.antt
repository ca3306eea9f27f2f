-- What the laws of this crate say of decryptions by a reader, whose input tells its bytes.
use Rattle.std.specs.Prelude.{◌≡◌, ℕ, ◌^◌, ◌<◌, false, List, length, ⊤, Some}
use Rattle.std.specs.Io.KnownBytes.{Appends}
use Rattle.esdk_fields.specs.Counts.{Stayed}
use Rattle.esdk_base.specs.Streams.{SinkState, SourceState}
use Rattle.esdk_fields.specs.declared.faults.Fault.{Fault}
use Rattle.context_codec.specs.Context.{KeyValue}
use Rattle.context_codec.specs.Parts.{holds, only_of}
use Rattle.edk_codec.specs.Entry.{Entry}
use Rattle.keyring_trait.specs.Laws.{AreGiven, AreWrapped, IsEnough}
use Rattle.keyring_trait.specs.Unlocking.{Unlocks, reserved_key}
use Rattle.keyring_trait.specs.Wrapping.{WrapKeyValue}
use Rattle.body_format.specs.declared.verdicts.Verdict.TheVariants.{Whole}
use Rattle.message_format.specs.Message.{message, IsWritable}
use Rattle.message_format.specs.Judgement.{content}
use Rattle.message_format.specs.Laws.{IsWithinLimits, whole_of_text}
use Rattle.esdk_decrypt.specs.Decrypt.{fault_at_end, Decrypts, DecryptFindsFault, DecryptEnds}
use Rattle.esdk_decrypt.specs.Told.{Reader, decrypting_by, judged_by, unlocked_to}
use Rattle.esdk_decrypt.specs.declared.errors.DecryptError.{DecryptError}
use Rattle.esdk_decrypt.specs.declared.errors.DecryptError.TheVariants.{Memory}

-- ---- any input

-- The input tells these bytes, of which there are fewer than 2^62, and they are a whole message.
pub record IsWholeInput (reader : Reader) (input : SourceState) (bytes : List ℕ) : Type 0 where
  pub told : input.left ≡ Some bytes
  pub few : length bytes < 2 ^ 62
  pub whole : (judged_by reader bytes).verdict ≡ Whole

-- Where neither the input nor the output fails, nothing but want of memory keeps a whole message
-- from being decrypted. `⊤` stands for what the run left unwritten, which plays no part.
abbrev pub DecryptsWholeInputs : Type 0
DecryptsWholeInputs = (reader : Reader) (input taken : SourceState) (output put : SinkState)
    (bytes : List ℕ) (error : DecryptError)
    → IsWholeInput reader input bytes → Stayed input.faults taken.faults
    → Stayed output.faults put.faults
    → DecryptEnds (decrypting_by reader) input taken output put ⊤ error → error ≡ Memory

-- All of the input is a whole message, the output gained its content, and this is the whole context
-- that it is unlocked with.
pub record IsWholeMessage (reader : Reader) (bytes : List ℕ) (output put : SinkState)
    (context : List KeyValue) : Type 0 where
  pub only : List KeyValue
  pub key : List ℕ
  pub unlocked : unlocked_to reader bytes ≡ Unlocks context only key
  pub whole : (judged_by reader bytes).verdict ≡ Whole
  pub gained : Appends output.written put.written (content (judged_by reader bytes))

-- What is decrypted is all of the input.
abbrev pub DecryptsNothingElse : Type 0
DecryptsNothingElse = (reader : Reader) (input taken : SourceState) (output put : SinkState)
    (context : List KeyValue) (bytes : List ℕ)
    → input.left ≡ Some bytes → Decrypts (decrypting_by reader) input taken output put context
    → IsWholeMessage reader bytes output put context

-- A fault that is answered is that of all of the input, however little of it was taken, and the
-- output gained what the judgement of all of it releases.
abbrev pub NamesTheFirstFault : Type 0
NamesTheFirstFault = (reader : Reader) (input taken : SourceState) (output put : SinkState)
    (bytes : List ℕ) (fault : Fault)
    → input.left ≡ Some bytes → DecryptFindsFault (decrypting_by reader) input taken output put
    fault
    → (fault_at_end (judged_by reader bytes).verdict ≡ Some fault)
    × Appends output.written put.written (content (judged_by reader bytes))

-- ---- what is written

-- A message, by its text, its context with the keys that are required of the reader, the frame
-- length, the data key, the entries that hold it wrapped, and the message id.
pub record Written : Type 0 where
  pub text : List ℕ
  pub context : List KeyValue
  pub required : List (List ℕ)
  pub size : ℕ
  pub key : List ℕ
  pub entries : List Entry
  pub id : List ℕ

abbrev pub written_message : Written → List ℕ
written_message m = message m.text m.context m.required m.size m.key m.entries m.id

-- The message can be written, and doesn't hold the format's own key. It passes no limit of the
-- reader's; its data key is wrapped under the writers' keys, of which the reader has one; the
-- reader is given the required pairs and beside them only pairs of the context, and every key that
-- it requires.
pub record IsWrittenFor (reader : Reader) (writers : List WrapKeyValue) (m : Written) : Type 0 where
  pub writable : IsWritable m.text m.context m.required m.size m.key m.entries m.id
  pub unreserved : holds m.context reserved_key ≡ false
  pub limits : IsWithinLimits reader.settings m.size m.entries
  pub wrapped : AreWrapped writers reader.keys m.context m.key m.entries
  pub enough : IsEnough m.context m.required reader.given
  pub given : AreGiven reader.required reader.given

-- It is unlocked with its whole context, is whole, and one unit is released for each frame.
abbrev pub ReadersJudgeWhatIsWritten : Type 0
ReadersJudgeWhatIsWritten =
    (reader : Reader) (writers : List WrapKeyValue) (m : Written) → IsWrittenFor reader writers m
    → (unlocked_to reader (written_message m)
    ≡ Unlocks m.context (only_of m.required m.context) m.key)
    × (judged_by reader (written_message m) ≡ whole_of_text m.text m.size)

-- What is decrypted of it is its text, with its whole context.
abbrev pub DecryptsToTheText : Type 0
DecryptsToTheText = (reader : Reader) (writers : List WrapKeyValue) (m : Written)
    (input taken : SourceState) (output put : SinkState) (context : List KeyValue)
    → IsWrittenFor reader writers m → input.left ≡ Some (written_message m)
    → Decrypts (decrypting_by reader) input taken output put context
    → Appends output.written put.written m.text × (context ≡ m.context)

-- Where neither the input nor the output fails, nothing but want of memory keeps it from being
-- decrypted.
abbrev pub DecryptsWhatIsWritten : Type 0
DecryptsWhatIsWritten = (reader : Reader) (writers : List WrapKeyValue) (m : Written)
    (input taken : SourceState) (output put : SinkState) (error : DecryptError)
    → IsWrittenFor reader writers m → input.left ≡ Some (written_message m)
    → length (written_message m) < 2 ^ 62 → Stayed input.faults taken.faults
    → Stayed output.faults put.faults
    → DecryptEnds (decrypting_by reader) input taken output put ⊤ error → error ≡ Memory
