-- What the laws of this crate say of resealing: by a reader who holds keys, under other keys, of an
-- input that tells its bytes.
use Rattle.std.specs.Prelude.{◌≡◌, ◌≢◌, ℕ, ◌^◌, ◌<◌, ◌≤◌, List, [], Bool, true, false, length, ⊤}
use Rattle.std.specs.Prelude.{Contains, IfSome, None, Some}
use Rattle.std.specs.Io.KnownBytes.{Appends}
use Rattle.esdk_fields.specs.Counts.{Stayed}
use Rattle.esdk_fields.specs.declared.faults.Fault.{Fault}
use Rattle.esdk_base.specs.Streams.{EntropyState, SinkState, SourceState}
use Rattle.context_codec.specs.Context.{KeyValue}
use Rattle.header_codec.specs.declared.settings.Settings.{Settings}
use Rattle.keyring_trait.specs.Laws.{AreApart, AreGiven, IsEnough, IsSameKey}
use Rattle.keyring_trait.specs.Manager.{ManagerMeaning, request_refusal}
use Rattle.keyring_trait.specs.Materials.{EncMaterialsValue}
use Rattle.keyring_trait.specs.Unlocking.{Unlocking, Unlocks}
use Rattle.keyring_trait.specs.Wrapping.{WrapKeyValue, active}
use Rattle.body_format.specs.declared.verdicts.Verdict.TheVariants.{Going, Whole}
use Rattle.message_format.specs.Judgement.{content, judged}
use Rattle.message_format.specs.Laws.{IsWithinLimits, whole_of_text}
use Rattle.message_format.specs.Message.{IsWritable}
use Rattle.stream_seal.specs.Start.{message_of, most_text, drawn_id, drawn_rest}
use Rattle.esdk_encrypt.specs.Encrypt.{Drew, written_so_far}
use Rattle.esdk_encrypt.specs.Laws.{NoObjectFails}
use Rattle.esdk_encrypt.specs.Told.{Writer, drawn_materials, message_by, writer_of}
use Rattle.esdk_decrypt.specs.Decrypt.{HasContext, fault_at_end}
use Rattle.esdk_decrypt.specs.Laws.{IsWholeInput, IsWrittenFor, Written, written_message}
use Rattle.esdk_decrypt.specs.Told.{Reader, judged_by, unlocked_to}
use Rattle.reseal_core.specs.declared.errors.InputError.{InputError}
use Rattle.reseal_core.specs.declared.errors.InputError.TheVariants as errors
use Rattle.reseal_core.specs.declared.resealer.Resealer.{Resealer}
use Rattle.reseal_core.specs.Front.{front_of, request_for}
use Rattle.reseal_core.specs.Reseal.{ResealEnds, ResealsInput}
use Rattle.reseal_core.specs.Session.{ResealingValue}
use Rattle.reseal_core.specs.Stands.{Stands}
use Rattle.reseal_core.specs.Told.{resealing_told}

-- who writes the new message of what is unlocked with this whole context and these pairs that are
-- only authenticated
abbrev pub new_writer : List WrapKeyValue → ManagerMeaning → ℕ → List KeyValue → List KeyValue
    → Writer
new_writer keys sealing size whole only =
    writer_of keys sealing (request_for whole only) size None

-- No limit is passed by a message in frames of this length with so many entries.
pub record NewMessageIsAllowed (settings : Settings) (size count : ℕ) : Type 0 where
  pub max_keys : IfSome settings.max_keys (λ most. count ≤ most)
  pub max_unit : IfSome settings.max_unit (λ most. size ≤ most)

-- a message in frames of this length has room for the text
abbrev pub HasRoom : ℕ → List ℕ → Type 0
HasRoom size text = length text ≤ most_text size

-- ---- an input that is whole

-- The input tells these bytes, which are a whole message to the reader. The manager of the new
-- message doesn't refuse its whole context, and the new message has room for its content.
pub record IsResealable (reader : Reader) (sealing : ManagerMeaning) (size : ℕ)
    (input : SourceState) (bytes : List ℕ) : Type 0 where
  pub whole : List KeyValue
  pub only : List KeyValue
  pub key : List ℕ
  pub input_whole : IsWholeInput reader input bytes
  pub unlocked : unlocked_to reader bytes ≡ Unlocks whole only key
  pub unrefused : request_refusal sealing whole ≡ None
  pub room : HasRoom size (content (judged_by reader bytes))

-- Where neither an object nor a keyring fails, nothing but want of memory keeps such an input from
-- being resealed. `⊤` stands for what the run left untouched, which plays no part.
abbrev pub ResealsWholeInputs : Type 0
ResealsWholeInputs = (reader : Reader) (keys : List WrapKeyValue) (old new : ManagerMeaning)
    (size : ℕ) (bytes : List ℕ) (input taken : SourceState) (output put : SinkState)
    (entropy spent : EntropyState) (error : InputError)
    → IsResealable reader old size input bytes → Stayed old.faults new.faults
    → NoObjectFails input taken output put entropy spent
    → ResealEnds (resealing_told reader keys old new size) input taken output put entropy spent ⊤ ⊤
    error
    → error ≡ errors.Memory

-- All of the input is a whole message, and this is the whole context that it is unlocked with. The
-- output gained the new message of its content, made with just the bytes that were drawn.
pub record IsResealed (reader : Reader) (keys : List WrapKeyValue) (sealing : ManagerMeaning)
    (size : ℕ) (bytes : List ℕ) (output put : SinkState) (entropy spent : EntropyState)
    (context : List KeyValue) : Type 0 where
  pub only : List KeyValue
  pub key : List ℕ
  pub unlocked : unlocked_to reader bytes ≡ Unlocks context only key
  pub whole : (judged_by reader bytes).verdict ≡ Whole
  pub drawn : List ℕ
  pub drew : Drew (length (active keys)) entropy spent drawn
  pub gained : Appends output.written put.written
      (message_by (new_writer keys sealing size context only) drawn
      (content (judged_by reader bytes)))

-- What is resealed is all of the input.
abbrev pub ResealsNothingElse : Type 0
ResealsNothingElse = (reader : Reader) (keys : List WrapKeyValue) (old new : ManagerMeaning)
    (size : ℕ) (bytes : List ℕ) (input taken : SourceState) (output put : SinkState)
    (entropy spent : EntropyState) (context : List KeyValue)
    → input.left ≡ Some bytes
    → ResealsInput (resealing_told reader keys old new size) input taken output put entropy spent
    context
    → IsResealed reader keys old size bytes output put entropy spent context

-- ---- an input with a fault

-- What is written of the new message while the old one goes on, which releases this text so far:
-- once it is unlocked the header and all frames of the text but the last; before that nothing.
-- `writer` says who writes over a whole context with these pairs only authenticated.
abbrev pub front_by : (List KeyValue → List KeyValue → Writer) → List ℕ → Unlocking → Bool → List ℕ
    → List ℕ
front_by writer drawn (Unlocks whole only key) true text =
    written_so_far (drawn_materials (writer whole only) (drawn_rest drawn)) (writer whole only).size
    (drawn_id drawn) text
front_by writer drawn answer unlocked text = []

-- Nobody judges the bytes as a whole message who allows so many entries and frames of this length,
-- whatever is answered to their header: also with another data key. Four bytes hold the frame
-- length.
abbrev pub IsNoMessage : List ℕ → ℕ → ℕ → Type 0
IsNoMessage bytes size count = 1 ≤ size → size < 2 ^ 32
    → (settings : Settings) (answer : Unlocking) → NewMessageIsAllowed settings size count
    → (judged bytes settings answer).verdict ≢ Whole

-- All of the input has this fault. The output gained what is written of what it releases, without
-- the last frame; and that is no message.
pub record HasFaultAndFront (reader : Reader) (keys : List WrapKeyValue) (sealing : ManagerMeaning)
    (size : ℕ) (bytes : List ℕ) (output put : SinkState) (entropy spent : EntropyState)
    (fault : Fault) : Type 0 where
  pub cause : fault_at_end (judged_by reader bytes).verdict ≡ Some fault
  pub drawn : List ℕ
  pub drew : Drew (length (active keys)) entropy spent drawn
  pub gained : Appends output.written put.written
      (front_by (new_writer keys sealing size) drawn (unlocked_to reader bytes)
      (judged_by reader bytes).unlocked (content (judged_by reader bytes)))
  pub unfinished : IsNoMessage
      (front_by (new_writer keys sealing size) drawn (unlocked_to reader bytes)
      (judged_by reader bytes).unlocked (content (judged_by reader bytes)))
      size (length (active keys))

-- A fault that is answered is that of all of the input, however little of it was taken.
abbrev pub ResealNamesTheFirstFault : Type 0
ResealNamesTheFirstFault = (reader : Reader) (keys : List WrapKeyValue) (old new : ManagerMeaning)
    (size : ℕ) (bytes : List ℕ) (input taken : SourceState) (output put : SinkState)
    (entropy spent : EntropyState) (fault : Fault)
    → input.left ≡ Some bytes
    → ResealEnds (resealing_told reader keys old new size) input taken output put entropy spent ⊤ ⊤
    (errors.Fault fault)
    → HasFaultAndFront reader keys old size bytes output put entropy spent fault

-- Of what is written while the old message goes on, whoever judges the new message of that text as
-- whole wants more bytes.
abbrev pub WrittenFrontsGoOn : Type 0
WrittenFrontsGoOn = (m : EncMaterialsValue) (size : ℕ) (random text : List ℕ) (settings : Settings)
    (answer : Unlocking) → 1 ≤ size
    → (judged (message_of m size (drawn_id random) text) settings answer).verdict ≡ Whole
    → (judged (front_of (Some m) size random text) settings answer).verdict ≡ Going

-- And nobody judges it as whole whose limits the new message keeps, whatever is answered to its
-- header: also with another data key.
abbrev pub LeavesNoMessage : Type 0
LeavesNoMessage = (m : EncMaterialsValue) (size : ℕ) (random text : List ℕ) (settings : Settings)
    (answer : Unlocking)
    → IsWritable text m.context m.required size m.key m.entries (drawn_id random)
    → IsWithinLimits settings size m.entries
    → (judged (front_of (Some m) size random text) settings answer).verdict ≢ Whole

-- ---- rotation

-- A reader of what a message was resealed to. He has one of the new keys that wrap, and no other
-- key of his shares namespace and name with one of them. The new message passes none of his limits.
-- He is given what a reader of the old message has to be given, and beside it only pairs of its
-- context; and every key that he requires, and that the manager of the new message demands.
pub record ReadsNew (m : Written) (keys : List WrapKeyValue) (demands : List (List ℕ)) (size : ℕ)
    (reader : Reader) : Type 0 where
  pub writer : WrapKeyValue
  pub own : WrapKeyValue
  pub written : Contains (active keys) writer
  pub held : Contains reader.keys own
  pub shared : IsSameKey writer own
  pub apart : AreApart (active keys) reader.keys
  pub allowed : NewMessageIsAllowed reader.settings size (length (active keys))
  pub enough : IsEnough m.context m.required reader.given
  pub demanded : AreGiven demands reader.given
  pub given : AreGiven reader.required reader.given

-- He judges the bytes as a whole message with this text, and unlocks them with this whole context.
pub record ReadsAs (reader : Reader) (bytes text : List ℕ) (context : List KeyValue) (size : ℕ)
    : Type 0 where
  pub unlocked : HasContext (unlocked_to reader bytes) context
  pub whole : judged_by reader bytes ≡ whole_of_text text size
  pub text_is : content (judged_by reader bytes) ≡ text

-- The output gained a message that is written for each such reader: he reads the old message's text
-- and its whole context.
pub record IsRotated (m : Written) (keys : List WrapKeyValue) (demands : List (List ℕ)) (size : ℕ)
    (output put : SinkState) : Type 0 where
  pub new : Written
  pub gained : Appends output.written put.written (written_message new)
  pub written : (reader : Reader) → ReadsNew m keys demands size reader
      → IsWrittenFor reader (active keys) new
  pub reads : (reader : Reader) → ReadsNew m keys demands size reader
      → ReadsAs reader (written_message new) m.text m.context size

-- What a message is resealed to that was written for the reader.
abbrev pub ResealRotatesWhatIsWritten : Type 0
ResealRotatesWhatIsWritten = (reader : Reader) (writers keys : List WrapKeyValue) (m : Written)
    (old new : ManagerMeaning) (size : ℕ) (input taken : SourceState) (output put : SinkState)
    (entropy spent : EntropyState) (context : List KeyValue)
    → IsWrittenFor reader writers m → 1 ≤ size → size < 2 ^ 32
    → input.left ≡ Some (written_message m)
    → ResealsInput (resealing_told reader keys old new size) input taken output put entropy spent
    context
    → (context ≡ m.context) × IsRotated m keys old.demands size output put

-- ---- a resealer's random bytes

-- Of two sessions that one resealer stands for, and that go on, the random bytes are the same, and
-- so is the frame length.
abbrev pub KeepsRandomBytes : Type 0
KeepsRandomBytes = (resealer : Resealer) (v w : ResealingValue) → Stands resealer v
    → Stands resealer w → v.stopped ≡ false → (w.random ≡ v.random) × (w.size ≡ v.size)
