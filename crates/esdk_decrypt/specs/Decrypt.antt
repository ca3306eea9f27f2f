-- What decrypting an input comes to. Standard: AWS Encryption SDK Specification, "Decrypt".
use Rattle.std.specs.Prelude.{◌≡◌, ◌⊎◌, ℕ, ◌≤◌, List, ◌++◌, length, true, false, Option, Some, None}
use Rattle.std.specs.Io.KnownBytes.{Appends}
use Rattle.esdk_fields.specs.Counts.{Rose}
use Rattle.esdk_base.specs.Streams.{SinkState, SourceState}
use Rattle.esdk_fields.specs.declared.faults.Fault.{Fault}
use Rattle.esdk_fields.specs.declared.faults.Fault.TheVariants.{Truncated}
use Rattle.esdk_fields.specs.declared.refusals.Outside.{Outside}
use Rattle.esdk_fields.specs.declared.refusals.Outside.TheVariants as outsides
use Rattle.esdk_fields.specs.Place.{start}
use Rattle.esdk_fields.specs.Reading.{Reading, Read, Refused, Wanting}
use Rattle.header_codec.specs.declared.settings.Settings.{Settings}
use Rattle.header_codec.specs.Table.{HeaderFields, head, header}
use Rattle.context_codec.specs.Context.{KeyValue}
use Rattle.keyring_trait.specs.declared.manager_errors.ManagerError.{ManagerError}
use Rattle.keyring_trait.specs.declared.manager_errors.ManagerError.TheVariants as managers
use Rattle.keyring_trait.specs.declared.served.Served.{Served}
use Rattle.keyring_trait.specs.Manager.{ManagerNow}
use Rattle.keyring_trait.specs.Materials.{DecMaterialsValue}
use Rattle.keyring_trait.specs.Requests.{DecRequestValue}
use Rattle.keyring_trait.specs.Saying.{Saying, said_last}
use Rattle.keyring_trait.specs.Unlocking.{Unlocking, Refuses, Unlocks}
use Rattle.body_format.specs.declared.verdicts.Verdict.{Verdict}
use Rattle.body_format.specs.declared.verdicts.Verdict.TheVariants as verdicts
use Rattle.message_format.specs.Judgement.{content, header_of, judged}
use Rattle.stream_open.specs.Asking.{request_of}
use Rattle.stream_open.specs.Session.{is_framed}
use Rattle.whole_input.specs.Pieces.{APieceBehind, most_piece}
use Rattle.whole_input.specs.Taken.{Came, EndSeen, MostTaken}
use Rattle.whole_input.specs.Written.{WritesBeyond}
use Rattle.esdk_decrypt.specs.declared.errors.DecryptError.{DecryptError}
use Rattle.esdk_decrypt.specs.declared.errors.DecryptError.TheVariants as errors

-- ---- what a manager answers to a header

-- What may be answered at one moment: the materials that are found, or why none are.
pub record Answering : Type 1 where
  pub finds : DecRequestValue → DecMaterialsValue → Type 0
  pub finds_none : DecRequestValue → ManagerError → Type 0

-- what is so of what a manager may say
abbrev pub answers_at : Saying → ℕ → Answering
answers_at manager now = record {
  finds = λ request materials. manager.finds request now materials;
  finds_none = manager.finds_none;
}

-- what a manager that was so and is so now may have answered last
abbrev pub answering_of : ManagerNow → ManagerNow → ℕ → Answering
answering_of old new now = answers_at (said_last old new) now

-- the answer is that of materials that the manager finds, or of the fault that it names
abbrev pub AnswersRequest : Answering → DecRequestValue → Unlocking → Type 0
AnswersRequest manager request (Unlocks whole only key) =
    (served : Served) × manager.finds request (record {
      context = whole;
      only = only;
      key = key;
      served = served;
    })
AnswersRequest manager request (Refuses fault) = manager.finds_none request (managers.Fault fault)

-- The answer is the manager's to the header that was read. Where there is none, nothing depends on
-- the answer: it is the header's fault, or that bytes are missing.
abbrev pub AnswersReading : Answering → List KeyValue → List ℕ → Reading HeaderFields → Unlocking
    → Type 0
AnswersReading manager given bytes (Read parts body) answer =
    AnswersRequest manager (request_of given (header_of bytes parts)) answer
AnswersReading manager given bytes (Refused fault at) answer = answer ≡ Refuses fault
AnswersReading manager given bytes Wanting answer = answer ≡ Refuses Truncated

-- the answer is the manager's to the header at the front of the bytes
abbrev pub AnswersTo : Answering → Settings → List KeyValue → List ℕ → Unlocking → Type 0
AnswersTo manager settings given bytes answer =
    AnswersReading manager given bytes (header settings (start bytes)) answer

-- the manager failed when it was asked about the header that was read
abbrev pub FailsReading : Answering → List KeyValue → List ℕ → Reading HeaderFields → Type 0
FailsReading manager given bytes (Read parts body) =
    manager.finds_none (request_of given (header_of bytes parts)) managers.KeyringFault
FailsReading manager given bytes (Refused fault at) = ⊥
FailsReading manager given bytes Wanting = ⊥

-- the manager failed when it was asked about the header at the front of the bytes
abbrev pub FailsTo : Answering → Settings → List KeyValue → List ℕ → Type 0
FailsTo manager settings given bytes =
    FailsReading manager given bytes (header settings (start bytes))

-- ---- how bytes are judged

-- the fault of bytes that are judged so, if no more follow
abbrev pub fault_at_end : Verdict → Option Fault
fault_at_end verdicts.Going = Some Truncated
fault_at_end verdicts.Whole = None
fault_at_end (verdicts.Faulty fault) = Some fault

-- the fault of bytes that are judged so, whatever follows
abbrev pub fault_of : Verdict → Option Fault
fault_of verdicts.Going = None
fault_of verdicts.Whole = None
fault_of (verdicts.Faulty fault) = Some fault

-- What a run is about: what the manager may answer, the limits, and the pairs that are given.
pub record DecryptAsked : Type 1 where
  pub manager : Answering
  pub settings : Settings
  pub given : List KeyValue

-- the run that began when the manager was so, and has come to where it is so now
abbrev pub asked_from : ManagerNow → ManagerNow → ℕ → Settings → List KeyValue → DecryptAsked
asked_from old new now settings given =
    record { manager = answering_of old new now; settings = settings; given = given }

-- These bytes were taken, the manager answered so to their header, and the output gained what their
-- judgement releases then.
pub record Releases (asked : DecryptAsked) (input taken : SourceState) (output put : SinkState)
    (bytes : List ℕ) (answer : Unlocking) : Type 0 where
  pub came : Came input taken bytes
  pub answered : AnswersTo asked.manager asked.settings asked.given bytes answer
  pub gained : Appends output.written put.written (content (judged bytes asked.settings answer))

-- The whole input was taken, is a whole message, the output gained its content, and this is its
-- whole context.
pub record Decrypts (asked : DecryptAsked) (input taken : SourceState) (output put : SinkState)
    (context : List KeyValue) : Type 0 where
  pub bytes : List ℕ
  pub only : List KeyValue
  pub key : List ℕ
  pub releases : Releases asked input taken output put bytes (Unlocks context only key)
  pub end : EndSeen input taken bytes
  pub whole : (judged bytes asked.settings (Unlocks context only key)).verdict ≡ verdicts.Whole

-- The bytes taken have this fault, or the whole input was taken and has it; those before the last
-- piece have none. The output gained what was released before. No read failed.
pub record DecryptFindsFault (asked : DecryptAsked) (input taken : SourceState)
    (output put : SinkState) (fault : Fault) : Type 0 where
  pub bytes : List ℕ
  pub answer : Unlocking
  pub releases : Releases asked input taken output put bytes answer
  pub faults : taken.faults ≡ input.faults
  pub cause : (fault_of (judged bytes asked.settings answer).verdict ≡ Some fault)
      ⊎ (EndSeen input taken bytes × (fault_at_end (judged bytes asked.settings answer).verdict
      ≡ Some fault))
  pub last : APieceBehind (λ before. fault_of (judged before asked.settings answer).verdict ≡ None)
      bytes

-- The bytes taken have no fault, and a read failed. The output gained what was released before.
pub record DecryptSourceFails (asked : DecryptAsked) (input taken : SourceState)
    (output put : SinkState) : Type 0 where
  pub bytes : List ℕ
  pub answer : Unlocking
  pub releases : Releases asked input taken output put bytes answer
  pub sound : fault_of (judged bytes asked.settings answer).verdict ≡ None
  pub rose : Rose input.faults taken.faults

-- 2^62 bytes were taken, and have no fault. The output gained what was released before.
pub record DecryptInputIsTooLong (asked : DecryptAsked) (input taken : SourceState)
    (output put : SinkState) : Type 0 where
  pub bytes : List ℕ
  pub answer : Unlocking
  pub releases : Releases asked input taken output put bytes answer
  pub sound : fault_of (judged bytes asked.settings answer).verdict ≡ None
  pub most : MostTaken input taken bytes

-- Bytes that come first have no fault and all that they release was written, but only a front of
-- what all bytes release beyond it.
pub record ReleasesBeyond (settings : Settings) (answer : Unlocking) (output put : SinkState)
    (bytes first : List ℕ) : Type 0 where
  pub sound : fault_of (judged first settings answer).verdict ≡ None
  pub written : WritesBeyond output put (content (judged first settings answer))
      (content (judged bytes settings answer))

-- These bytes were taken, the manager answered so, and what those before the last piece release was
-- written, but not all that the piece releases beyond it. No read failed.
pub record ReleasesFront (asked : DecryptAsked) (input taken : SourceState) (output put : SinkState)
    : Type 0 where
  pub bytes : List ℕ
  pub answer : Unlocking
  pub came : Came input taken bytes
  pub faults : taken.faults ≡ input.faults
  pub answered : AnswersTo asked.manager asked.settings asked.given bytes answer
  pub last : APieceBehind (ReleasesBeyond asked.settings answer output put bytes) bytes

-- These bytes were taken, and the manager failed when it was asked about their header, which the
-- last piece made whole. No read failed.
pub record DecryptManagerFails (asked : DecryptAsked) (input taken : SourceState) : Type 0 where
  pub bytes : List ℕ
  pub came : Came input taken bytes
  pub faults : taken.faults ≡ input.faults
  pub failed : FailsTo asked.manager asked.settings asked.given bytes
  pub last : APieceBehind (λ before. header asked.settings (start before) ≡ Wanting) bytes

-- The manager answered so to the header of these bytes. They have no fault, more are wanted, and
-- they don't reach behind the unlocked header of a framed message.
pub record MayLackMemory (asked : DecryptAsked) (bytes : List ℕ) : Type 0 where
  pub answer : Unlocking
  pub answered : AnswersTo asked.manager asked.settings asked.given bytes answer
  pub going : (judged bytes asked.settings answer).verdict ≡ verdicts.Going
  pub unreserved : (judged bytes asked.settings answer).unlocked ≡ true
      → is_framed (head asked.settings bytes) ≡ false

-- These bytes were taken, and memory ran out at the last of them, at most one piece; it may behind
-- those before.
pub record DecryptLacksMemory (asked : DecryptAsked) (input taken : SourceState) : Type 0 where
  pub before : List ℕ
  pub last : List ℕ
  pub came : Came input taken (before ++ last)
  pub few : length last ≤ most_piece
  pub lacks : MayLackMemory asked before

-- Why an outside object ended the run, and what it left; `unwritten` says that the output is as
-- before.
abbrev pub FailsOutside : DecryptAsked → SourceState → SourceState → SinkState → SinkState → Type 0
    → Outside → Type 0
FailsOutside asked input taken output put unwritten outsides.SourceFault =
    DecryptSourceFails asked input taken output put
FailsOutside asked input taken output put unwritten outsides.SinkFault =
    ReleasesFront asked input taken output put × Rose output.faults put.faults
FailsOutside asked input taken output put unwritten outsides.KeyringFault =
    DecryptManagerFails asked input taken × unwritten
FailsOutside asked input taken output put unwritten outsides.InputTooLong =
    DecryptInputIsTooLong asked input taken output put
FailsOutside asked input taken output put unwritten outside = ⊥

-- Why an input wasn't decrypted, and what that left. Where memory ran out nothing was written.
abbrev pub DecryptEnds : DecryptAsked → SourceState → SourceState → SinkState → SinkState → Type 0
    → DecryptError → Type 0
DecryptEnds asked input taken output put unwritten (errors.Fault fault) =
    DecryptFindsFault asked input taken output put fault
DecryptEnds asked input taken output put unwritten (errors.Outside outside) =
    FailsOutside asked input taken output put unwritten outside
DecryptEnds asked input taken output put unwritten errors.Memory =
    DecryptLacksMemory asked input taken × unwritten

-- the answer has this whole context
abbrev pub HasContext : Unlocking → List KeyValue → Type 0
HasContext answer context =
    (only : List KeyValue) × (key : List ℕ) × (answer ≡ Unlocks context only key)
