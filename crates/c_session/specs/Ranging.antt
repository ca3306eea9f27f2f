-- A range of a message's text, of which a caller hands over the bytes: a question, which begins no
-- message and ends no session. What a range of a message is, the program's command `extract` says,
-- too: each slot is opened after its tag was found right.
use Rattle.std.specs.Prelude.{◌≡◌, ◌⊎◌, ℕ, ◌<◌, ◌^◌, List, [], ⊤, Bool, Some, None, Result, Ok, Err}
use Rattle.esdk_fields.specs.declared.faults.Fault.{Fault}
use Rattle.esdk_fields.specs.declared.refusals.Outside.TheVariants as outsides
use Rattle.header_codec.specs.declared.settings.Settings.{Settings}
use Rattle.header_codec.specs.Header.{HeaderValue}
use Rattle.keyring_trait.specs.declared.manager_errors.ManagerError.TheVariants as managers
use Rattle.keyring_trait.specs.Manager.{Went}
use Rattle.keyring_trait.specs.Unlocking.{Unlocking}
use Rattle.message_format.specs.Unlocking.{request_of}
use Rattle.esdk_decrypt.specs.Decrypt.{AnswersTo, DecryptAsked, asked_from}
use Rattle.extract_core.specs.declared.errors.ExtractError.{ExtractError}
use Rattle.extract_core.specs.declared.errors.ExtractError.TheVariants as extracts
use Rattle.extract_core.specs.Extract.{IsHeaderOf, range_of}
use Rattle.extract_core.specs.Extracted.{ByteRange, extracted}
use Rattle.c_session.specs.declared.answer.Answer.TheVariants as answers
use Rattle.c_session.specs.declared.file_session.Kept.{Kept}
use Rattle.c_session.specs.declared.file_session.Kept.TheVariants as kepts
use Rattle.c_session.specs.declared.no_range.NoRange.{NoRange}
use Rattle.c_session.specs.declared.no_range.NoRange.TheVariants as errors
use Rattle.c_session.specs.declared.reason.Reason.TheVariants as reasons
use Rattle.c_session.specs.declared.session.Session.{Session}
use Rattle.c_session.specs.FileTree.{Tree, file_state}
use Rattle.session_parts.specs.Handed.{HandedPart, HasHanded}
use Rattle.session_parts.specs.Limits.{reader_settings}
use Rattle.c_session.specs.Session.{asked, setting_answer, with_its_keys}

-- ---- of a message

-- The manager answered so to the message's header, and this is what the range has of its content
-- then; no fault ends it.
pub record IsRangeOf (question : DecryptAsked) (range : ByteRange) (text message : List ℕ)
    : Type 0 where
  pub answer : Unlocking
  pub answered : AnswersTo question.manager question.settings question.given message answer
  pub sound : (extracted message question.settings answer range).fault ≡ None
  pub all : text ≡ (extracted message question.settings answer range).part

-- The manager answered so, and this fault ends the range then, or stands before it.
pub record HasFault (question : DecryptAsked) (range : ByteRange) (fault : Fault) (message : List ℕ)
    : Type 0 where
  pub answer : Unlocking
  pub answered : AnswersTo question.manager question.settings question.given message answer
  pub fault_is : (extracted message question.settings answer range).fault ≡ Some fault

-- so it is of each message that has what was handed over
abbrev pub OnMessages : HandedPart → (List ℕ → Type 0) → Type 0
OnMessages h so = (message : List ℕ) → HasHanded h message → so message

-- The message has this header, and the manager failed when it was asked about it.
pub record ManagerFails (question : DecryptAsked) (h : HandedPart) : Type 0 where
  pub header : HeaderValue
  pub is : OnMessages h (IsHeaderOf question.settings header)
  pub failed : question.manager.finds_none (request_of question.given header) managers.KeyringFault

-- The range comes, or a fault of the message, or of its answer; or the manager failed; or bytes are
-- wanted that weren't handed over, or memory.
abbrev pub RangeComes : DecryptAsked → HandedPart → ByteRange → Result (List ℕ) NoRange → Type 0
RangeComes question h range (Ok text) = OnMessages h (IsRangeOf question range text)
RangeComes question h range (Err (errors.Reason (reasons.Fault fault))) =
    OnMessages h (HasFault question range fault)
RangeComes question h range (Err (errors.Reason reasons.Keyring)) = ManagerFails question h
RangeComes question h range (Err (errors.Reason reasons.Memory)) = ⊤
RangeComes question h range (Err errors.Missing) = ⊤
RangeComes question h range (Err error) = ⊥

-- ---- of a session

-- The session's manager with these keys, which it requires, was asked with the session's pairs as
-- those given; and this is how it was left. The session stays as it is, but for what its keyrings
-- count: it is set up still.
pub record TakesRange (old new : Session Tree) (manager : Tree × List (List ℕ)) (h : HandedPart)
    (settings : Settings) (range : ByteRange) (came : Result (List ℕ) NoRange) : Type 0 where
  pub left : Tree × List (List ℕ)
  pub comes : RangeComes (asked_from (asked file_state manager) (asked file_state left) 0 settings
      old.pairs) h range came
  pub went : Went (asked file_state manager) (asked file_state left)
  pub same : new ≡ record old { manager = (left.0, []) }

-- The session is set up, and its manager was asked; or it isn't, or the range is too far off, and
-- it wasn't; or memory ran out.
abbrev pub RangesSession : Session Tree → Session Tree → HandedPart → Settings → ByteRange
    → Result (List ℕ) NoRange → Type 0
RangesSession old new h settings range (Err (errors.Call answer)) =
    (setting_answer old ≡ Some answer) × (new ≡ old)
RangesSession old new h settings range (Err errors.TooFar) = (setting_answer old ≡ None)
    × ((2 ^ 62 < range.at) ⊎ (2 ^ 62 < range.count)) × (new ≡ old)
RangesSession old new h settings range (Err (errors.Reason reasons.Memory)) =
    (setting_answer old ≡ None) × ((new ≡ old)
    ⊎ TakesRange old new (with_its_keys old) h settings range (Err (errors.Reason reasons.Memory)))
RangesSession old new h settings range came = (setting_answer old ≡ None)
    × TakesRange old new (with_its_keys old) h settings range came

-- So it is of a session whose file was read; any other has ended.
abbrev pub AsksRange : Kept → Kept → HandedPart → Bool → ℕ → ℕ → Result (List ℕ) NoRange → Type 0
AsksRange (kepts.Refused reason) new h uncommitted at count came =
    (came ≡ Err (errors.Call answers.Ended)) × (new ≡ kepts.Refused reason)
AsksRange (kepts.Read old) new h uncommitted at count came = (s : Session Tree)
    × (new ≡ kepts.Read s)
    × RangesSession old s h (reader_settings 0 0 uncommitted) (range_of at count) came

-- ---- what an extraction's error is called

abbrev pub unextracted_as : ExtractError → NoRange
unextracted_as (extracts.Fault fault) = errors.Reason (reasons.Fault fault)
unextracted_as (extracts.Outside outsides.ShelfFault) = errors.Missing
unextracted_as (extracts.Outside outsides.KeyringFault) = errors.Reason reasons.Keyring
unextracted_as (extracts.Outside outside) = errors.Reason reasons.Memory
unextracted_as extracts.Memory = errors.Reason reasons.Memory
