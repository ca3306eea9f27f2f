-- What extracting a range of a message comes to, which stands in a file of a shelf. Standard: AWS
-- Encryption SDK Specification, "Decrypt".
use Rattle.std.specs.Prelude.{◌≡◌, ◌⊎◌, ℕ, ◌+◌, ◌≤◌, List, length, false, true, Option, Some, None}
use Rattle.std.specs.Io.KnownBytes.{Appends}
use Rattle.esdk_fields.specs.Counts.{Rose}
use Rattle.esdk_fields.specs.declared.faults.Fault.{Fault}
use Rattle.esdk_fields.specs.declared.faults.Fault.TheVariants.{Truncated}
use Rattle.esdk_fields.specs.declared.refusals.Outside.TheVariants as outsides
use Rattle.esdk_fields.specs.Place.{Place, start}
use Rattle.esdk_fields.specs.Reading.{Reading, Read, Refused, Wanting}
use Rattle.esdk_base.specs.Shelf.{is_missing}
use Rattle.esdk_base.specs.Sink.{AppendsFront}
use Rattle.esdk_base.specs.Streams.{FailsToRead, ShelfState, SinkState}
use Rattle.esdk_seen.specs.Calls.{ShelfCall}
use Rattle.suite_table.specs.declared.suite.Suite.{Suite}
use Rattle.suite_table.specs.declared.suite.Suite.TheVariants.{Committing, Uncommitted}
use Rattle.header_codec.specs.declared.settings.Settings.{Settings}
use Rattle.header_codec.specs.Header.{HeaderValue}
use Rattle.header_codec.specs.Table.{BeginsWith, HeaderFields, head, header}
use Rattle.keyring_trait.specs.declared.manager_errors.ManagerError.TheVariants as managers
use Rattle.keyring_trait.specs.Unlocking.{Unlocking, Refuses, Unlocks}
use Rattle.message_format.specs.Judgement.{header_of, lock_fault}
use Rattle.message_format.specs.Unlocking.{request_of}
use Rattle.message_format.specs.declared.unlock_errors.UnlockError.{UnlockError}
use Rattle.message_format.specs.declared.unlock_errors.UnlockError.TheVariants as locks
use Rattle.header_input.specs.declared.errors.NoHeader.{NoHeader}
use Rattle.header_input.specs.declared.errors.NoHeader.TheVariants as headers
use Rattle.whole_input.specs.declared.pieces.End.TheVariants as ends
use Rattle.whole_input.specs.FileReads.{Grows, IsSeenAs, ReadsRow}
use Rattle.whole_input.specs.Pieces.{most_piece}
use Rattle.esdk_decrypt.specs.Decrypt.{AnswersTo, DecryptAsked}
use Rattle.extract_core.specs.declared.errors.ExtractError.{ExtractError}
use Rattle.extract_core.specs.declared.errors.ExtractError.TheVariants as errors
use Rattle.extract_core.specs.Extracted.{ByteRange, OpenBody, body_behind, extracted, slot_count}
use Rattle.extract_core.specs.Slots.{range_reach, slots_reach}

-- the range that begins at this byte of the content and has so many
abbrev pub range_of : ℕ → ℕ → ByteRange
range_of at count = record { at = at; count = count }

-- what is said of a file: this is so of its bytes, where the shelf tells that it has it; and of any
-- bytes that agree with what its reads gave between the two moments
abbrev pub OnFile : ShelfState → ShelfState → List ℕ → (List ℕ → Type 0) → Type 0
OnFile old new name so = (bytes : List ℕ) → IsSeenAs old new name bytes → so bytes

-- ---- how much is read

-- how many bytes are read for a header at the most: up to a piece behind it, or behind its fault;
-- and of a header that isn't whole all there is
abbrev pub header_reach : List ℕ → Reading HeaderFields → ℕ
header_reach bytes (Read parts body) = body.at + most_piece
header_reach bytes (Refused fault at) = at + most_piece
header_reach bytes Wanting = length bytes

abbrev pub most_header : Settings → List ℕ → ℕ
most_header settings bytes = header_reach bytes (header settings (start bytes))

-- how many are read behind it: those of the slots that the range names
abbrev pub named_reach : Settings → ByteRange → Reading HeaderFields → ℕ
named_reach settings range (Read parts body) =
    slots_reach parts.content settings.max_unit range body.left (slot_count parts.content range)
named_reach settings range (Refused fault at) = 0
named_reach settings range Wanting = 0

-- How many bytes are read of a file at the most, whatever the manager answers.
abbrev pub most_read : Settings → ByteRange → List ℕ → ℕ
most_read settings range bytes =
    most_header settings bytes + named_reach settings range (header settings (start bytes))

-- where the lock is sound, those of the slots that are taken
abbrev pub lock_reach : ByteRange → OpenBody → Option Fault → ℕ
lock_reach range b (Some fault) = 0
lock_reach range b None = range_reach b range

abbrev pub answer_reach : Settings → ByteRange → HeaderValue → Place → Unlocking → ℕ
answer_reach settings range h body (Refuses fault) = 0
answer_reach settings range h body (Unlocks whole only key) =
    lock_reach range (body_behind settings h key body.left) (lock_fault h only key)

abbrev pub taken_reach : List ℕ → Settings → Unlocking → ByteRange → Reading HeaderFields → ℕ
taken_reach bytes settings answer range (Read parts body) =
    answer_reach settings range (header_of bytes parts) body answer
taken_reach bytes settings answer range (Refused fault at) = 0
taken_reach bytes settings answer range Wanting = 0

-- How many bytes are read of a file at the most, when the manager answers so to its header: those
-- for the header, and of the slots only those that are taken.
unfoldable pub most_bytes_read : List ℕ → Settings → Unlocking → ByteRange → ℕ
most_bytes_read bytes settings answer range = most_header settings bytes
    + taken_reach bytes settings answer range (header settings (start bytes))

-- ---- the header

-- how many bytes the authentication of a header has
abbrev pub authentication_size : Suite → ℕ
authentication_size Committing = 16
authentication_size Uncommitted = 28

-- where the body begins behind a header
abbrev pub body_begin : HeaderValue → ℕ
body_begin h = length h.raw + authentication_size h.suite

-- These bytes begin with this header and its authentication.
pub record IsHeaderOf (settings : Settings) (h : HeaderValue) (bytes : List ℕ) : Type 0 where
  pub end : Place
  pub begins : BeginsWith settings bytes h end
  pub begin : end.at ≡ body_begin h

-- The shelf has the file, and it begins with this header; no read failed.
pub record HasHeader (settings : Settings) (old new : ShelfState) (name : List ℕ) (h : HeaderValue)
    : Type 0 where
  pub there : is_missing old.files name ≡ false
  pub is : OnFile old new name (IsHeaderOf settings h)
  pub faults : new.faults ≡ old.faults
  pub given : new.given ≤ old.given + body_begin h + most_piece

-- Between two moments the shelf's first calls read this file in a row, from its front, and a header
-- is whole in the bytes that they gave.
pub record GaveHeader (settings : Settings) (old new : ShelfState) (name : List ℕ) : Type 0 where
  pub bytes : List ℕ
  pub first : List ShelfCall
  pub row : ReadsRow name 0 old.calls first bytes
  pub on : Grows first new.calls
  pub parts : HeaderFields
  pub whole : head settings bytes ≡ Some parts

-- the fault of a header that was read so; one that isn't whole is M10
abbrev pub header_fault_at_end : Reading HeaderFields → Option Fault
header_fault_at_end (Read parts body) = None
header_fault_at_end (Refused fault at) = Some fault
header_fault_at_end Wanting = Some Truncated

-- Why the file gives no header. Where it isn't a read that failed, none did.
abbrev pub HasNoHeader : Settings → ShelfState → ShelfState → List ℕ → ExtractError → Type 0
HasNoHeader settings old new name (errors.Fault fault) = (is_missing old.files name ≡ false)
    × (new.faults ≡ old.faults)
    × OnFile old new name
    (λ bytes. header_fault_at_end (header settings (start bytes)) ≡ Some fault)
HasNoHeader settings old new name (errors.Outside outsides.ShelfFault) =
    FailsToRead old new name
HasNoHeader settings old new name (errors.Outside outside) = ⊥
HasNoHeader settings old new name errors.Memory = new.faults ≡ old.faults

-- ---- how it ends

-- The answer is the manager's to the header of these bytes; what is extracted then was written, so
-- many bytes, and no fault ends it. The shelf gave no more bytes than the header has, up to a piece
-- behind it, and the slots that are taken.
pub record WritesAll (asked : DecryptAsked) (range : ByteRange) (old new : ShelfState)
    (output put : SinkState) (written : ℕ) (bytes : List ℕ) : Type 0 where
  pub answer : Unlocking
  pub answered : AnswersTo asked.manager asked.settings asked.given bytes answer
  pub sound : (extracted bytes asked.settings answer range).fault ≡ None
  pub gained : Appends output.written put.written
      (extracted bytes asked.settings answer range).part
  pub count : written ≡ length (extracted bytes asked.settings answer range).part
  pub read : new.given ≤ old.given + most_bytes_read bytes asked.settings answer range

-- The answer is the manager's to the header of these bytes; what is extracted then was written, and
-- this fault ends it. The shelf gave no more bytes than the header has, up to a piece behind it or
-- behind its fault, and the slots that are taken.
pub record WritesBefore (asked : DecryptAsked) (range : ByteRange) (old new : ShelfState)
    (output put : SinkState) (fault : Fault) (bytes : List ℕ) : Type 0 where
  pub answer : Unlocking
  pub answered : AnswersTo asked.manager asked.settings asked.given bytes answer
  pub fault_is : (extracted bytes asked.settings answer range).fault ≡ Some fault
  pub gained : Appends output.written put.written
      (extracted bytes asked.settings answer range).part
  pub read : new.given ≤ old.given + most_bytes_read bytes asked.settings answer range

-- The answer is the manager's to the header of these bytes, and a front of what is extracted then
-- was written. The shelf gave no more bytes than the header has, up to a piece behind it, and the
-- slots that are taken.
pub record ExtractWritesFront (asked : DecryptAsked) (range : ByteRange) (old new : ShelfState)
    (output put : SinkState) (bytes : List ℕ) : Type 0 where
  pub answer : Unlocking
  pub answered : AnswersTo asked.manager asked.settings asked.given bytes answer
  pub gained : AppendsFront output.written put.written
      (extracted bytes asked.settings answer range).part
  pub read : new.given ≤ old.given + most_bytes_read bytes asked.settings answer range

-- The shelf has the file; the range of its content was written, and that is so many bytes.
pub record Extracts (asked : DecryptAsked) (range : ByteRange) (old new : ShelfState)
    (name : List ℕ)
    (output put : SinkState) (written : ℕ) : Type 0 where
  pub there : is_missing old.files name ≡ false
  pub writes : OnFile old new name (WritesAll asked range old new output put written)

-- The shelf has the file, and no read failed; its header, the answer or a slot of the range has
-- this fault. What stands before it in the range was written.
pub record ExtractFindsFault (asked : DecryptAsked) (range : ByteRange) (old new : ShelfState)
    (name : List ℕ)
    (output put : SinkState) (fault : Fault) : Type 0 where
  pub there : is_missing old.files name ≡ false
  pub faults : new.faults ≡ old.faults
  pub writes : OnFile old new name (WritesBefore asked range old new output put fault)

-- The shelf has the file, and no read failed; the output failed at a front of the range.
pub record ExtractSinkFails (asked : DecryptAsked) (range : ByteRange) (old new : ShelfState)
    (name : List ℕ)
    (output put : SinkState) : Type 0 where
  pub there : is_missing old.files name ≡ false
  pub faults : new.faults ≡ old.faults
  pub rose : Rose output.faults put.faults
  pub writes : OnFile old new name (ExtractWritesFront asked range old new output put)

-- The file has a header, and the manager failed when it was asked about it: its count of faults
-- rose. Nothing was written, and the shelf gave no more than the header and a piece.
pub record ExtractManagerFails (asked : DecryptAsked) (old new : ShelfState) (name : List ℕ)
    (unwritten : Type 0)
    : Type 0 where
  pub header : HeaderValue
  pub has : HasHeader asked.settings old new name header
  pub failed : asked.manager.finds_none (request_of asked.given header) managers.KeyringFault
  pub same : unwritten

-- Nothing was written, or a front of the range; where the shelf tells that it has no file of the
-- name, nothing.
pub record WritesLess (asked : DecryptAsked) (range : ByteRange) (old new : ShelfState)
    (name : List ℕ)
    (output put : SinkState) (unwritten : Type 0) : Type 0 where
  pub front : unwritten ⊎ OnFile old new name (ExtractWritesFront asked range old new output put)
  pub missing : is_missing old.files name ≡ true → unwritten

-- Why a range isn't extracted, and what that left; `unwritten` says that the output is as before.
-- Want of memory is free, but it doesn't come behind a read that failed.
abbrev pub ExtractEnds : DecryptAsked → ByteRange → ShelfState → ShelfState → List ℕ → SinkState
    → SinkState → Type 0 → ExtractError → Type 0
ExtractEnds asked range old new name output put unwritten (errors.Fault fault) =
    ExtractFindsFault asked range old new name output put fault
ExtractEnds asked range old new name output put unwritten (errors.Outside outsides.ShelfFault) =
    FailsToRead old new name × WritesLess asked range old new name output put unwritten
ExtractEnds asked range old new name output put unwritten (errors.Outside outsides.SinkFault) =
    ExtractSinkFails asked range old new name output put
ExtractEnds asked range old new name output put unwritten (errors.Outside outsides.KeyringFault) =
    ExtractManagerFails asked old new name unwritten
ExtractEnds asked range old new name output put unwritten (errors.Outside outside) = ⊥
ExtractEnds asked range old new name output put unwritten errors.Memory =
    (new.faults ≡ old.faults) × WritesLess asked range old new name output put unwritten

-- ---- what errors of the calls below are called

abbrev pub unheaded_as : NoHeader → ExtractError
unheaded_as (headers.Fault fault) = errors.Fault fault
unheaded_as (headers.End ends.Seen) = errors.Fault Truncated
unheaded_as (headers.End ends.Failed) = errors.Outside outsides.ShelfFault
unheaded_as (headers.End ends.TooLong) = errors.Memory
unheaded_as headers.Memory = errors.Memory

abbrev pub extract_locked_as : UnlockError → ExtractError
extract_locked_as (locks.Fault fault) = errors.Fault fault
extract_locked_as locks.KeyringFault = errors.Outside outsides.KeyringFault
extract_locked_as locks.Memory = errors.Memory
