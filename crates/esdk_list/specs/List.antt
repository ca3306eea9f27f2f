-- What `list` makes of its input.
use Rattle.std.specs.Prelude.{◌≡◌, ◌⊎◌, ◌+◌, ◌<◌, ℕ, Bool, List, length, Option, Some, None}
use Rattle.std.specs.Io.KnownBytes.{Appends}
use Rattle.esdk_fields.specs.Counts.{Rose}
use Rattle.esdk_base.specs.Sink.{AppendsFront}
use Rattle.esdk_fields.specs.declared.faults.Fault.{Fault}
use Rattle.esdk_fields.specs.declared.faults.Fault.TheVariants.{Truncated}
use Rattle.esdk_fields.specs.declared.refusals.Outside.TheVariants as outsides
use Rattle.esdk_fields.specs.Place.{Place, start}
use Rattle.esdk_fields.specs.Reading.{Reading, Read, Refused, Wanting}
use Rattle.header_codec.specs.declared.settings.Settings.{Settings}
use Rattle.header_codec.specs.Header.{HeaderValue}
use Rattle.header_codec.specs.Table.{header, BeginsWith}
use Rattle.esdk_report.specs.declared.failure.Failure.{Failure}
use Rattle.esdk_report.specs.declared.failure.Failure.TheVariants as failures
use Rattle.esdk_list.specs.Listing.{list_of}
use Rattle.esdk_base.specs.Streams.{OnTold, SinkState, SourceState}
use Rattle.header_input.specs.declared.errors.NoHeader.{NoHeader}
use Rattle.header_input.specs.declared.errors.NoHeader.TheVariants as errors
use Rattle.header_input.specs.Taking.{EndCame, FaultCame, HeaderInputIsTooLong}
use Rattle.header_input.specs.Taking.{HeaderInputLacksMemory, ReadFailed}
use Rattle.whole_input.specs.declared.pieces.End.TheVariants as ends
use Rattle.whole_input.specs.Taken.{Came}

-- `list` takes each header that the format allows; one of a message without a commitment only where
-- the caller allows these
abbrev pub list_settings : Bool → Settings
list_settings uncommitted = record { max_keys = None; max_unit = None; uncommitted = uncommitted }

-- the fault of what was read: the header's, or that the input ends before the header is whole
abbrev pub reading_fault_at_end : {A : Type 0} → Reading A → Option Fault
reading_fault_at_end (Read x next) = None
reading_fault_at_end (Refused fault at) = Some fault
reading_fault_at_end Wanting = Some Truncated

-- the fault for which `list` refuses an input of these bytes
abbrev pub listing_fault : Bool → List ℕ → Option Fault
listing_fault uncommitted bytes =
    reading_fault_at_end (header (list_settings uncommitted) (start bytes))

-- ---- the input has a header

-- The bytes begin with this header and its authentication.
abbrev pub BeginsWithHeader : Bool → HeaderValue → List ℕ → Type 0
BeginsWithHeader uncommitted h bytes =
    (end : Place) × BeginsWith (list_settings uncommitted) bytes h end

-- The bytes that were taken begin with this header and its authentication, fewer than a piece of
-- 65,536 of them stand behind it, and no read failed.
pub record HeaderCame (uncommitted : Bool) (h : HeaderValue) (old new : SourceState) : Type 0 where
  pub bytes : List ℕ
  pub end : Place
  pub came : Came old new bytes
  pub begins : BeginsWith (list_settings uncommitted) bytes h end
  pub few : length bytes < end.at + 65536
  pub faults : new.faults ≡ old.faults

-- The input begins with a header and its authentication, it was read no further than to the end of
-- a piece, and the output gained the header's listing.
pub record Lists (uncommitted : Bool) (input taken : SourceState)
    (old new : Option (List ℕ)) : Type 0 where
  pub header : HeaderValue
  pub begins : OnTold input.left (BeginsWithHeader uncommitted header)
  pub came : HeaderCame uncommitted header input taken
  pub gained : Appends old new (list_of header)

-- So it is, but that the output gained a front of the header's listing.
pub record ListsFront (uncommitted : Bool) (input taken : SourceState)
    (old new : Option (List ℕ)) : Type 0 where
  pub header : HeaderValue
  pub begins : OnTold input.left (BeginsWithHeader uncommitted header)
  pub came : HeaderCame uncommitted header input taken
  pub gained : AppendsFront old new (list_of header)

-- ---- the input is refused

-- what the program calls it that no header came: an input that ends in the header is M10
abbrev pub failure_as : NoHeader → Failure
failure_as (errors.Fault fault) = failures.Fault fault
failure_as (errors.End ends.Seen) = failures.Fault Truncated
failure_as (errors.End ends.Failed) = failures.Outside outsides.SourceFault
failure_as (errors.End ends.TooLong) = failures.Outside outsides.InputTooLong
failure_as errors.Memory = failures.Memory

-- The input has this fault: a field of the bytes that were taken has it, or the input ends too
-- soon.
pub record ListFindsFault (uncommitted : Bool) (fault : Fault) (old new : SourceState)
    : Type 0 where
  pub came : FaultCame (list_settings uncommitted) fault old new
      ⊎ ((fault ≡ Truncated) × EndCame (list_settings uncommitted) old new)
  pub told : OnTold old.left (λ bytes. listing_fault uncommitted bytes ≡ Some fault)

-- memory ran out while the header wasn't whole, or once it was
abbrev pub ListLacksMemory : Bool → SourceState → SourceState → Type 0
ListLacksMemory uncommitted old new = HeaderInputLacksMemory (list_settings uncommitted) old new
    ⊎ ((h : HeaderValue) × HeaderCame uncommitted h old new)

-- why the input is refused so
abbrev pub IsInputCause : Bool → Failure → SourceState → SourceState → Type 0
IsInputCause uncommitted (failures.Fault fault) old new = ListFindsFault uncommitted fault old new
IsInputCause uncommitted (failures.Outside outsides.SourceFault) old new =
    ReadFailed (list_settings uncommitted) old new
IsInputCause uncommitted (failures.Outside outsides.InputTooLong) old new =
    HeaderInputIsTooLong (list_settings uncommitted) old new
IsInputCause uncommitted failures.Memory old new = ListLacksMemory uncommitted old new
IsInputCause uncommitted failure old new = ⊥

-- why `list` ends so, by what the input and the output did
abbrev pub IsListCause : Bool → Failure → SourceState → SourceState → SinkState → SinkState → Type 0
IsListCause uncommitted (failures.Fault fault) old new before now =
    IsInputCause uncommitted (failures.Fault fault) old new
IsListCause uncommitted (failures.Outside outsides.SinkFault) old new before now =
    Rose before.faults now.faults
IsListCause uncommitted (failures.Outside outside) old new before now =
    IsInputCause uncommitted (failures.Outside outside) old new
IsListCause uncommitted failure old new before now = IsInputCause uncommitted failure old new

-- A put that failed left a front of the listing of the input's header, and each other failure the
-- output the same.
abbrev pub LeavesOutput : Bool → Failure → SourceState → SourceState → SinkState → SinkState
    → Type 0 → Type 0
LeavesOutput uncommitted (failures.Outside outsides.SinkFault) input taken old new same =
    ListsFront uncommitted input taken old.written new.written
LeavesOutput uncommitted failure input taken old new same = same
