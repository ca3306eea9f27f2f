-- What `list` makes of an input that may be read as armour text.
use Rattle.std.specs.Prelude.{◌≡◌, ℕ, Bool, false, List, Option, Result, Err}
use Rattle.esdk_fields.specs.declared.faults.Fault.TheVariants.{Truncated}
use Rattle.esdk_base.specs.Streams.{SinkState, SourceState}
use Rattle.esdk_fields.specs.Place.{start}
use Rattle.esdk_fields.specs.Reading.{Wanting}
use Rattle.header_codec.specs.Table.{header}
use Rattle.whole_input.specs.Taken.{Came}
use Rattle.esdk_list.specs.List.{ListFindsFault, IsListCause, LeavesOutput, Lists, list_settings}
use Rattle.esdk_report.specs.declared.failure.Failure.{Failure}
use Rattle.esdk_report.specs.declared.failure.Failure.TheVariants as failures
use Rattle.esdk_run.specs.Unarmoured.{InputEnds, ReadsInput}
use Rattle.esdk_run.specs.UnarmouredEnd.{is_cut_short}

-- the bytes of a listing that ended so end within a header
abbrev pub wants_header : Result (Unit {0}) Failure → Bool
wants_header (Err (failures.Fault fault)) = is_cut_short fault
wants_header ended = false

-- The bytes that came have no fault, and no whole header.
pub record WantsHeader (uncommitted : Bool) (input taken : SourceState) : Type 0 where
  pub bytes : List ℕ
  pub came : Came input taken bytes
  pub wanting : header (list_settings uncommitted) (start bytes) ≡ Wanting

-- The input begins with a header and its authentication, and the output gained the header's
-- listing. Of an input that is read as armour no group is judged behind the header.
abbrev pub ListsAs : (armour uncommitted : Bool) → SourceState → SourceState → Option (List ℕ)
    → Option (List ℕ) → Type 0
ListsAs armour uncommitted input taken old new =
    ReadsInput armour input taken (λ seen read. Lists uncommitted seen read old new)

-- why nothing was listed; `unwritten` says that the output is as before
abbrev pub ListEndsAs : (armour uncommitted : Bool) → SourceState → SourceState → SinkState
    → SinkState → Type 0 → Failure → Type 0
ListEndsAs armour uncommitted input taken output put unwritten failure =
    InputEnds armour failure input taken
    (λ seen read. IsListCause uncommitted failure seen read output put
    × LeavesOutput uncommitted failure seen read output put unwritten)
    (λ seen read. ListFindsFault uncommitted Truncated seen read × unwritten)
    (λ seen read. WantsHeader uncommitted seen read × unwritten)
