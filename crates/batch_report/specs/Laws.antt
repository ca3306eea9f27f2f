-- The law of reports.
use Rattle.std.specs.Prelude.{◌≡◌, ◌<◌, ◌^◌, ℕ, List, All, ⊤, Option, Some}
use Rattle.esdk_fields.specs.declared.faults.Fault.{Fault}
use Rattle.esdk_fields.specs.declared.faults.Fault.TheVariants as faults
use Rattle.esdk_fields.specs.declared.refusals.Refusal.{Refusal}
use Rattle.esdk_fields.specs.declared.refusals.Refusal.TheVariants as refusals
use Rattle.keyring_trait.specs.declared.served.Served.{Served}
use Rattle.keyring_trait.specs.declared.served.Served.TheVariants.{New, Hit}
use Rattle.batch_report.specs.declared.job_lines.JobEnd.{JobEnd}
use Rattle.batch_report.specs.declared.job_lines.JobEnd.TheVariants as ends
use Rattle.batch_report.specs.declared.job_lines.JobLine.{JobLine}
use Rattle.batch_report.specs.BatchReport.{report_of}

-- a number of at most 128 bits, as each is that a line names
abbrev pub IsShort : ℕ → Type 0
IsShort n = n < 2 ^ 128

-- each number that a fault of a message names in decimal is short
abbrev pub FaultIsShort : Fault → Type 0
FaultIsShort (faults.BadVersion version) = IsShort version
FaultIsShort (faults.TooManyDataKeys count) = IsShort count
FaultIsShort (faults.BadContentType kind) = IsShort kind
FaultIsShort (faults.BadFrameLength frame) = IsShort frame
FaultIsShort (faults.HeaderTooLong end) = IsShort end
FaultIsShort (faults.UnitTooLong unit) = IsShort unit
FaultIsShort (faults.ContextTooLong total) = IsShort total
FaultIsShort (faults.WrongSequence want got) = IsShort want × IsShort got
FaultIsShort (faults.FinalTooLong final) = IsShort final
FaultIsShort (faults.UnitTag sequence) = IsShort sequence
FaultIsShort (faults.BlockTooLong block) = IsShort block
FaultIsShort (faults.BadType kind) = IsShort kind
FaultIsShort (faults.BadReserved reserved) = IsShort reserved
FaultIsShort (faults.BadIvLength length) = IsShort length
FaultIsShort (faults.BadArmour group) = IsShort group
FaultIsShort fault = ⊤

-- each that a refused request names is
abbrev pub RefusalIsShort : Refusal → Type 0
RefusalIsShort (refusals.ContextTooLong total) = IsShort total
RefusalIsShort (refusals.TooManyDataKeys count) = IsShort count
RefusalIsShort (refusals.HeaderTooLong end) = IsShort end
RefusalIsShort (refusals.OverDeclared declared) = IsShort declared
RefusalIsShort refusal = ⊤

-- each that the end of a job names is
abbrev pub EndIsShort : JobEnd → Type 0
EndIsShort (ends.Refusal refusal) = RefusalIsShort refusal
EndIsShort (ends.Fault fault) = FaultIsShort fault
EndIsShort end = ⊤

-- the number of a cache's entry is, where one is named
abbrev pub ServedIsShort : Option Served → Type 0
ServedIsShort (Some (New number)) = IsShort number
ServedIsShort (Some (Hit number)) = IsShort number
ServedIsShort served = ⊤

-- each number that a line names is short
abbrev pub LineIsShort : JobLine → Type 0
LineIsShort line = EndIsShort line.end × ServedIsShort line.served

-- Two lists of lines with the same report are the same lines.
abbrev pub HasOneReading : Type 0
HasOneReading = (lines others : List JobLine) → All LineIsShort lines → All LineIsShort others
    → report_of lines ≡ report_of others → lines ≡ others
