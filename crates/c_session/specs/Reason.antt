-- The codes of reasons, and their lines.
use Rattle.std.specs.Prelude.{ℕ, ◌+◌, List, codes}
use Rattle.esdk_fields.specs.Names.{fault_name, file_name, outside_name, refusal_name}
use Rattle.esdk_fields.specs.declared.faults.Fault.{Fault}
use Rattle.esdk_fields.specs.declared.faults.Fault.TheVariants as faults
use Rattle.esdk_fields.specs.declared.refusals.Refusal.{Refusal}
use Rattle.esdk_fields.specs.declared.refusals.Refusal.TheVariants as refusals
use Rattle.esdk_fields.specs.declared.refusals.FileRefusal.{FileRefusal}
use Rattle.esdk_fields.specs.declared.refusals.FileRefusal.TheVariants as files
use Rattle.esdk_fields.specs.declared.refusals.Outside.TheVariants as outsides
use Rattle.esdk_report.specs.Lines.{fault_line, file_line, outside_line, refusal_line}
use Rattle.c_session.specs.declared.reason.Reason.{Reason}
use Rattle.c_session.specs.declared.reason.Reason.TheVariants as reasons

-- the numbers with which the lines begin
unfoldable pub fault_number : Fault → ℕ
fault_number (faults.BadVersion version) = 1
fault_number (faults.UnsupportedSuite suite) = 2
fault_number (faults.BadContext kind) = 3
fault_number faults.NoDataKeys = 4
fault_number (faults.TooManyDataKeys count) = 5
fault_number (faults.BadContentType kind) = 6
fault_number (faults.BadFrameLength frame) = 7
fault_number (faults.HeaderTooLong end) = 8
fault_number (faults.UnitTooLong unit) = 9
fault_number faults.Truncated = 10
fault_number faults.ReservedKey = 11
fault_number (faults.ContextMismatch key) = 12
fault_number (faults.MissingRequired key) = 13
fault_number (faults.ContextTooLong total) = 14
fault_number faults.NoKeyOpens = 15
fault_number faults.Commitment = 16
fault_number faults.HeaderTag = 17
fault_number (faults.WrongSequence want got) = 18
fault_number (faults.FinalTooLong final) = 19
fault_number (faults.UnitTag sequence) = 20
fault_number (faults.BlockTooLong block) = 21
fault_number faults.TrailingBytes = 22
fault_number (faults.Uncommitted suite) = 23
fault_number (faults.BadType kind) = 24
fault_number (faults.BadReserved reserved) = 25
fault_number (faults.BadIvLength length) = 26
fault_number (faults.BadArmour group) = 27

unfoldable pub refusal_number : Refusal → ℕ
refusal_number (refusals.ReservedPrefix key) = 1
refusal_number (refusals.ContextTooLong total) = 2
refusal_number (refusals.DuplicateKey key) = 3
refusal_number (refusals.RequiredAbsent key) = 4
refusal_number refusals.NoGenerator = 5
refusal_number refusals.GeneratorHasKey = 6
refusal_number (refusals.TooManyDataKeys count) = 7
refusal_number (refusals.HeaderTooLong end) = 8
refusal_number refusals.TooManyFrames = 9
refusal_number (refusals.OverDeclared declared) = 10

unfoldable pub file_number : FileRefusal → ℕ
file_number files.NotJson = 1
file_number (files.BadShape place) = 2
file_number (files.BadKey place) = 3
file_number files.ReservedNamespace = 4
file_number (files.ClashingKeys namespace name) = 5
file_number files.TooDeep = 6
file_number files.TooManyLeaves = 7
file_number (files.NoSuchPlug name) = 8
file_number (files.NamesClash name) = 9
file_number files.FileTooLong = 10
file_number (files.NotRaw place) = 11

-- the exit status of the program, and the number
abbrev pub code_of_reason : Reason → ℕ
code_of_reason (reasons.File refusal) = 3000 + file_number refusal
code_of_reason (reasons.Fault fault) = 1000 + fault_number fault
code_of_reason (reasons.Refusal refusal) = 6000 + refusal_number refusal
code_of_reason reasons.Keyring = 4005
code_of_reason reasons.Memory = 5000

-- the number and the name
abbrev pub name_of : Reason → List ℕ
name_of (reasons.File refusal) = file_name refusal
name_of (reasons.Fault fault) = fault_name fault
name_of (reasons.Refusal refusal) = refusal_name refusal
name_of reasons.Keyring = outside_name outsides.KeyringFault
name_of reasons.Memory = codes "Memory"

-- the line, as the program prints it behind `esdk: `
abbrev pub reason_line : Reason → List ℕ
reason_line (reasons.File refusal) = file_line refusal
reason_line (reasons.Fault fault) = fault_line fault
reason_line (reasons.Refusal refusal) = refusal_line refusal
reason_line reasons.Keyring = outside_line outsides.KeyringFault
reason_line reasons.Memory = codes "Memory"
