-- The names of the errors, as printed lines begin with them: a number and a name.
use Rattle.std.specs.Prelude.{ℕ, List, codes}
use Rattle.esdk_fields.specs.declared.faults.ContextFault.{ContextFault}
use Rattle.esdk_fields.specs.declared.faults.ContextFault.TheVariants as kinds
use Rattle.esdk_fields.specs.declared.faults.Fault.{Fault}
use Rattle.esdk_fields.specs.declared.faults.Fault.TheVariants as faults
use Rattle.esdk_fields.specs.declared.refusals.Refusal.{Refusal}
use Rattle.esdk_fields.specs.declared.refusals.Refusal.TheVariants as refusals
use Rattle.esdk_fields.specs.declared.refusals.FileRefusal.{FileRefusal}
use Rattle.esdk_fields.specs.declared.refusals.FileRefusal.TheVariants as files
use Rattle.esdk_fields.specs.declared.refusals.Outside.{Outside}
use Rattle.esdk_fields.specs.declared.refusals.Outside.TheVariants as outsides
use Rattle.esdk_fields.specs.declared.refusals.FieldError.{FieldError}
use Rattle.esdk_fields.specs.declared.refusals.FieldError.TheVariants as fields

-- what is wrong with the bytes of a context
unfoldable pub kind_name : ContextFault → List ℕ
kind_name kinds.Length = codes "Length"
kind_name kinds.Utf8 = codes "Utf8"
kind_name kinds.Duplicate = codes "Duplicate"

-- a fault of a message
unfoldable pub fault_name : Fault → List ℕ
fault_name (faults.BadVersion version) = codes "M1 BadVersion"
fault_name (faults.UnsupportedSuite suite) = codes "M2 UnsupportedSuite"
fault_name (faults.BadContext kind) = codes "M3 BadContext"
fault_name faults.NoDataKeys = codes "M4 NoDataKeys"
fault_name (faults.TooManyDataKeys count) = codes "M5 TooManyDataKeys"
fault_name (faults.BadContentType kind) = codes "M6 BadContentType"
fault_name (faults.BadFrameLength frame) = codes "M7 BadFrameLength"
fault_name (faults.HeaderTooLong end) = codes "M8 HeaderTooLong"
fault_name (faults.UnitTooLong unit) = codes "M9 UnitTooLong"
fault_name faults.Truncated = codes "M10 Truncated"
fault_name faults.ReservedKey = codes "M11 ReservedKey"
fault_name (faults.ContextMismatch key) = codes "M12 ContextMismatch"
fault_name (faults.MissingRequired key) = codes "M13 MissingRequired"
fault_name (faults.ContextTooLong total) = codes "M14 ContextTooLong"
fault_name faults.NoKeyOpens = codes "M15 NoKeyOpens"
fault_name faults.Commitment = codes "M16 Commitment"
fault_name faults.HeaderTag = codes "M17 HeaderTag"
fault_name (faults.WrongSequence want got) = codes "M18 WrongSequence"
fault_name (faults.FinalTooLong final) = codes "M19 FinalTooLong"
fault_name (faults.UnitTag sequence) = codes "M20 UnitTag"
fault_name (faults.BlockTooLong block) = codes "M21 BlockTooLong"
fault_name faults.TrailingBytes = codes "M22 TrailingBytes"
fault_name (faults.Uncommitted suite) = codes "M23 Uncommitted"
fault_name (faults.BadType kind) = codes "M24 BadType"
fault_name (faults.BadReserved reserved) = codes "M25 BadReserved"
fault_name (faults.BadIvLength length) = codes "M26 BadIvLength"
fault_name (faults.BadArmour group) = codes "M27 BadArmour"

-- a refused request
unfoldable pub refusal_name : Refusal → List ℕ
refusal_name (refusals.ReservedPrefix key) = codes "Q1 ReservedPrefix"
refusal_name (refusals.ContextTooLong total) = codes "Q2 ContextTooLong"
refusal_name (refusals.DuplicateKey key) = codes "Q3 DuplicateKey"
refusal_name (refusals.RequiredAbsent key) = codes "Q4 RequiredAbsent"
refusal_name refusals.NoGenerator = codes "Q5 NoGenerator"
refusal_name refusals.GeneratorHasKey = codes "Q6 GeneratorHasKey"
refusal_name (refusals.TooManyDataKeys count) = codes "Q7 TooManyDataKeys"
refusal_name (refusals.HeaderTooLong end) = codes "Q8 HeaderTooLong"
refusal_name refusals.TooManyFrames = codes "Q9 TooManyFrames"
refusal_name (refusals.OverDeclared declared) = codes "Q10 OverDeclared"

-- a refused keyring file or job file
unfoldable pub file_name : FileRefusal → List ℕ
file_name files.NotJson = codes "K1 NotJson"
file_name (files.BadShape place) = codes "K2 BadShape"
file_name (files.BadKey place) = codes "K3 BadKey"
file_name files.ReservedNamespace = codes "K4 ReservedNamespace"
file_name (files.ClashingKeys namespace name) = codes "K5 ClashingKeys"
file_name files.TooDeep = codes "K6 TooDeep"
file_name files.TooManyLeaves = codes "K7 TooManyLeaves"
file_name (files.NoSuchPlug name) = codes "K8 NoSuchPlug"
file_name (files.NamesClash name) = codes "K9 NamesClash"
file_name files.FileTooLong = codes "K10 FileTooLong"
file_name (files.NotRaw place) = codes "K11 NotRaw"

-- what failed outside of the library
unfoldable pub outside_name : Outside → List ℕ
outside_name outsides.SourceFault = codes "X1 SourceFault"
outside_name outsides.SinkFault = codes "X2 SinkFault"
outside_name outsides.ShelfFault = codes "X3 ShelfFault"
outside_name outsides.EntropyFault = codes "X4 EntropyFault"
outside_name outsides.KeyringFault = codes "X5 KeyringFault"
outside_name outsides.InputTooLong = codes "X6 InputTooLong"

-- why a reader of fields answers no value
unfoldable pub field_error_text : FieldError → List ℕ
field_error_text (fields.Fault fault) = fault_name fault
field_error_text fields.Stopped = codes "an earlier call answered an error"
field_error_text fields.Memory = codes "memory ran out"
