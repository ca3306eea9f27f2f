-- The lines that name what was refused: its number, its name, then each value after a space.
use Rattle.std.specs.Prelude.{ℕ, ◌/◌, ◌%◌, List, [], ◌∷◌, ◌++◌, codes, decimal}
use Rattle.std.specs.Char.{digit_char}
use Rattle.json.specs.Print.{quoted}
use Rattle.esdk_fields.specs.Names.{kind_name, fault_name, refusal_name, file_name, outside_name}
use Rattle.esdk_fields.specs.declared.faults.ContextFault.{ContextFault}
use Rattle.esdk_fields.specs.declared.faults.Fault.{Fault}
use Rattle.esdk_fields.specs.declared.faults.Fault.TheVariants as faults
use Rattle.esdk_fields.specs.declared.refusals.Refusal.{Refusal}
use Rattle.esdk_fields.specs.declared.refusals.Refusal.TheVariants as refusals
use Rattle.esdk_fields.specs.declared.refusals.FileRefusal.{FileRefusal}
use Rattle.esdk_fields.specs.declared.refusals.FileRefusal.TheVariants as files
use Rattle.esdk_fields.specs.declared.refusals.Outside.{Outside}

-- a space, and the number in decimal
unfoldable pub number_word : ℕ → List ℕ
number_word n = 32 ∷ decimal n

-- a space, and the text as a JSON string
unfoldable pub text_word : List ℕ → List ℕ
text_word text = 32 ∷ quoted text

-- a space, and the sixteen-bit number in four lower-case hexadecimal digits
unfoldable pub hex_word : ℕ → List ℕ
hex_word n = 32 ∷ digit_char (n / 4096) ∷ digit_char (n / 256 % 16) ∷ digit_char (n / 16 % 16)
    ∷ digit_char (n % 16) ∷ []

-- a space, and what is wrong with the bytes of a context
unfoldable pub fault_kind_word : ContextFault → List ℕ
fault_kind_word kind = 32 ∷ kind_name kind

-- the values of a fault of a message
unfoldable pub fault_values : Fault → List ℕ
fault_values (faults.BadVersion version) = number_word version
fault_values (faults.UnsupportedSuite suite) = hex_word suite
fault_values (faults.BadContext kind) = fault_kind_word kind
fault_values faults.NoDataKeys = []
fault_values (faults.TooManyDataKeys count) = number_word count
fault_values (faults.BadContentType kind) = number_word kind
fault_values (faults.BadFrameLength frame) = number_word frame
fault_values (faults.HeaderTooLong end) = number_word end
fault_values (faults.UnitTooLong unit) = number_word unit
fault_values faults.Truncated = []
fault_values faults.ReservedKey = []
fault_values (faults.ContextMismatch key) = text_word key
fault_values (faults.MissingRequired key) = text_word key
fault_values (faults.ContextTooLong total) = number_word total
fault_values faults.NoKeyOpens = []
fault_values faults.Commitment = []
fault_values faults.HeaderTag = []
fault_values (faults.WrongSequence want got) = number_word want ++ number_word got
fault_values (faults.FinalTooLong final) = number_word final
fault_values (faults.UnitTag sequence) = number_word sequence
fault_values (faults.BlockTooLong block) = number_word block
fault_values faults.TrailingBytes = []
fault_values (faults.Uncommitted suite) = hex_word suite
fault_values (faults.BadType kind) = number_word kind
fault_values (faults.BadReserved reserved) = number_word reserved
fault_values (faults.BadIvLength length) = number_word length
fault_values (faults.BadArmour group) = number_word group

-- the line of a fault of a message
unfoldable pub fault_line : Fault → List ℕ
fault_line fault = fault_name fault ++ fault_values fault

-- the values of a refused request
unfoldable pub refusal_values : Refusal → List ℕ
refusal_values (refusals.ReservedPrefix key) = text_word key
refusal_values (refusals.ContextTooLong total) = number_word total
refusal_values (refusals.DuplicateKey key) = text_word key
refusal_values (refusals.RequiredAbsent key) = text_word key
refusal_values refusals.NoGenerator = []
refusal_values refusals.GeneratorHasKey = []
refusal_values (refusals.TooManyDataKeys count) = number_word count
refusal_values (refusals.HeaderTooLong end) = number_word end
refusal_values refusals.TooManyFrames = []
refusal_values (refusals.OverDeclared declared) = number_word declared

-- the line of a refused request
unfoldable pub refusal_line : Refusal → List ℕ
refusal_line refusal = refusal_name refusal ++ refusal_values refusal

-- the values of a refused keyring file or job file
unfoldable pub file_values : FileRefusal → List ℕ
file_values files.NotJson = []
file_values (files.BadShape place) = number_word place
file_values (files.BadKey place) = number_word place
file_values files.ReservedNamespace = []
file_values (files.ClashingKeys namespace name) = text_word namespace ++ text_word name
file_values files.TooDeep = []
file_values files.TooManyLeaves = []
file_values (files.NoSuchPlug name) = text_word name
file_values (files.NamesClash name) = text_word name
file_values files.FileTooLong = []
file_values (files.NotRaw place) = number_word place

-- the line of a refused keyring file or job file
unfoldable pub file_line : FileRefusal → List ℕ
file_line refusal = file_name refusal ++ file_values refusal

-- the line of what failed outside of the library, which has no values
unfoldable pub outside_line : Outside → List ℕ
outside_line outside = outside_name outside

-- the line as it is printed: after `esdk: `, and with a line feed
unfoldable pub printed_line : List ℕ → List ℕ
printed_line line = codes "esdk: " ++ line ++ 10 ∷ []
