-- What is shown of the errors.
use Rattle.std.specs.Prelude.{ℕ, List, codes}
use Rattle.esdk_fields.specs.Names.{fault_name}
use Rattle.whole_input.specs.declared.pieces.End.TheVariants as ends
use Rattle.header_input.specs.declared.errors.NoHeader.{NoHeader}
use Rattle.header_input.specs.declared.errors.NoHeader.TheVariants as errors

-- what is shown of why an input gives no header
unfoldable pub no_header_text : NoHeader → List ℕ
no_header_text (errors.Fault fault) = fault_name fault
no_header_text (errors.End ends.Seen) = codes "the input ends before its header"
no_header_text (errors.End ends.Failed) = codes "a read failed"
no_header_text (errors.End ends.TooLong) = codes "the header is too long"
no_header_text errors.Memory = codes "memory ran out"
