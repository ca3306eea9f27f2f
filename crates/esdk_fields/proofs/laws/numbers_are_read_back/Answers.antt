use Rattle.esdk_fields.proofs.Again.{number8_again, number16_again, number32_again, number64_again}
use Rattle.esdk_fields.proofs.laws.numbers_are_read_back.Goals as goal

pub returns : goal.returns
returns c = record { one_byte = number8_again; two_bytes = number16_again; four_bytes = number32_again; eight_bytes = number64_again }
