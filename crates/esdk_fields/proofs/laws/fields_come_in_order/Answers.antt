use Rattle.esdk_fields.specs.Reading.{bytes}
use Rattle.esdk_fields.proofs.Sequential.{IsSequential-number, IsSequential-bytes, IsSequential-repeat}
use Rattle.esdk_fields.proofs.laws.fields_come_in_order.Goals as goal

pub returns : goal.returns
returns c = record {
  numbers = IsSequential-number;
  byte_fields = IsSequential-bytes;
  counted = λ n count. IsSequential-repeat (bytes n) (IsSequential-bytes n) count;
}
