use Rattle.esdk_fields.proofs.Fronts.{JudgesInOrder-sequential}
use Rattle.header_codec.specs.Table.{header}
use Rattle.header_codec.proofs.Order.{IsSequential-header}
use Rattle.header_codec.proofs.laws.headers_are_judged_in_order.Goals as goal

pub returns : goal.returns
returns c = λ settings. JudgesInOrder-sequential (header settings) (IsSequential-header settings)
