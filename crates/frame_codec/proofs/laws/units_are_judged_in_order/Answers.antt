use Rattle.esdk_fields.proofs.Fronts.{JudgesInOrder-sequential}
use Rattle.frame_codec.specs.Unit.{unit}
use Rattle.frame_codec.proofs.Order.{IsSequential-unit}
use Rattle.frame_codec.proofs.laws.units_are_judged_in_order.Goals as goal

pub returns : goal.returns
returns c = λ content max_unit key id want. JudgesInOrder-sequential (unit content max_unit key id want) (IsSequential-unit content max_unit key id want)
