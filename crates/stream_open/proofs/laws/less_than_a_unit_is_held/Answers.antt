use Rattle.stream_open.proofs.Marks.{holds_less_than_a_unit}
use Rattle.stream_open.proofs.laws.less_than_a_unit_is_held.Goals as goal

pub returns : goal.returns
returns c = holds_less_than_a_unit
