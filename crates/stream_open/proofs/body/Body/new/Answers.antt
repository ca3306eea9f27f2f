use Rattle.std.proofs.Common.{refl}
use Rattle.stream_open.proofs.body.Body.new.Goals as goal

pub returns-clause-max_unit : goal.returns-clause-max_unit
returns-clause-max_unit c = refl
