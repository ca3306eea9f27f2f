use Rattle.body_format.proofs.BodyLaws.{front_going}
use Rattle.body_format.proofs.laws.fronts_go_on.Goals as goal

pub returns : goal.returns
returns c = front_going
