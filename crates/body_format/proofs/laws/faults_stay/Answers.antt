use Rattle.body_format.proofs.BodyLaws.{fault_stays}
use Rattle.body_format.proofs.laws.faults_stay.Goals as goal

pub returns : goal.returns
returns c = fault_stays
