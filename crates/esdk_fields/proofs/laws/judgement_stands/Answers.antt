use Rattle.esdk_fields.proofs.Fronts.{JudgesInOrder-sequential}
use Rattle.esdk_fields.proofs.laws.judgement_stands.Goals as goal

pub returns : goal.returns
returns g c = λ read sequential. JudgesInOrder-sequential read sequential
