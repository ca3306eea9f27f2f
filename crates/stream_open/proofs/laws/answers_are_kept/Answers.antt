use Rattle.stream_open.proofs.Keeping.{keeps_answers}
use Rattle.stream_open.proofs.laws.answers_are_kept.Goals as goal

pub returns : goal.returns
returns g c = λ now. keeps_answers _ now
