use Rattle.body_format.proofs.BodyLaws.{units_front}
use Rattle.body_format.proofs.laws.released_units_stay.Goals as goal

pub returns : goal.returns
returns c = λ content max_unit key id p n within. let begins = units_front content max_unit key id p n within in (begins.more, begins.is)
