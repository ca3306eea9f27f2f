use Rattle.body_format.proofs.BodyLaws.{too_many}
use Rattle.body_format.proofs.laws.trailing_bytes_are_refused.Goals as goal

pub returns : goal.returns
returns c = too_many
