use Rattle.header_codec.proofs.Uniqueness.{one_header}
use Rattle.header_codec.proofs.laws.one_header_is_read.Goals as goal

pub returns : goal.returns
returns c = λ settings bytes h k end other first second. one_header settings bytes h k end other first second
