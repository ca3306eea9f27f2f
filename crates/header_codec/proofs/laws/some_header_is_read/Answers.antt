use Rattle.header_codec.proofs.Uniqueness.{some_header}
use Rattle.header_codec.proofs.laws.some_header_is_read.Goals as goal

pub returns : goal.returns
returns c = λ settings bytes parts end read. some_header settings bytes parts end read
