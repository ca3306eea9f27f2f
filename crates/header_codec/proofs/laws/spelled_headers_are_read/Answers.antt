use Rattle.header_codec.proofs.Spelled.{is_spelled}
use Rattle.header_codec.proofs.ReadBack.{begins}
use Rattle.header_codec.proofs.laws.spelled_headers_are_read.Goals as goal

pub returns : goal.returns
returns c = λ settings bytes h end fits. (is_spelled settings bytes h end fits, begins settings bytes h end)
