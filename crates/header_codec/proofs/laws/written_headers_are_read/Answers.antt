use Rattle.header_codec.proofs.WrittenHeaders.{written_is_read}
use Rattle.header_codec.proofs.laws.written_headers_are_read.Goals as goal

pub returns : goal.returns
returns c = written_is_read
