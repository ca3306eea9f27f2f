use Rattle.header_codec.proofs.WrittenHeaders.{written_is_header}
use Rattle.header_codec.proofs.laws.written_headers_are_headers.Goals as goal

pub returns : goal.returns
returns c = written_is_header
