use Rattle.esdk_args.proofs.Requests.{request_asks, request_is_read}
use Rattle.esdk_args.proofs.laws.requests_are_read.Goals as goal

pub returns : goal.returns
returns c = λ words request. (request_asks words request, request_is_read words request)
