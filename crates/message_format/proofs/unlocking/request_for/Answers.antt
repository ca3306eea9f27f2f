-- The request has the header's own parts, and a copy of the given pairs.
use Rattle.std.proofs.Common.{rules}
use Rattle.message_format.proofs.unlocking.request_for.Goals as goal

pub returns-clause-request : goal.returns-clause-request
returns-clause-request c = search rules
