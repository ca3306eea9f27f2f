-- The request has the same context and length, and both lists of keys.
use Rattle.std.proofs.Common.{rules}
use Rattle.keyring_trait.proofs.requests.EncRequest.with_required.Goals as goal

pub returns : goal.returns
returns c = search rules
