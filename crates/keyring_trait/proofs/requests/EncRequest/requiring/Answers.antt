-- None of the keys is absent.
use Rattle.std.proofs.Common.{rules}
use Rattle.keyring_trait.proofs.Holding.{held_unless_absent}
use Rattle.keyring_trait.proofs.requests.EncRequest.requiring.Goals as goal

pub with_required-requires : goal.with_required-requires
with_required-requires c = held_unless_absent (λ key. key.now) c.args.self.now.context c.args.keys.now c.first_missing.result (search rules) c.in-None.is
