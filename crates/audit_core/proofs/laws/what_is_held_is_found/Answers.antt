use Rattle.audit_core.proofs.Held.{finds_what_is_held}
use Rattle.audit_core.proofs.laws.what_is_held_is_found.Goals as goal

pub returns : goal.returns
returns c = λ old new before after messages found held leaves each are told stayed. finds_what_is_held old new before after messages found held leaves each are told stayed
