use Rattle.audit_core.proofs.Came.{finds_what_came}
use Rattle.audit_core.proofs.laws.what_came_is_found.Goals as goal

pub returns : goal.returns
returns c = λ old new before after messages found leaves each told stayed. finds_what_came old new before after messages found leaves each told stayed
