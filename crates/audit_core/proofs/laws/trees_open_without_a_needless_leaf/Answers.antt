use Rattle.audit_core.proofs.Deleting.{opens_without}
use Rattle.audit_core.proofs.laws.trees_open_without_a_needless_leaf.Goals as goal

pub returns : goal.returns
returns c = λ before keys behind messages none fit. opens_without before keys behind messages none fit
