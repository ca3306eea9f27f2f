use Rattle.audit_core.proofs.Needed.{leaves_openers}
use Rattle.audit_core.proofs.laws.unneeded_leaves_leave_openers.Goals as goal

pub returns : goal.returns
returns c = λ leaves messages leaf none. leaves_openers leaves messages leaf none
