use Rattle.audit_core.proofs.Unlocked.{openers_unlock}
use Rattle.audit_core.proofs.laws.openers_unlock_by_themselves.Goals as goal

pub returns : goal.returns
returns c = λ before keys behind m. openers_unlock before keys behind m
