use Rattle.audit_core.proofs.Told.{names_what_opens}
use Rattle.audit_core.proofs.laws.what_opens_is_named.Goals as goal

pub returns : goal.returns
returns c = λ old now h given named leaves names told stayed. names_what_opens old now h given named leaves names told stayed
