use Rattle.std.proofs.Common.{if◌then◌else◌, ◌∙◌, Bool, ap, sym}
use Rattle.esdk_run.proofs.batch.status_of.Goals as goal

pub returns-else-is_done : goal.returns-else-is_done
returns-else-is_done c = ap (λ (done : Bool). if done then 0 else 7) (sym c.if-is_done.false ∙ c.is_done.ensures)
