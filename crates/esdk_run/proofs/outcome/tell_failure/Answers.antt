-- The failure is reported as it is.
use Rattle.esdk_run.proofs.outcome.tell_failure.Goals as goal

pub returns : goal.returns
returns g c = c.report_failure.ensures
