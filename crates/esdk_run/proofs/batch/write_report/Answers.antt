-- A report that was put whole is no failure.
use Rattle.esdk_run.proofs.batch.write_report.Goals as goal

pub returns-clause-fails : goal.returns-clause-fails
returns-clause-fails g c = tt
