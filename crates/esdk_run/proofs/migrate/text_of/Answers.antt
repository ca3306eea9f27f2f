use Rattle.esdk_run.proofs.Preparing.{migration_refused}
use Rattle.esdk_run.proofs.migrate.text_of.Goals as goal

pub returns-in-Ok-clause-text : goal.returns-in-Ok-clause-text
returns-in-Ok-clause-text c = record { value = c.in-Ok.ensures.0; is = c.in-Ok.ensures.1; file = c.in-Ok.ensures.2 }

pub returns-in-Err-clause-cause : goal.returns-in-Err-clause-cause
returns-in-Err-clause-cause c =
    migration_refused c.args.asked.now c.args.bytes.now c.in-Err.error c.tree_failure.result c.tree_failure.ensures
    c.in-Err.ensures
