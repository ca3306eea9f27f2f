use Rattle.esdk_run.proofs.file_input.taken.Goals as goal

pub returns-in-Err-clause-cause : goal.returns-in-Err-clause-cause
returns-in-Err-clause-cause g c = (c.in-Err.error, c.file_failure.ensures, c.in-Err.ensures.cause)
