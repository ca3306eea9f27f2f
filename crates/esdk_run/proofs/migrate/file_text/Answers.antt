use Rattle.esdk_decrypt.proofs.Concluding.{passed_on}
use Rattle.esdk_run.specs.Migrate.{value_asked}
use Rattle.esdk_run.proofs.Preparing.{file_not_read, file_not_taken}
use Rattle.esdk_run.proofs.migrate.file_text.Goals as goal

pub returns-in_err-bytes-clause-cause : goal.returns-in_err-bytes-clause-cause
returns-in_err-bytes-clause-cause g c =
    passed_on _ c.from_residual.result c.in_err-bytes.field-0.0 c.from_residual.ensures.1
    (file_not_taken (value_asked c.args.asked.now) _ _ _ _ (rw c.as_str.ensures.text at c.in_err-bytes.ensures.cause))

pub returns-clause-cause : goal.returns-clause-cause
returns-clause-cause g c =
    file_not_read (value_asked c.args.asked.now) _ _ _ _ _ c.text_of.result c.bytes-2.ensures
    (rw c.as_str.ensures.text at c.in_ok-bytes.ensures.file) c.text_of.ensures.cause
