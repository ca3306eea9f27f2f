use Rattle.esdk_report.proofs.Gained.{gains_by_put}
use Rattle.esdk_report.proofs.report.put_line.Goals as goal

pub returns : goal.returns
returns g c = gains_by_put c.put.result c.args.line.now _ _ c.put.ensures.bytes c.put.ensures.cause
