use Rattle.batch_report.proofs.Readings.{lines_first}
use Rattle.batch_report.proofs.laws.a_report_has_one_reading.Goals as goal

pub returns : goal.returns
returns c = lines_first 1
