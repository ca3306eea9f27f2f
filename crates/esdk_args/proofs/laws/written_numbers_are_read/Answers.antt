use Rattle.esdk_args.proofs.Numerals.{written}
use Rattle.esdk_args.proofs.laws.written_numbers_are_read.Goals as goal

pub returns : goal.returns
returns c = written
