use Rattle.esdk_program.proofs.RoundTrip.{armoured_opens, written_opens}
use Rattle.esdk_program.proofs.laws.what_is_written_comes_back.Goals as goal

pub returns : goal.returns
returns c = record {
  plain = λ reader writers m written. written_opens reader writers m written;
  armoured = λ reader writers m written are few. armoured_opens reader writers m written are few;
}
