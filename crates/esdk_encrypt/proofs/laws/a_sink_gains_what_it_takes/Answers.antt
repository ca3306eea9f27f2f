use Rattle.esdk_encrypt.proofs.SinkGains.{sink_gains}
use Rattle.esdk_encrypt.proofs.laws.a_sink_gains_what_it_takes.Goals as goal

pub returns : goal.returns
returns g c = λ old new. sink_gains g.O.Sink.state old new
