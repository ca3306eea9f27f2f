-- What the file takes is put behind it.
use Rattle.esdk_batch.proofs.Writing.{takes_so}
use Rattle.esdk_batch.proofs.file_end.FileEndReceiver.take.Goals as goal

pub returns : goal.returns
returns g c = takes_so _ _ _ _ c.args.bytes.now c.put.result c.put.ensures.puts c.put.ensures.calls c.put.ensures.cause
