use Rattle.stream_open.proofs.Stopping.{stops_exactly}
use Rattle.stream_open.proofs.laws.errors_come_exactly.Goals as goal

pub returns : goal.returns
returns c = stops_exactly
