use Rattle.desk_core.proofs.Fed.{feeds_machines}
use Rattle.desk_core.proofs.laws.sessions_are_fed_as_their_machines.Goals as goal

pub returns : goal.returns
returns c = feeds_machines
