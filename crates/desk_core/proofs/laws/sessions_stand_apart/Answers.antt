use Rattle.desk_core.proofs.Apart.{acts_alone, hands_its_own}
use Rattle.desk_core.proofs.laws.sessions_stand_apart.Goals as goal

pub returns-clause-call : goal.returns-clause-call
returns-clause-call c = acts_alone

pub returns-clause-calls : goal.returns-clause-calls
returns-clause-calls c = hands_its_own
