-- The set has the key of one file more.
use Rattle.esdk_system.proofs.Known.{known_after}
use Rattle.esdk_system.proofs.identity.KnownFiles.remember.Goals as goal

pub returns-clause-ok : goal.returns-clause-ok
returns-clause-ok c = known_after c.args.self.now.files c.insert.new.self c.args.file c.in_ok-insert.ensures.updates
