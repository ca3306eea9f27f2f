-- The set has the key of the file exactly if the file is known.
use Rattle.esdk_system.proofs.Known.{looked_up}
use Rattle.esdk_system.proofs.identity.KnownFiles.knows.Goals as goal

pub returns : goal.returns
returns c = looked_up c.args.self.now.files c.args.file c.contains.result c.contains.ensures
