-- No plug before the index has the name.
use Rattle.std.proofs.Common.{◌≡◌, take, drop}
use Rattle.keyring_file.specs.Plugs.{taken}
use Rattle.keyring_file.proofs.Taken.{behind}
use Rattle.keyring_file.proofs.plugs.index_of.Given as goal

abbrev pub invariant-loop-index : goal.invariant-loop-index
invariant-loop-index g l = taken l.name l.plugs ≡ behind (take l.index l.plugs) (taken l.name (drop l.index l.plugs))
