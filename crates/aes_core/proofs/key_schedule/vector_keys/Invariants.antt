use Rattle.aes_core.proofs.VectorKeys.{AreBegun}
use Rattle.aes_core.proofs.key_schedule.vector_keys.Given as goal

abbrev pub invariant-inner : goal.invariant-inner
invariant-inner l = AreBegun l.keys l.schedule l.r
