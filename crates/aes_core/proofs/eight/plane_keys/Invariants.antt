use Rattle.plane_core.specs.Places.{lane_bit}
use Rattle.aes_core.proofs.KeyPlanes.{AreBegun}
use Rattle.aes_core.proofs.eight.plane_keys.Given as goal

abbrev pub invariant-keys : goal.invariant-keys
invariant-keys l = AreBegun lane_bit 8 l.keys l.schedule l.r
