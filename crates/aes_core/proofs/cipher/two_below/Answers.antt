use Rattle.std.proofs.Common.{arith}
use Rattle.plane_core.specs.Places.{below, shifted}
use Rattle.plane_core.proofs.Lanes.{lane_moved}
use Rattle.aes_core.proofs.cipher.two_below.Goals as goal

pub returns : goal.returns
returns c j h = lane_moved 16 (λ j. shifted (below 2 j)) c.args.v c.fits-v.0 j h (omega arith)
