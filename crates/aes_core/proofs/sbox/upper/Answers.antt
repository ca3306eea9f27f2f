use Rattle.std.proofs.Common.{◌/◌, ◌^◌}
use Rattle.aes_core.proofs.Groups.{lane_of_one}
use Rattle.aes_core.proofs.sbox.upper.Goals as goal

pub returns : goal.returns
returns c p h = lane_of_one (λ x s. x / 2 ^ s) c.args.x p 4 c.fits-x.0 h
