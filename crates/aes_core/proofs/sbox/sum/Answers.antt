use Rattle.std.proofs.Common.{bit_xor}
use Rattle.aes_core.proofs.Groups.{lane_of_two, long_of_two}
use Rattle.aes_core.proofs.sbox.sum.Goals as goal

pub returns : goal.returns
returns c = record {
  lanes = λ p h. lane_of_two bit_xor c.args.x c.args.y p c.fits-x.0 c.fits-y.0 h;
  long = long_of_two bit_xor c.args.x c.args.y c.fits-x.0 c.fits-y.0;
}
