use Rattle.std.proofs.Common.{bit_xor}
use Rattle.ghash_core.proofs.Lanes.{lane_of_two, long_of_two}
use Rattle.ghash_core.proofs.product.sum_of_two.Goals as goal

pub returns : goal.returns
returns c = record {
  lanes = λ i h. lane_of_two bit_xor c.args.a c.args.b 32 i c.fits-a.0 c.fits-b.0 h;
  long = long_of_two bit_xor c.args.a c.args.b 32 c.fits-a.0 c.fits-b.0;
}
