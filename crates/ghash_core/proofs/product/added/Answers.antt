use Rattle.std.proofs.Common.{◌+◌, ◌*◌, Fits, w8, bit_xor, arith}
use Rattle.std.proofs.lemmas.Simd.{Each1-get_or}
use Rattle.ghash_core.proofs.Lanes.{added_lane, long_of_two}
use Rattle.ghash_core.proofs.product.added.Goals as goal

pub returns : goal.returns
returns c = record {
  lanes = λ h k is t i half within.
      let x = c.args.x in
      let b = Each1-get_or (Fits w8) x (16 * t + i) 0 (omega (arith, c.fits-x.0)) c.fits-x.1 in
      added_lane h k t i c.args.plane.now x c.looked.result c.looked-2.result is half within c.fits-x.0 c.looked.ensures.long c.looked-2.ensures.long b.fits (c.looked.ensures.lanes t i half within) (c.looked-2.ensures.lanes t i half within);
  long = long_of_two bit_xor c.looked.result c.looked-2.result 32 c.looked.ensures.long c.looked-2.ensures.long;
}
