use Rattle.std.proofs.Common.{◌<◌, replicate, refl, arith, w8, bit_and}
use Rattle.std.specs.Simd.Lanes.{zip2}
use Rattle.std.proofs.lemmas.Nat.{and_le_r}
use Rattle.std.proofs.lemmas.Simd.{SwzOk-from_below, Each1-zip2, Each2-splat, Each1-all, length-zip2}
use Rattle.ghash_core.proofs.Lanes.{looked_lane, looked_long}
use Rattle.ghash_core.proofs.product.looked.Goals as goal

pub swizzle : goal.swizzle
swizzle c =
    let v = c.args.v in
    let small = Each1-all (λ a. bit_and a 15 < 16) (λ a. omega (arith, and_le_r a 15)) v in
    SwzOk-from_below w8 16 2 32 0 (zip2 bit_and v (replicate 32 15)) refl (omega (arith, length-zip2 bit_and v (replicate 32 15) c.fits-v.0))
    (Each1-zip2 bit_and (λ j. j < 16) v (replicate 32 15) (Each2-splat (λ a b. bit_and a b < 16) v 32 15 small))

pub returns : goal.returns
returns c = record {
  lanes = λ t i half h. looked_lane c.args.table c.args.v t i c.fits-v.0 half h;
  long = looked_long c.args.table c.args.v c.fits-v.0;
}
