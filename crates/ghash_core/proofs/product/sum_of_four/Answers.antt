use Rattle.std.proofs.Common.{bit_xor, get_or, ap, ◌∙◌}
use Rattle.std.specs.Simd.Lanes.{zip2}
use Rattle.ghash_core.proofs.Lanes.{lane_of_two, long_of_two}
use Rattle.ghash_core.proofs.product.sum_of_four.Goals as goal

pub returns : goal.returns
returns c =
    let a = c.args.a in
    let b = c.args.b in
    let d = c.args.c in
    let e = c.args.d in
    let ab = zip2 bit_xor a b in
    let abd = zip2 bit_xor ab d in
    let long_ab = long_of_two bit_xor a b 32 c.fits-a.0 c.fits-b.0 in
    let long_abd = long_of_two bit_xor ab d 32 long_ab c.fits-c.0 in
    record {
      lanes = λ i h.
          lane_of_two bit_xor abd e 32 i long_abd c.fits-d.0 h
          ∙ ap (λ n. bit_xor n (get_or e i 0)) (lane_of_two bit_xor ab d 32 i long_ab c.fits-c.0 h
          ∙ ap (λ n. bit_xor n (get_or d i 0)) (lane_of_two bit_xor a b 32 i c.fits-a.0 c.fits-b.0 h));
      long = long_of_two bit_xor abd e 32 long_abd c.fits-d.0;
    }
