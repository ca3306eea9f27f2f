use Rattle.std.proofs.Common.{◌≡◌, subst}
use Rattle.cipher_spec.specs.Ghash.{times}
use Rattle.ghash_core.specs.Tables.{IsPlanes}
use Rattle.ghash_core.proofs.Ring.{times-lt}
use Rattle.ghash_core.proofs.product.put_powers.Goals as goal

pub returns : goal.returns
returns c =
    let h = c.args.h in
    let small = c.ranges.h.fits in
    let first = c.put_planes.ensures in
    let two : c.times-two.result ≡ times h h = c.times-two.ensures h small first in
    let second = subst (IsPlanes c.put_planes-2.new.planes) two c.put_planes-2.ensures in
    let three : c.times-three.result ≡ times h (times h h) = c.times-three.ensures (times h h) (times-lt h h small) second in
    let third = subst (IsPlanes c.put_planes-3.new.planes) three c.put_planes-3.ensures in
    let four : c.times-four.result ≡ times h (times h (times h h)) = c.times-four.ensures (times h (times h h)) (times-lt h (times h h) (times-lt h h small)) third in
    let fourth = subst (IsPlanes c.put_planes-4.new.planes) four c.put_planes-4.ensures in
    record { small = small; first = first; second = second; third = third; fourth = fourth }
