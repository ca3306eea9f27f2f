use Rattle.std.proofs.Common.{◌∙◌}
use Rattle.plane_core.specs.Bits.{number_of, byte_of}
use Rattle.plane_core.proofs.Bytes.{same_image, byte_sum}
use Rattle.plane_core.proofs.planes.sum.Goals as goal

pub returns : goal.returns
unfolding byte_of
returns g c j b =
    same_image number_of _ _ _ _ _ _ _ _ _ _ _ _ _ _ _ _ (c.xor.ensures j b) (c.xor-2.ensures j b) (c.xor-3.ensures j b) (c.xor-4.ensures j b) (c.xor-5.ensures j b) (c.xor-6.ensures j b) (c.xor-7.ensures j b) (c.xor-8.ensures j b)
    ∙ byte_sum g.P.Plane.bit g.met.P.Plane.is_bit c.args.x.now c.args.y.now j b
