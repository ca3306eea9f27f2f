use Rattle.std.proofs.Common.{refl, ◌∙◌, bit_xor}
use Rattle.cipher_spec.specs.Field.{xtime}
use Rattle.plane_core.specs.Bits.{number_of, byte_of}
use Rattle.plane_core.proofs.Bytes.{same_image, by_all_bytes}
use Rattle.plane_core.proofs.planes.doubled.Goals as goal

pub returns : goal.returns
unfolding byte_of
returns g c j b =
    same_image number_of _ _ _ _ _ _ _ _ _ _ _ _ _ _ _ _ refl (c.xor.ensures j b) refl (c.xor-2.ensures j b) (c.xor-3.ensures j b) refl refl refl
    ∙ by_all_bytes g.P.Plane.bit g.met.P.Plane.is_bit
    (λ b0 b1 b2 b3 b4 b5 b6 b7. number_of b7 (bit_xor b0 b7) b1 (bit_xor b2 b7) (bit_xor b3 b7) b4 b5 b6) xtime tt c.args.x.now j b
