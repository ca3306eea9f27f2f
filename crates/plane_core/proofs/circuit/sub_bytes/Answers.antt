use Rattle.std.proofs.Common.{◌∙◌}
use Rattle.plane_core.specs.Bits.{byte_of}
use Rattle.plane_core.proofs.Sbox.{joined, circuit_is}
use Rattle.plane_core.proofs.circuit.sub_bytes.Goals as goal

pub returns : goal.returns
unfolding byte_of
returns g c j b =
    joined _ _ _ _ _ _ _ _ _ _ _ _ _ _ _ _ _ _ _ _ _ _ _ _ (c.head.ensures j b) (c.inner.ensures j b) (c.tail.ensures j b)
    ∙ circuit_is g.P.Plane.bit g.met.P.Plane.is_bit c.args.x.now j b
