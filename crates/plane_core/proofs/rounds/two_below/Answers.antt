use Rattle.plane_core.specs.Bits.{number_of, byte_of}
use Rattle.plane_core.proofs.Bytes.{same_image}
use Rattle.plane_core.proofs.rounds.two_below.Goals as goal

pub returns : goal.returns
unfolding byte_of
returns g c j b h =
    same_image number_of _ _ _ _ _ _ _ _ _ _ _ _ _ _ _ _ (c.two_below.ensures j b h) (c.two_below-2.ensures j b h) (c.two_below-3.ensures j b h) (c.two_below-4.ensures j b h) (c.two_below-5.ensures j b h) (c.two_below-6.ensures j b h) (c.two_below-7.ensures j b h) (c.two_below-8.ensures j b h)
