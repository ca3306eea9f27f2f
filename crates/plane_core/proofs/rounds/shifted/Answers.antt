use Rattle.plane_core.specs.Bits.{number_of, byte_of}
use Rattle.plane_core.proofs.Bytes.{same_image}
use Rattle.plane_core.proofs.rounds.shifted.Goals as goal

pub returns : goal.returns
unfolding byte_of
returns g c j b h =
    same_image number_of _ _ _ _ _ _ _ _ _ _ _ _ _ _ _ _ (c.shifted.ensures j b h) (c.shifted-2.ensures j b h) (c.shifted-3.ensures j b h) (c.shifted-4.ensures j b h) (c.shifted-5.ensures j b h) (c.shifted-6.ensures j b h) (c.shifted-7.ensures j b h) (c.shifted-8.ensures j b h)
