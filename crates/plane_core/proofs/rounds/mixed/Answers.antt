use Rattle.std.proofs.Common.{◌≡◌, ◌<◌, ap, ◌∙◌, arith}
use Rattle.plane_core.specs.Bits.{byte_of}
use Rattle.plane_core.specs.Places.{below}
use Rattle.plane_core.proofs.Bytes.{byte_below}
use Rattle.plane_core.proofs.States.{mix_is}
use Rattle.plane_core.proofs.rounds.mixed.Goals as goal

pub returns : goal.returns
returns g c j b h =
    let bit = g.P.Plane.bit in
    let x = c.args.x.now in
    let two : below 2 j < 16 = omega arith in
    let e : below 1 (below 2 j) ≡ below 3 j = omega arith in
    let is_byte = byte_below bit g.met.P.Plane.is_bit x in
    let third : byte_of bit c.below-next.result (below 2 j) b ≡ byte_of bit x (below 3 j) b = c.below-next.ensures (below 2 j) b two ∙ ap (λ i. byte_of bit x i b) e in
    c.sum-2.ensures j b
    ∙ rw (c.sum.ensures j b, c.doubled.ensures j b, c.two_below.ensures j b h, c.sum-s.ensures j b, c.sum-s.ensures (below 2 j) b, third, c.below-next.ensures j b h)
    (mix_is _ _ _ _ (is_byte j b) (is_byte (below 1 j) b))
