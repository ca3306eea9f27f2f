use Rattle.plane_core.proofs.WideBlocks.{bit_twice, block_of_half}
use Rattle.plane_core.proofs.Blocks.{each_of_eight}
use Rattle.std.proofs.Common.{◌≡◌, ◌%◌, ℕ, List}
use Rattle.plane_core.specs.declared.planes.Planes.{Planes}
use Rattle.plane_core.specs.Grid.{plane_word}
use Rattle.plane_core.specs.Places.{lane_bit, wide_bit}
use Rattle.plane_core.proofs.sixteen.twice.Goals as goal

pub returns : goal.returns
returns c b =
    let x : Planes (List ℕ) = c.args.x.now in
    let p : Planes (List ℕ) = record { b0 = c.joined.result; b1 = c.joined-2.result; b2 = c.joined-3.result; b3 = c.joined-4.result; b4 = c.joined-5.result; b5 = c.joined-6.result; b6 = c.joined-7.result; b7 = c.joined-8.result } in
    block_of_half p x b (b % 8) (λ q j s h. each_of_eight (λ q. wide_bit (plane_word p q) j b ≡ lane_bit (plane_word x q) j (b % 8))
    (bit_twice c.joined.result x.b0 c.joined.ensures.low c.joined.ensures.high j b h)
    (bit_twice c.joined-2.result x.b1 c.joined-2.ensures.low c.joined-2.ensures.high j b h)
    (bit_twice c.joined-3.result x.b2 c.joined-3.ensures.low c.joined-3.ensures.high j b h)
    (bit_twice c.joined-4.result x.b3 c.joined-4.ensures.low c.joined-4.ensures.high j b h)
    (bit_twice c.joined-5.result x.b4 c.joined-5.ensures.low c.joined-5.ensures.high j b h)
    (bit_twice c.joined-6.result x.b5 c.joined-6.ensures.low c.joined-6.ensures.high j b h)
    (bit_twice c.joined-7.result x.b6 c.joined-7.ensures.low c.joined-7.ensures.high j b h)
    (bit_twice c.joined-8.result x.b7 c.joined-8.ensures.low c.joined-8.ensures.high j b h)
    q s)
