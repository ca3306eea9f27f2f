use Rattle.std.proofs.Common.{◌≡◌, ℕ, List, [], get_or, arith}
use Rattle.plane_core.specs.declared.planes.Planes.{Planes}
use Rattle.plane_core.specs.Bits.{block}
use Rattle.plane_core.specs.Places.{wide_bit}
use Rattle.plane_core.proofs.Lanes.{lane_cell}
use Rattle.plane_core.proofs.Blocks.{IsTransposed, by_rows}
use Rattle.plane_core.proofs.WideBlocks.{each_of_sixteen, of_low_lanes, of_wide_lanes}
use Rattle.plane_core.proofs.sixteen.loaded.Goals as goal

pub returns : goal.returns
returns c =
    let t : Planes (List ℕ) = c.transposed.result in
    let r : Planes (List ℕ) = record { b0 = c.pair.result; b1 = c.pair-2.result; b2 = c.pair-3.result; b3 = c.pair-4.result; b4 = c.pair-5.result; b5 = c.pair-6.result; b6 = c.pair-7.result; b7 = c.pair-8.result } in
    let e : IsTransposed lane_cell t r = by_rows lane_cell t r c.transposed.ensures in
    each_of_sixteen (λ b. block wide_bit t b ≡ get_or c.args.x.now b [])
    (of_low_lanes t r e 0 (omega arith) (get_or c.args.x.now 0 []) c.pair.ensures.long c.pair.ensures.bytes c.pair.ensures.low)
    (of_low_lanes t r e 1 (omega arith) (get_or c.args.x.now 1 []) c.pair-2.ensures.long c.pair-2.ensures.bytes c.pair-2.ensures.low)
    (of_low_lanes t r e 2 (omega arith) (get_or c.args.x.now 2 []) c.pair-3.ensures.long c.pair-3.ensures.bytes c.pair-3.ensures.low)
    (of_low_lanes t r e 3 (omega arith) (get_or c.args.x.now 3 []) c.pair-4.ensures.long c.pair-4.ensures.bytes c.pair-4.ensures.low)
    (of_low_lanes t r e 4 (omega arith) (get_or c.args.x.now 4 []) c.pair-5.ensures.long c.pair-5.ensures.bytes c.pair-5.ensures.low)
    (of_low_lanes t r e 5 (omega arith) (get_or c.args.x.now 5 []) c.pair-6.ensures.long c.pair-6.ensures.bytes c.pair-6.ensures.low)
    (of_low_lanes t r e 6 (omega arith) (get_or c.args.x.now 6 []) c.pair-7.ensures.long c.pair-7.ensures.bytes c.pair-7.ensures.low)
    (of_low_lanes t r e 7 (omega arith) (get_or c.args.x.now 7 []) c.pair-8.ensures.long c.pair-8.ensures.bytes c.pair-8.ensures.low)
    (of_wide_lanes t r e 1 0 (omega arith) (omega arith) (get_or c.args.x.now 8 []) c.pair.ensures.long_high c.pair.ensures.bytes_high c.pair.ensures.high)
    (of_wide_lanes t r e 1 1 (omega arith) (omega arith) (get_or c.args.x.now 9 []) c.pair-2.ensures.long_high c.pair-2.ensures.bytes_high c.pair-2.ensures.high)
    (of_wide_lanes t r e 1 2 (omega arith) (omega arith) (get_or c.args.x.now 10 []) c.pair-3.ensures.long_high c.pair-3.ensures.bytes_high c.pair-3.ensures.high)
    (of_wide_lanes t r e 1 3 (omega arith) (omega arith) (get_or c.args.x.now 11 []) c.pair-4.ensures.long_high c.pair-4.ensures.bytes_high c.pair-4.ensures.high)
    (of_wide_lanes t r e 1 4 (omega arith) (omega arith) (get_or c.args.x.now 12 []) c.pair-5.ensures.long_high c.pair-5.ensures.bytes_high c.pair-5.ensures.high)
    (of_wide_lanes t r e 1 5 (omega arith) (omega arith) (get_or c.args.x.now 13 []) c.pair-6.ensures.long_high c.pair-6.ensures.bytes_high c.pair-6.ensures.high)
    (of_wide_lanes t r e 1 6 (omega arith) (omega arith) (get_or c.args.x.now 14 []) c.pair-7.ensures.long_high c.pair-7.ensures.bytes_high c.pair-7.ensures.high)
    (of_wide_lanes t r e 1 7 (omega arith) (omega arith) (get_or c.args.x.now 15 []) c.pair-8.ensures.long_high c.pair-8.ensures.bytes_high c.pair-8.ensures.high)
