use Rattle.std.proofs.Common.{◌≡◌, ℕ, List, [], get_or, arith}
use Rattle.plane_core.specs.declared.planes.Planes.{Planes}
use Rattle.plane_core.specs.Bits.{block}
use Rattle.plane_core.specs.Places.{lane_bit}
use Rattle.plane_core.proofs.Lanes.{lane_cell}
use Rattle.plane_core.proofs.Blocks.{each_of_eight, IsTransposed, by_rows, of_lanes}
use Rattle.plane_core.proofs.eight.loaded.Goals as goal

pub returns : goal.returns
returns c =
    let t : Planes (List ℕ) = c.transposed.result in
    let r : Planes (List ℕ) = record { b0 = c.vector.result; b1 = c.vector-2.result; b2 = c.vector-3.result; b3 = c.vector-4.result; b4 = c.vector-5.result; b5 = c.vector-6.result; b6 = c.vector-7.result; b7 = c.vector-8.result } in
    let e : IsTransposed lane_cell t r = by_rows lane_cell t r c.transposed.ensures in
    each_of_eight (λ b. block lane_bit t b ≡ get_or c.args.x.now b [])
    (of_lanes t r e 0 (omega arith) (get_or c.args.x.now 0 []) c.vector.ensures.long c.vector.ensures.bytes c.vector.ensures.lanes)
    (of_lanes t r e 1 (omega arith) (get_or c.args.x.now 1 []) c.vector-2.ensures.long c.vector-2.ensures.bytes c.vector-2.ensures.lanes)
    (of_lanes t r e 2 (omega arith) (get_or c.args.x.now 2 []) c.vector-3.ensures.long c.vector-3.ensures.bytes c.vector-3.ensures.lanes)
    (of_lanes t r e 3 (omega arith) (get_or c.args.x.now 3 []) c.vector-4.ensures.long c.vector-4.ensures.bytes c.vector-4.ensures.lanes)
    (of_lanes t r e 4 (omega arith) (get_or c.args.x.now 4 []) c.vector-5.ensures.long c.vector-5.ensures.bytes c.vector-5.ensures.lanes)
    (of_lanes t r e 5 (omega arith) (get_or c.args.x.now 5 []) c.vector-6.ensures.long c.vector-6.ensures.bytes c.vector-6.ensures.lanes)
    (of_lanes t r e 6 (omega arith) (get_or c.args.x.now 6 []) c.vector-7.ensures.long c.vector-7.ensures.bytes c.vector-7.ensures.lanes)
    (of_lanes t r e 7 (omega arith) (get_or c.args.x.now 7 []) c.vector-8.ensures.long c.vector-8.ensures.bytes c.vector-8.ensures.lanes)
