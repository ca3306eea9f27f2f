use Rattle.std.proofs.Common.{ℕ, List, sym, arith}
use Rattle.plane_core.specs.declared.planes.Planes.{Planes}
use Rattle.plane_core.proofs.Lanes.{lane_cell}
use Rattle.plane_core.proofs.Blocks.{eight_blocks, IsTransposed, by_rows, turned_round, of_lanes}
use Rattle.plane_core.proofs.eight.stored.Goals as goal

pub returns : goal.returns
returns c =
    let x : Planes (List ℕ) = c.args.x.now in
    let w : Planes (List ℕ) = c.transposed-blocks.result in
    let e : IsTransposed lane_cell x w = turned_round lane_cell w x (by_rows lane_cell w x c.transposed-blocks.ensures) in
    eight_blocks _ _ _ _ _ _ _ _ _ _ _ _ _ _ _ _
    (sym (of_lanes x w e 0 (omega arith) c.array.result c.array.ensures.long c.array.ensures.bytes c.array.ensures.lanes))
    (sym (of_lanes x w e 1 (omega arith) c.array-2.result c.array-2.ensures.long c.array-2.ensures.bytes c.array-2.ensures.lanes))
    (sym (of_lanes x w e 2 (omega arith) c.array-3.result c.array-3.ensures.long c.array-3.ensures.bytes c.array-3.ensures.lanes))
    (sym (of_lanes x w e 3 (omega arith) c.array-4.result c.array-4.ensures.long c.array-4.ensures.bytes c.array-4.ensures.lanes))
    (sym (of_lanes x w e 4 (omega arith) c.array-5.result c.array-5.ensures.long c.array-5.ensures.bytes c.array-5.ensures.lanes))
    (sym (of_lanes x w e 5 (omega arith) c.array-6.result c.array-6.ensures.long c.array-6.ensures.bytes c.array-6.ensures.lanes))
    (sym (of_lanes x w e 6 (omega arith) c.array-7.result c.array-7.ensures.long c.array-7.ensures.bytes c.array-7.ensures.lanes))
    (sym (of_lanes x w e 7 (omega arith) c.array-8.result c.array-8.ensures.long c.array-8.ensures.bytes c.array-8.ensures.lanes))
