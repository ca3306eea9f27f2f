use Rattle.std.proofs.Common.{ℕ, List, sym, ◌∙◌, arith}
use Rattle.plane_core.specs.declared.planes.Planes.{Planes}
use Rattle.plane_core.specs.Places.{lane}
use Rattle.plane_core.proofs.Lanes.{lane_cell}
use Rattle.plane_core.proofs.Blocks.{IsTransposed, by_rows, turned_round}
use Rattle.plane_core.proofs.WideBlocks.{sixteen_blocks, of_low_lanes, of_wide_lanes}
use Rattle.plane_core.proofs.sixteen.stored.Goals as goal

pub returns : goal.returns
returns c =
    let x : Planes (List ℕ) = c.args.x.now in
    let w : Planes (List ℕ) = c.transposed-blocks.result in
    let e : IsTransposed lane_cell x w = turned_round lane_cell w x (by_rows lane_cell w x c.transposed-blocks.ensures) in
    sixteen_blocks _ _ _ _ _ _ _ _ _ _ _ _ _ _ _ _ _ _ _ _ _ _ _ _ _ _ _ _ _ _ _ _
    (sym (of_low_lanes x w e 0 (omega arith) c.array.result c.array.ensures.long c.array.ensures.bytes (λ j h. sym (c.low.ensures (lane j) (omega arith)) ∙ c.array.ensures.lanes j h)))
    (sym (of_low_lanes x w e 1 (omega arith) c.array-2.result c.array-2.ensures.long c.array-2.ensures.bytes (λ j h. sym (c.low-2.ensures (lane j) (omega arith)) ∙ c.array-2.ensures.lanes j h)))
    (sym (of_low_lanes x w e 2 (omega arith) c.array-3.result c.array-3.ensures.long c.array-3.ensures.bytes (λ j h. sym (c.low-3.ensures (lane j) (omega arith)) ∙ c.array-3.ensures.lanes j h)))
    (sym (of_low_lanes x w e 3 (omega arith) c.array-4.result c.array-4.ensures.long c.array-4.ensures.bytes (λ j h. sym (c.low-4.ensures (lane j) (omega arith)) ∙ c.array-4.ensures.lanes j h)))
    (sym (of_low_lanes x w e 4 (omega arith) c.array-5.result c.array-5.ensures.long c.array-5.ensures.bytes (λ j h. sym (c.low-5.ensures (lane j) (omega arith)) ∙ c.array-5.ensures.lanes j h)))
    (sym (of_low_lanes x w e 5 (omega arith) c.array-6.result c.array-6.ensures.long c.array-6.ensures.bytes (λ j h. sym (c.low-6.ensures (lane j) (omega arith)) ∙ c.array-6.ensures.lanes j h)))
    (sym (of_low_lanes x w e 6 (omega arith) c.array-7.result c.array-7.ensures.long c.array-7.ensures.bytes (λ j h. sym (c.low-7.ensures (lane j) (omega arith)) ∙ c.array-7.ensures.lanes j h)))
    (sym (of_low_lanes x w e 7 (omega arith) c.array-8.result c.array-8.ensures.long c.array-8.ensures.bytes (λ j h. sym (c.low-8.ensures (lane j) (omega arith)) ∙ c.array-8.ensures.lanes j h)))
    (sym (of_wide_lanes x w e 1 0 (omega arith) (omega arith) c.array-9.result c.array-9.ensures.long c.array-9.ensures.bytes (λ j h. sym (c.high.ensures (lane j) (omega arith)) ∙ c.array-9.ensures.lanes j h)))
    (sym (of_wide_lanes x w e 1 1 (omega arith) (omega arith) c.array-10.result c.array-10.ensures.long c.array-10.ensures.bytes (λ j h. sym (c.high-2.ensures (lane j) (omega arith)) ∙ c.array-10.ensures.lanes j h)))
    (sym (of_wide_lanes x w e 1 2 (omega arith) (omega arith) c.array-11.result c.array-11.ensures.long c.array-11.ensures.bytes (λ j h. sym (c.high-3.ensures (lane j) (omega arith)) ∙ c.array-11.ensures.lanes j h)))
    (sym (of_wide_lanes x w e 1 3 (omega arith) (omega arith) c.array-12.result c.array-12.ensures.long c.array-12.ensures.bytes (λ j h. sym (c.high-4.ensures (lane j) (omega arith)) ∙ c.array-12.ensures.lanes j h)))
    (sym (of_wide_lanes x w e 1 4 (omega arith) (omega arith) c.array-13.result c.array-13.ensures.long c.array-13.ensures.bytes (λ j h. sym (c.high-5.ensures (lane j) (omega arith)) ∙ c.array-13.ensures.lanes j h)))
    (sym (of_wide_lanes x w e 1 5 (omega arith) (omega arith) c.array-14.result c.array-14.ensures.long c.array-14.ensures.bytes (λ j h. sym (c.high-6.ensures (lane j) (omega arith)) ∙ c.array-14.ensures.lanes j h)))
    (sym (of_wide_lanes x w e 1 6 (omega arith) (omega arith) c.array-15.result c.array-15.ensures.long c.array-15.ensures.bytes (λ j h. sym (c.high-7.ensures (lane j) (omega arith)) ∙ c.array-15.ensures.lanes j h)))
    (sym (of_wide_lanes x w e 1 7 (omega arith) (omega arith) c.array-16.result c.array-16.ensures.long c.array-16.ensures.bytes (λ j h. sym (c.high-8.ensures (lane j) (omega arith)) ∙ c.array-16.ensures.lanes j h)))
