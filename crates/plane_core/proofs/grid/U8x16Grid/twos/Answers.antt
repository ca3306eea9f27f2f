use Rattle.std.proofs.Common.{◌+◌, ◌-◌, cond}
use Rattle.plane_core.specs.Grid.{bit_row}
use Rattle.plane_core.proofs.Rows.{same_row}
use Rattle.plane_core.proofs.Wires.{is_even}
use Rattle.plane_core.proofs.Lanes.{lane_cell, lane_evens, lane_odds}
use Rattle.plane_core.proofs.grid.U8x16Grid.twos.Goals as goal

pub returns-clause-low : goal.returns-clause-low
unfolding bit_row
returns-clause-low c k =
    let a = c.args.self in
    let b = c.args.other in
    same_row _ (λ i. cond (is_even 2 i) (lane_cell a k i) (lane_cell b k (i - 2)))
    (λ i h. lane_evens 16 2 0x33 tt tt a b c.fits-self.0 c.fits-other.0 c.fits-self.1 c.fits-other.1 k i h)

pub returns-clause-high : goal.returns-clause-high
unfolding bit_row
returns-clause-high c k =
    let a = c.args.self in
    let b = c.args.other in
    same_row _ (λ i. cond (is_even 2 i) (lane_cell a k (i + 2)) (lane_cell b k i))
    (λ i h. lane_odds 16 2 0x33 tt tt a b c.fits-self.0 c.fits-other.0 c.fits-self.1 c.fits-other.1 k i h)
