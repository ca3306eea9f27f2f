use Rattle.std.proofs.Common.{◌-◌, ◌+◌, ◌≤◌, length}
use Rattle.whole_input.specs.File.{most_file}
use Rattle.whole_input.specs.Pieces.{most_piece}
use Rattle.whole_input.proofs.Adding.{Adding}
use Rattle.whole_input.proofs.file.fill.Given as goal

abbrev pub invariant-loop-bytes : goal.invariant-loop-bytes
invariant-loop-bytes g l =
    Adding (g.F.Shelf.state l.fn.shelf) (g.F.Shelf.state l.shelf) l.name l.bytes × (length l.bytes ≤ most_file + most_piece)

abbrev pub decreases-loop-bytes : goal.decreases-loop-bytes
decreases-loop-bytes g l = 1048577 - length l.bytes
