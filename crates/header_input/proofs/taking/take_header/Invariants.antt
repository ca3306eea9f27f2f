use Rattle.std.proofs.Common.{◌-◌, ◌^◌}
use Rattle.header_input.proofs.Feeding.{Going}
use Rattle.header_input.proofs.taking.take_header.Given as goal

abbrev pub invariant-reading : goal.invariant-reading
invariant-reading g l =
    Going l.fn.settings (g.S.Source.state l.fn.input) (g.S.Source.state l.input) l.pieces.taken l.reader
    × g.S.Source.lasts l.fn.input l.input

abbrev pub decreases-reading : goal.decreases-reading
decreases-reading g l = 2 ^ 62 - l.pieces.taken
