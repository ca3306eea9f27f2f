use Rattle.std.proofs.Common.{map, take}
use Rattle.std.specs.List.{concat}
use Rattle.header_codec.specs.Header.{no_limits}
use Rattle.callers.proofs.Opened.{Opening}
use Rattle.callers.proofs.opening.open_pieces.Given as goal

-- the pieces so far were taken
abbrev pub invariant-loop-piece : goal.invariant-loop-piece
invariant-loop-piece g l =
    Opening no_limits (concat (map (λ piece. piece.now) (take l.piece-index l.pieces))) (g.O.Sink.state l.fn.output).written (g.O.Sink.state l.output).written l.opener
