use Rattle.std.proofs.Common.{map, take}
use Rattle.std.specs.List.{concat}
use Rattle.callers.proofs.Sealed.{Sealing}
use Rattle.callers.proofs.sealing.seal_pieces.Given as goal

-- the pieces so far were taken
abbrev pub invariant-loop-piece : goal.invariant-loop-piece
invariant-loop-piece g l =
    Sealing l.materials l.frame_length l.message_id (concat (map (λ piece. piece.now) (take l.piece-index l.pieces))) (g.O.Sink.state l.fn.output).written (g.O.Sink.state l.output).written l.sealer
