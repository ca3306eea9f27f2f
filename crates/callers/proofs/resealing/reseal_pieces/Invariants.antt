use Rattle.std.proofs.Common.{◌≡◌, map, take}
use Rattle.std.specs.List.{concat}
use Rattle.reseal_core.specs.Session.{new_resealing_session}
use Rattle.reseal_core.specs.Underway.{Reached}
use Rattle.callers.proofs.resealing.reseal_pieces.Given as goal

-- the pieces so far were taken
abbrev pub invariant-loop-piece : goal.invariant-loop-piece
invariant-loop-piece g l = record {
  wraps : (g.B.Manager.state l.sealing).meaning.wraps ≡ (g.B.Manager.state l.fn.sealing).meaning.wraps;
  reached : Reached g.A.Manager.state g.B.Manager.state l.options.now (new_resealing_session l.options.settings l.fn.given l.options.frame_length l.random) (concat (map (λ piece. piece.now) (take l.piece-index l.pieces))) l.fn.opening l.opening l.fn.sealing l.sealing
      (g.O.Sink.state l.fn.output) (g.O.Sink.state l.output) l.resealer;
}
