use Rattle.std.proofs.Common.{◌≡◌, ◌-◌, ◌≤◌, ℕ, List, ◌++◌, length, take}
use Rattle.esdk_base.specs.Streams.{SinkState}
use Rattle.context_codec.specs.Context.{KeyValue}
use Rattle.header_codec.specs.declared.settings.Settings.{Settings}
use Rattle.reseal_core.specs.Session.{new_resealing_session}
use Rattle.reseal_core.specs.Underway.{Reached}
use Rattle.callers.proofs.resealing.take_piece.Given as goal

-- so many bytes of the piece were taken
abbrev pub invariant-steps : goal.invariant-steps
invariant-steps g l = record {
  within : l.taken ≤ length l.piece;
  wraps : (g.B.Manager.state l.sealing).meaning.wraps ≡ (g.B.Manager.state l.fn.sealing).meaning.wraps;
  reached : (settings : Settings) (given : List KeyValue) (size : ℕ) (random bytes : List ℕ) (first : g.row.A.Denot) (begun : g.row.B.Denot) (before : SinkState)
      → Reached g.A.Manager.state g.B.Manager.state l.now (new_resealing_session settings given size random) bytes first l.fn.opening begun l.fn.sealing before (g.O.Sink.state l.fn.output) l.fn.resealer
      → Reached g.A.Manager.state g.B.Manager.state l.now (new_resealing_session settings given size random) (bytes ++ take l.taken l.piece) first l.opening begun l.sealing before (g.O.Sink.state l.output) l.resealer;
}

abbrev pub decreases-steps : goal.decreases-steps
decreases-steps g l = length l.piece - l.taken
