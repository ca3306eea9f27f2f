use Rattle.std.proofs.Common.{◌≡◌, ◌-◌, ◌≤◌, ℕ, List, ◌++◌, length, take}
use Rattle.keyring_trait.specs.Manager.{Went}
use Rattle.c_session.specs.Resealing.{HowResealed, ResealerIsReady, ResealsSoFar}
use Rattle.c_session.proofs.resealing.feed_tray.Given as goal

-- so many bytes of the piece were stepped through
abbrev pub invariant-steps : goal.invariant-steps
invariant-steps g l = record {
  within : l.fed ≤ length l.piece;
  none : l.tray.faults ≡ 0;
  ready : ResealerIsReady l.resealer (g.B.Manager.state l.sealing).meaning.wraps;
  opening : Went (g.A.Manager.state l.fn.opening) (g.A.Manager.state l.opening);
  sealing : Went (g.B.Manager.state l.fn.sealing) (g.B.Manager.state l.sealing);
  so_far : (how : HowResealed) (begun : g.row.A.Denot) (first : g.row.B.Denot) (taken given : List ℕ)
      → ResealsSoFar g.A.Manager.state g.B.Manager.state how begun l.fn.opening first l.fn.sealing l.fn.resealer taken (given ++ l.fn.tray.waiting)
      → ResealsSoFar g.A.Manager.state g.B.Manager.state how begun l.opening first l.sealing l.resealer (taken ++ take l.fed l.piece) (given ++ l.tray.waiting);
}

abbrev pub decreases-steps : goal.decreases-steps
decreases-steps g l = length l.piece - l.fed
