-- The jobs before this one that hadn't ended had their turns.
use Rattle.std.proofs.Common.{◌≤◌, ℕ}
use Rattle.std.specs.Prelude.{All}
use Rattle.desk_core.specs.Stands.{journal_of, last_of, manager_of}
use Rattle.esdk_base.specs.Streams.{ShelfState}
use Rattle.esdk_batch.specs.Failures.{JobsCounted, Tally, tally_of}
use Rattle.esdk_batch.specs.Keeping.{IsBeyond, KeepsSessions}
use Rattle.esdk_batch.specs.Moments.{ReadsClock}
use Rattle.esdk_batch.specs.Rounds.{all_waits}
use Rattle.esdk_batch.specs.ShelfCalls.{JobsCall}
use Rattle.esdk_batch.proofs.Windows.{RoundOn}
use Rattle.esdk_batch.proofs.rounds.run_round.Given as goal

abbrev pub invariant-loop-at : goal.invariant-loop-at
invariant-loop-at g l = record {
  on : RoundOn g.M.Manager.state
      l.jobs l.width l.first l.fn.desk l.desk l.fn.progress l.progress (g.F.Shelf.state l.fn.shelf) (g.F.Shelf.state l.shelf)
      (g.W.Entropy.state l.fn.entropy) (g.W.Entropy.state l.entropy) l.at l.turns;
  counts : (began : Tally) → JobsCounted l.jobs began (tally_of (g.F.Shelf.state l.fn.shelf) (g.W.Entropy.state l.fn.entropy).faults (g.M.Manager.state (manager_of l.fn.desk)).meaning.faults) l.fn.progress
      → JobsCounted l.jobs began (tally_of (g.F.Shelf.state l.shelf) (g.W.Entropy.state l.entropy).faults (g.M.Manager.state (manager_of l.desk)).meaning.faults) l.progress;
  calls : (began : ShelfState) → JobsCall l.jobs began (g.F.Shelf.state l.fn.shelf) l.fn.progress → JobsCall l.jobs began (g.F.Shelf.state l.shelf) l.progress;
  moments : ReadsClock (g.C.Clock.state l.fn.clock) (g.C.Clock.state l.clock) (journal_of l.fn.desk) (journal_of l.desk);
  sessions : (last : ℕ) → last ≤ last_of l.fn.desk → All (IsBeyond last) l.fn.progress
      → KeepsSessions last (all_waits l.fn.progress) l.fn.desk l.desk × All (IsBeyond last) l.progress;
}
