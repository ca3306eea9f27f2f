use Rattle.std.proofs.Common.{◌-◌, ◌≤◌, length, take}
use Rattle.keyring_trait.specs.Manager.{Went}
use Rattle.stream_open.specs.Receiving.{FedWhole}
use Rattle.stream_open.specs.Session.{OpeningValue}
use Rattle.stream_open.specs.Stands.{Stands}
use Rattle.stream_open.proofs.session.Opener.feed.Given as goal

abbrev pub invariant-loop-fed : goal.invariant-loop-fed
invariant-loop-fed g l = record {
  within : l.fed ≤ length l.piece;
  went : Went (g.M.Manager.state l.fn.manager) (g.M.Manager.state l.manager);
  whole : (v : OpeningValue) → Stands l.fn.self v
      → FedWhole g.M.Manager.state g.R.Receiver.takes l.now v (take l.fed l.piece) l.fn.manager l.manager l.fn.output l.output l.self;
}

abbrev pub decreases-loop-fed : goal.decreases-loop-fed
decreases-loop-fed g l = length l.piece - l.fed
