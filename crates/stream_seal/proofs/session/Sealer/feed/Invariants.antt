use Rattle.std.proofs.Common.{◌≡◌, ℕ, List, [], false, length}
use Rattle.stream_seal.specs.Feeding.{IsFeeding}
use Rattle.stream_seal.specs.Session.{SealingValue}
use Rattle.stream_seal.specs.Stands.{Stands, work_of}
use Rattle.stream_seal.proofs.FedReceivers.{Feeding}
use Rattle.stream_seal.proofs.FedSealers.{GoesOn}
use Rattle.stream_seal.proofs.session.Sealer.feed.Given as goal

abbrev pub invariant-loop-left : goal.invariant-loop-left
invariant-loop-left g l = record {
  feeds : (v : SealingValue) → Stands l.fn.self v → IsFeeding v l.piece
      → Feeding g.R.Receiver.takes g.R.Receiver.fails v l.piece l.fn.output l.output l.self l.left;
  still : (v : SealingValue) → Stands l.fn.self v → v.stopped ≡ false
      → GoesOn v l.piece l.self l.left;
  handed : (v : SealingValue) → Stands l.fn.self v → v.stopped ≡ false
      → (given : List ℕ) × g.R.Receiver.takes l.fn.output l.output given;
  empty : l.piece ≡ [] → (l.left ≡ []) × (l.self ≡ l.fn.self) × (l.output ≡ l.fn.output);
}

abbrev pub decreases-loop-left : goal.decreases-loop-left
decreases-loop-left g l = work_of l.self (length l.left)
