-- Every job before this one ended.
use Rattle.std.proofs.Common.{◌≡◌, true, All, take}
use Rattle.esdk_batch.specs.Progress.{is_ended}
use Rattle.esdk_batch.proofs.progress.first_running.Given as goal

abbrev pub invariant-loop-at : goal.invariant-loop-at
invariant-loop-at l = All (λ one. is_ended one ≡ true) (take l.at l.progress)
