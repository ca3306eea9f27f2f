-- Each of those so far waits.
use Rattle.std.proofs.Common.{◌≡◌, All, length}
use Rattle.esdk_batch.specs.declared.progress.Progress.TheVariants.{Waiting}
use Rattle.esdk_batch.proofs.progress.all_waiting.Given as goal

abbrev pub invariant-loop-made : goal.invariant-loop-made
invariant-loop-made l = record { count : length l.progress.items ≡ l.made; waiting : All (λ one. one ≡ Waiting) l.progress.items }
