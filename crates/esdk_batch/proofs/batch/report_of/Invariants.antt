-- The lines so far are those of the jobs before this one, and those that are left ended too.
use Rattle.std.proofs.Common.{◌≡◌, ◌++◌, true, All, map}
use Rattle.std.specs.Vec.Iter.{into_iter_items}
use Rattle.esdk_batch.specs.declared.progress.Progress.TheVariants.{Ended}
use Rattle.esdk_batch.specs.Progress.{is_ended}
use Rattle.esdk_batch.proofs.batch.report_of.Given as goal

abbrev pub invariant-loop-one : goal.invariant-loop-one
invariant-loop-one l =
    record {
      whole : l.fn.progress.items ≡ map Ended l.lines.items ++ into_iter_items l.one-iterator;
      ended : All (λ one. is_ended one ≡ true) (into_iter_items l.one-iterator);
    }
