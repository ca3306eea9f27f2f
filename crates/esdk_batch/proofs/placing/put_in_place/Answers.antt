-- The job's file is finished by one call, for those who may read it.
use Rattle.std.proofs.Common.{ap, inl, inr, subst, sym}
use Rattle.esdk_batch.specs.declared.progress.Progress.{Progress}
use Rattle.esdk_batch.specs.declared.progress.Progress.TheVariants as stages
use Rattle.esdk_batch.specs.ShelfCalls.{FinishesBy}
use Rattle.esdk_batch.proofs.placing.put_in_place.Goals as goal

pub returns-in-Ok-clause-calls : goal.returns-in-Ok-clause-calls
returns-in-Ok-clause-calls g c =
    subst (λ (n : Progress). FinishesBy c.args.job.now n (stages.Ended c.in-Ended.line) (g.F.Shelf.state c.args.shelf.now) (g.F.Shelf.state c.finish.new.self)) (sym c.in-Ended.is)
    (inl (rw (c.as_str.ensures.text, c.readers_of.ensures) at c.in-Ok.ensures.calls))

pub returns-in-Err-clause-calls : goal.returns-in-Err-clause-calls
returns-in-Err-clause-calls g c =
    subst (λ (n : Progress). FinishesBy c.args.job.now n (stages.Ended c.unplaced_line.result) (g.F.Shelf.state c.args.shelf.now) (g.F.Shelf.state c.finish.new.self)) (sym c.in-Ended.is)
    (elim c.in-Err.ensures.calls [
      | inl same ↦ inr (same, ap stages.Ended c.unplaced_line.ensures, c.in-Err.ensures.cause.failed)
      | inr told ↦ inl (rw (c.as_str.ensures.text, c.readers_of.ensures) at told)
    ])
