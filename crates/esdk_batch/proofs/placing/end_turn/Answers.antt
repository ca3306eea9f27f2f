-- The job is so far as putting its file in its place says.
use Rattle.std.proofs.Common.{sym, subst}
use Rattle.esdk_batch.specs.declared.progress.Progress.{Progress}
use Rattle.esdk_batch.specs.Placing.{PutsInPlace}
use Rattle.esdk_batch.specs.ShelfCalls.{FinishesBy}
use Rattle.esdk_batch.proofs.placing.end_turn.Goals as goal

pub returns-clause-puts : goal.returns-clause-puts
returns-clause-puts g c =
    subst (λ (p : Progress). PutsInPlace c.args.next p (g.F.Shelf.state c.args.shelf.now) (g.F.Shelf.state c.put_in_place.new.shelf)) (sym c.replace.ensures.after) c.put_in_place.ensures.puts

pub returns-clause-calls : goal.returns-clause-calls
returns-clause-calls g c =
    subst (λ (p : Progress). FinishesBy c.args.job.now c.args.next p (g.F.Shelf.state c.args.shelf.now) (g.F.Shelf.state c.put_in_place.new.shelf)) (sym c.replace.ensures.after) c.put_in_place.ensures.calls
