use Rattle.std.proofs.Common.{ap}
use Rattle.esdk_program.proofs.Keeping.{keeps}
use Rattle.esdk_program.proofs.Programs.{does, words_frame}
use Rattle.esdk_program.proofs.program.run_program.Goals as goal

pub returns-clause-does : goal.returns-clause-does
returns-clause-does g c =
    does _ _ _ _ _ _ _ (λ same. ap g.O.Sink.state same) (words_frame _) c.run.ensures.runs c.run.ensures.promises

pub returns-clause-keeps : goal.returns-clause-keeps
returns-clause-keeps g c = keeps _ _ _ _ _ _ _ c.run.ensures.runs c.run.ensures.promises (λ same. ap g.F.Shelf.state same)

pub returns-clause-course : goal.returns-clause-course
returns-clause-course g c = c.run.ensures.runs

pub returns-clause-promises : goal.returns-clause-promises
returns-clause-promises g c = c.run.ensures.promises
