use Rattle.std.proofs.Common.{◌∙◌, arith}
use Rattle.plane_core.specs.Places.{lane}
use Rattle.plane_core.proofs.sixteen.pair.Goals as goal

pub returns-clause-low : goal.returns-clause-low
returns-clause-low c j h = c.joined.ensures.low (lane j) (omega arith) ∙ c.vector.ensures.lanes j h

pub returns-clause-high : goal.returns-clause-high
returns-clause-high c j h = c.joined.ensures.high (lane j) (omega arith) ∙ c.vector-2.ensures.lanes j h
