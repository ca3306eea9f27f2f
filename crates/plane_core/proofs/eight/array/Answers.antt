use Rattle.std.proofs.Common.{sym}
use Rattle.plane_core.proofs.eight.array.Goals as goal

pub returns-clause-lanes : goal.returns-clause-lanes
returns-clause-lanes c j h = sym (c.exchanged.ensures.lanes j h)
