use Rattle.std.proofs.Common.{◌++◌, Ok, Err}
use Rattle.esdk_fields.specs.declared.stops.Stop.TheVariants as stops
use Rattle.header_codec.proofs.FoundFronts.{found_sliced}
use Rattle.header_codec.proofs.intake.Intake.take.Goals as goal

pub returns-in-Ok-clause-finds : goal.returns-in-Ok-clause-finds
returns-in-Ok-clause-finds c =
    found_sliced c.loop-rest.self.settings c.args.self.now.settings c.loop-rest.self.taken _ _ c.loop-rest.rest.now (c.args.self.now.taken ++ c.args.piece.now) 65536 (Ok c.in-Ok.found)
    c.loop-rest.invariant.settings c.split_at.ensures.front c.split_at.ensures.back c.loop-rest.invariant.rest tt c.in-Ok.ensures.finds

pub returns-in-Err-Fault-clause-finds : goal.returns-in-Err-Fault-clause-finds
returns-in-Err-Fault-clause-finds c =
    found_sliced c.loop-rest.self.settings c.args.self.now.settings c.loop-rest.self.taken _ _ c.loop-rest.rest.now (c.args.self.now.taken ++ c.args.piece.now) 65536 (Err (stops.Fault c.in-Err-Fault.fault c.in-Err-Fault.at))
    c.loop-rest.invariant.settings c.split_at.ensures.front c.split_at.ensures.back c.loop-rest.invariant.rest tt (rw c.in-Err-Fault.field-0-is at c.in-Err-Fault.ensures.finds)
