-- Where a write fails, what was noted is a front of the bytes.
use Rattle.esdk_system.proofs.Fronts.{front_is_noted}
use Rattle.esdk_system.proofs.std_sink.StdSink.hand_on.Goals as goal

pub returns-in_default-clause-bytes : goal.returns-in_default-clause-bytes
returns-in_default-clause-bytes g c =
    rw (← c.self.view_is) (front_is_noted _ _ _ _ _ _ c.loop-rest.invariant.0)

pub returns-then-count-eq0-clause-bytes : goal.returns-then-count-eq0-clause-bytes
returns-then-count-eq0-clause-bytes g c =
    rw (← c.self.view_is) (front_is_noted _ _ _ _ _ _ c.loop-rest.invariant.0)
