use Rattle.std.proofs.Common.{◌≡◌, ◌-◌, length}
use Rattle.armour_core.proofs.Outputs.{Handing, held_of}
use Rattle.armour_core.proofs.output.ArmouredOutputReceiver.take.Given as goal

abbrev pub invariant-loop-used : goal.invariant-loop-used
invariant-loop-used g l =
    (l.self.output.ghost_name ≡ l.fn.self.output.ghost_name)
    × Handing g.R.Receiver.takes l.fn.self.output.now l.self.output.now (held_of l.fn.self.armour) (held_of l.self.armour) l.fn.bytes l.used

abbrev pub decreases-loop-used : goal.decreases-loop-used
decreases-loop-used g l = length l.fn.bytes - l.used
