-- None of the values before this one has the name.
use Rattle.std.proofs.Common.{◌≢◌, All, take}
use Rattle.esdk_system.proofs.named.place_of.Given as goal

abbrev pub invariant-loop-at : goal.invariant-loop-at
invariant-loop-at g l = All (λ one. one.name ≢ l.name) (take l.at l.values)
