use Rattle.std.proofs.Common.{◌≡◌, take}
use Rattle.std.specs.Prelude.{None}
use Rattle.esdk_args.specs.Values.{first_fault, values_of}
use Rattle.esdk_args.proofs.values.first_fault.Given as goal

abbrev pub invariant-loop-argument : goal.invariant-loop-argument
invariant-loop-argument l = first_fault (values_of l.fn.matches) (take l.argument-index l.arguments) ≡ None
