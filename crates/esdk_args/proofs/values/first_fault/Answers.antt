use Rattle.std.proofs.Common.{sym}
use Rattle.esdk_args.specs.declared.commands.Argument.{Argument}
use Rattle.esdk_args.specs.declared.commands.Argument.TheVariants.{Required}
use Rattle.esdk_args.specs.declared.options.NameOption.TheVariants.{Keyring}
use Rattle.esdk_args.specs.declared.options.ValueOption.TheVariants.{Name}
use Rattle.esdk_args.specs.Values.{values_of}
use Rattle.esdk_args.proofs.Arguments.{fault_at, no_fault_at}
use Rattle.esdk_args.proofs.values.first_fault.Goals as goal

-- no argument, behind the last
abbrev none : Argument
none = Required (Name Keyring)

pub returns-in-Some : goal.returns-in-Some
returns-in-Some c =
    sym (fault_at (values_of c.args.matches.now) c.args.arguments.now c.loop-argument.argument-index none c.in-Some.fault
    c.loop-argument-test.true c.loop-argument.invariant (sym c.in-Some.ensures))

pub loop-argument-preserved : goal.loop-argument-preserved
loop-argument-preserved c =
    no_fault_at (values_of c.args.matches.now) c.args.arguments.now c.loop-argument.argument-index none
    c.loop-argument-test.true c.loop-argument.invariant (sym c.in_default.ensures)
