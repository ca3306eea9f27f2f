use Rattle.esdk_args.specs.declared.request.WordsFault.TheVariants.{NotRead, BadNumber}
use Rattle.std.proofs.Common.{◌≢◌}
use Rattle.esdk_args.specs.declared.options.OptionName.{OptionName}
use Rattle.esdk_args.proofs.Faults.{fault_is, fault_named}
use Rattle.esdk_args.proofs.laws.bad_numbers_are_named.Goals as goal

other : (name : OptionName) → BadNumber name ≢ NotRead
other name e = cc

pub returns : goal.returns
returns c = λ words name. (fault_is words (BadNumber name) (other name), fault_named words (BadNumber name))
