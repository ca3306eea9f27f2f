use Rattle.esdk_args.proofs.Required.{required_given}
use Rattle.esdk_args.proofs.laws.required_options_are_given.Goals as goal

pub returns : goal.returns
returns c = required_given
