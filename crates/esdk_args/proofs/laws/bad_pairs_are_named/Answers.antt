use Rattle.esdk_args.specs.declared.request.WordsFault.TheVariants.{NotRead, BadPair}
use Rattle.std.proofs.Common.{◌≢◌, ℕ}
use Rattle.esdk_args.proofs.Faults.{fault_is, fault_named}
use Rattle.esdk_args.proofs.laws.bad_pairs_are_named.Goals as goal

other : (n : ℕ) → BadPair n ≢ NotRead
other n e = cc

pub returns : goal.returns
returns c = λ words n. (fault_is words (BadPair n) (other n), fault_named words (BadPair n))
