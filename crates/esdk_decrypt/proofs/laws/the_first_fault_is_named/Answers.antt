use Rattle.esdk_decrypt.proofs.WholeInputs.{first_fault}
use Rattle.esdk_decrypt.proofs.laws.the_first_fault_is_named.Goals as goal

pub returns : goal.returns
returns c = λ reader input taken output put bytes fault told has. first_fault reader input taken output put bytes fault told has
