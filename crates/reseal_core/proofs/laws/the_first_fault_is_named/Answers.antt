use Rattle.reseal_core.proofs.WholeInputs.{fault_front}
use Rattle.reseal_core.proofs.laws.the_first_fault_is_named.Goals as goal

pub returns : goal.returns
returns c = λ reader keys old new size bytes input taken output put entropy spent fault told ends.
    fault_front reader keys old new size bytes input taken output put entropy spent fault ends.drawn told ends.is ends.drew
