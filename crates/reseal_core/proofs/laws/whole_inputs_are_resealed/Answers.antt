use Rattle.reseal_core.proofs.WholeInputs.{memory_alone, whole_resealed}
use Rattle.reseal_core.proofs.laws.whole_inputs_are_resealed.Goals as goal

pub returns : goal.returns
returns c = record {
  reseals = λ reader keys old new size bytes input taken output put entropy spent error is stayed nothing ends.
      memory_alone reader keys old new size bytes input taken output put entropy spent is stayed nothing _ _ error ends;
  alone = λ reader keys old new size bytes input taken output put entropy spent context told done.
      whole_resealed reader keys old new size bytes input taken output put entropy spent context told done;
}
