use Rattle.esdk_decrypt.proofs.WholeInputs.{all_decrypted, memory_alone}
use Rattle.esdk_decrypt.proofs.laws.whole_inputs_are_decrypted.Goals as goal

pub returns : goal.returns
returns c = record {
  decrypts = λ reader input taken output put bytes error whole source sink ends. memory_alone reader input taken output put _ bytes error whole source sink ends;
  alone = λ reader input taken output put context bytes told done. all_decrypted reader input taken output put context bytes told done;
}
