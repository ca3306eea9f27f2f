use Rattle.esdk_decrypt.specs.Laws.{written_message}
use Rattle.esdk_decrypt.proofs.RoundTrip.{text_decrypted, written_judged, written_unlocked, written_whole}
use Rattle.esdk_decrypt.proofs.WholeInputs.{memory_alone}
use Rattle.esdk_decrypt.proofs.laws.written_messages_are_decrypted.Goals as goal

pub returns : goal.returns
returns c = record {
  judged = λ reader writers m for. (written_unlocked reader writers m for, written_judged reader writers m for);
  text = λ reader writers m input taken output put context for told done. text_decrypted reader writers m input taken output put context for told done;
  decrypts = λ reader writers m input taken output put error for told few source sink ends.
      memory_alone reader input taken output put _ (written_message m) error (written_whole reader writers m input for told few) source sink ends;
}
