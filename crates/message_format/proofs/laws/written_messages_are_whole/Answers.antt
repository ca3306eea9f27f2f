use Rattle.message_format.proofs.WrittenMessages.{message_is, text_released}
use Rattle.message_format.proofs.laws.written_messages_are_whole.Goals as goal

pub returns : goal.returns
returns c = record {
  whole = λ text c required size key entries id settings whole writable limits. message_is settings text c required size key entries id whole writable limits;
  text = λ text size some. text_released text size some;
}
