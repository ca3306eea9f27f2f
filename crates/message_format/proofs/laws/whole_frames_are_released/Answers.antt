use Rattle.message_format.proofs.RoundTrip.{reads_front}
use Rattle.message_format.proofs.WrittenMessages.{front_is, front_released}
use Rattle.message_format.proofs.laws.whole_frames_are_released.Goals as goal

pub returns : goal.returns
returns c = record {
  judged = λ text c required size key entries id settings whole n writable limits within. front_is settings text c required size key entries id whole n writable limits within;
  read = λ text c required size key entries id settings writers readers given asked n writable limits wrapped unreserved enough asked_given within. reads_front text c required size key entries id settings writers readers given asked n writable limits wrapped unreserved enough asked_given within;
  text = λ text size m unlocked. front_released text size m unlocked;
}
