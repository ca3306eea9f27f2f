use Rattle.message_format.proofs.RoundTrip.{unlocks_written, reads_written}
use Rattle.message_format.proofs.laws.written_messages_are_read.Goals as goal

pub returns : goal.returns
returns c = λ text c required size key entries id settings writers readers given asked writable limits wrapped unreserved enough asked_given. (
  unlocks_written text c required size key entries id settings writers readers given asked writable limits wrapped unreserved enough asked_given,
  reads_written text c required size key entries id settings writers readers given asked writable limits wrapped unreserved enough asked_given,
)
