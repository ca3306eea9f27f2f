use Rattle.message_format.specs.Judgement.{judged}
use Rattle.message_format.specs.Reading.{read}
use Rattle.message_format.proofs.Following.{judged_goes_on, trailing_refused}
use Rattle.message_format.proofs.ReadingOn.{read_goes_on}
use Rattle.message_format.proofs.laws.trailing_bytes_are_refused.Goals as goal

pub returns : goal.returns
returns c = record {
  judged = λ settings answer. trailing_refused (λ b. judged b settings answer) (judged_goes_on settings answer);
  read = λ settings given required keys. trailing_refused (λ b. read b settings given required keys) (read_goes_on settings given required keys);
}
