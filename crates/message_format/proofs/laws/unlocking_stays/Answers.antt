use Rattle.message_format.specs.Judgement.{judged}
use Rattle.message_format.specs.Reading.{read}
use Rattle.message_format.proofs.Following.{judged_goes_on, unlocking_stays}
use Rattle.message_format.proofs.ReadingOn.{read_goes_on}
use Rattle.message_format.proofs.laws.unlocking_stays.Goals as goal

pub returns : goal.returns
returns c = record {
  judged = λ settings answer. unlocking_stays (λ b. judged b settings answer) (judged_goes_on settings answer);
  read = λ settings given required keys. unlocking_stays (λ b. read b settings given required keys) (read_goes_on settings given required keys);
}
