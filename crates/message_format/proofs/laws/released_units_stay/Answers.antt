use Rattle.message_format.specs.Judgement.{judged}
use Rattle.message_format.specs.Reading.{read}
use Rattle.message_format.proofs.Following.{judged_goes_on, units_stay}
use Rattle.message_format.proofs.ReadingOn.{read_goes_on}
use Rattle.message_format.proofs.laws.released_units_stay.Goals as goal

pub returns : goal.returns
returns c = record {
  judged = λ settings answer. units_stay (λ b. judged b settings answer) (judged_goes_on settings answer);
  read = λ settings given required keys. units_stay (λ b. read b settings given required keys) (read_goes_on settings given required keys);
}
