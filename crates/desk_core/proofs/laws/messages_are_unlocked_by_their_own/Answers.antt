-- What a manager finds says so itself; of a steady one no count of faults rises.
use Rattle.desk_core.proofs.laws.messages_are_unlocked_by_their_own.Goals as goal

pub returns : goal.returns
returns g c = λ keys now told steady goes v piece m heard. record {
  header = heard.0;
  asked = heard.1;
  context = heard.2.0.context;
  only = heard.2.0.only;
  key = heard.2.0.first keys told (goes.still steady);
}
