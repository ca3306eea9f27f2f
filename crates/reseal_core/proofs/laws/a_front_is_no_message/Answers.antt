use Rattle.reseal_core.proofs.FrontsLeft.{front_goes_on}
use Rattle.reseal_core.proofs.Unfinished.{whole_to_nobody}
use Rattle.reseal_core.proofs.laws.a_front_is_no_message.Goals as goal

pub returns : goal.returns
returns c = record {
  going = λ m size random text settings answer wide whole. front_goes_on m size random text wide settings answer whole;
  nobody = λ m size random text settings answer w limits whole. whole_to_nobody m size random text w settings limits answer whole;
}
