use Rattle.esdk_encrypt.proofs.Gaining.{seals_what_came}
use Rattle.esdk_encrypt.proofs.laws.what_came_is_sealed.Goals as goal

pub returns : goal.returns
returns c = seals_what_came
