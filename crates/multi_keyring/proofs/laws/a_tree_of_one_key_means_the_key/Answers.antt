use Rattle.std.proofs.Common.{refl}
use Rattle.multi_keyring.proofs.laws.a_tree_of_one_key_means_the_key.Goals as goal

pub returns : goal.returns
returns g c = λ key. refl
