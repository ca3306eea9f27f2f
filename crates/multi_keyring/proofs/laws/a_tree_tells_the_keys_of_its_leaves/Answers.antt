use Rattle.multi_keyring.proofs.Leaves.{tells_its_leaves}
use Rattle.multi_keyring.proofs.laws.a_tree_tells_the_keys_of_its_leaves.Goals as goal

pub returns : goal.returns
returns g c = λ node keys is. tells_its_leaves g.P.Keyring.meaning node keys is
