use Rattle.multi_keyring.proofs.Leaves.{opens_with_its_leaves}
use Rattle.multi_keyring.proofs.laws.a_tree_opens_what_its_first_leaf_opens.Goals as goal

pub returns : goal.returns
returns g c = λ node keys entries c told. opens_with_its_leaves g.P.Keyring.meaning node keys entries c told
