use Rattle.multi_keyring.proofs.Leaves.{leaves_steady}
use Rattle.multi_keyring.proofs.laws.the_leaves_of_a_steady_tree_are_steady.Goals as goal

pub returns : goal.returns
returns g c = λ node steady. leaves_steady g.P.Keyring.meaning node steady
