use Rattle.multi_keyring.proofs.Leaves.{counts_its_leaves}
use Rattle.multi_keyring.proofs.laws.a_tree_counts_the_faults_of_its_leaves.Goals as goal

pub returns : goal.returns
returns g c = λ node. counts_its_leaves g.P.Keyring.meaning node
