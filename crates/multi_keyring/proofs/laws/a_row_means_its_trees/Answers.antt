use Rattle.multi_keyring.proofs.Meanings.{meanings-forest}
use Rattle.multi_keyring.proofs.laws.a_row_means_its_trees.Goals as goal

pub returns : goal.returns
returns g c = λ nodes. meanings-forest g.P.Keyring.meaning nodes
