use Rattle.keyring_trait.proofs.Wrapping.{passes_name}
use Rattle.keyring_trait.proofs.laws.other_names_are_passed_over.Goals as goal

pub returns : goal.returns
returns c = passes_name
