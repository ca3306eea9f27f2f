use Rattle.keyring_trait.proofs.Wrapping.{passes_namespace}
use Rattle.keyring_trait.proofs.laws.other_namespaces_are_passed_over.Goals as goal

pub returns : goal.returns
returns c = passes_namespace
