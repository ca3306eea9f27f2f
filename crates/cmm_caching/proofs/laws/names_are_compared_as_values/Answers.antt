use Rattle.cmm_caching.specs.NameLaws.{name_decides}
use Rattle.cmm_caching.proofs.laws.names_are_compared_as_values.Goals as goal

pub returns : goal.returns
returns c = name_decides
