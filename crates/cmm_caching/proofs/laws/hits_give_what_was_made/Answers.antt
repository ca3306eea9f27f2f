use Rattle.cmm_caching.proofs.Making.{gives_what_was_made}
use Rattle.cmm_caching.proofs.laws.hits_give_what_was_made.Goals as goal

pub returns : goal.returns
returns c = gives_what_was_made
