-- The tag is the second part of what sealing the empty text gives.
use Rattle.std.proofs.Common.{ap}
use Rattle.message_format.proofs.locks.tag_of.Goals as goal

pub returns-clause-tag : goal.returns-clause-tag
returns-clause-tag c = ap (λ p. p.1) c.seal_in_place.ensures.sealed
