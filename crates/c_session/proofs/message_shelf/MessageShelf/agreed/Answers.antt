use Rattle.session_parts.specs.Handed.{handed_of}
use Rattle.c_session.proofs.message_shelf.MessageShelf.agreed.Goals as goal

pub returns : goal.returns
returns c = rw (← c.self.view_is) (handed_of c.self.inside.bytes, c.self.invariant)
