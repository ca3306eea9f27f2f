use Rattle.session_parts.specs.Handed.{handed_of}
use Rattle.c_session.proofs.Handing.{announce_agrees}
use Rattle.c_session.proofs.message_shelf.MessageShelfShelf.will_read.Goals as goal

pub invariant_of-self : goal.invariant_of-self
invariant_of-self c =
    announce_agrees (handed_of c.self.inside.bytes) c.self.inside.calls.calls c.see.new.self.calls c.args.name.now c.self.invariant c.see.ensures
