use Rattle.session_parts.specs.Handed.{handed_of}
use Rattle.c_session.proofs.Handing.{read_agrees}
use Rattle.c_session.proofs.message_shelf.MessageShelfShelf.read_at.Goals as goal

pub invariant_of-self : goal.invariant_of-self
invariant_of-self c =
    read_agrees (handed_of c.self.inside.bytes) c.self.inside.calls.calls c.see.new.self.calls c.args.name.now c.in-Some.left.now c.give.new.out c.args.at c.in-Some-give.count
    c.self.invariant c.in-Some-give.ensures c.in-Some.ensures c.see.ensures
