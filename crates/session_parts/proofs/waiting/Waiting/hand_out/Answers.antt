use Rattle.session_parts.proofs.Waitings.{hands_out}
use Rattle.session_parts.proofs.waiting.Waiting.hand_out.Goals as goal

pub returns : goal.returns
returns c =
    rw (← c.self.view_is)
    (hands_out c.self.inside.bytes.items c.args.room.now c.copy_from_slice.new.self c.self.inside.gone
    c.min-count.result (rw c.deref.ensures.value at c.min-count.ensures)
    (rw c.deref.ensures.value at c.copy_from_slice.ensures.after))
