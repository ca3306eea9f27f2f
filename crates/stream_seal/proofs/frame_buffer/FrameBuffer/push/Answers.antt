use Rattle.std.proofs.Common.{arith, ap, length}
use Rattle.stream_seal.proofs.Buffers.{holds_open, pushed, pushed_value}
use Rattle.std.proofs.lemmas.List.{length-drop}
use Rattle.stream_seal.proofs.frame_buffer.FrameBuffer.push.Goals as goal

pub append-requires : goal.append-requires
append-requires c =
    let open_now = holds_open c.self.inside.stage c.self.inside.size c.self.inside.bytes.items _ c.args.self.now c.self.invariant c.self.view_is c.requires.open in
    omega (arith, c.self.invariant.head, c.self.invariant.room, c.requires.room, open_now.size_is, ap length open_now.text_is, length-drop 24 c.self.inside.bytes.items)

pub invariant_of-self : goal.invariant_of-self
invariant_of-self c =
    let open_now = holds_open c.self.inside.stage c.self.inside.size c.self.inside.bytes.items _ c.args.self.now c.self.invariant c.self.view_is c.requires.open in
    rw c.append.ensures.items (pushed c.self.inside.stage c.self.inside.size c.self.inside.bytes.items c.args.bytes.now _ _ c.args.self.now c.self.invariant open_now c.requires.room c.append.ensures.capacity)

pub returns : goal.returns
returns c =
    let open_now = holds_open c.self.inside.stage c.self.inside.size c.self.inside.bytes.items _ c.args.self.now c.self.invariant c.self.view_is c.requires.open in
    rw c.append.ensures.items (pushed_value c.self.inside.stage c.self.inside.size c.self.inside.bytes.items c.args.bytes.now _ c.args.self.now c.self.invariant open_now c.requires.open)
