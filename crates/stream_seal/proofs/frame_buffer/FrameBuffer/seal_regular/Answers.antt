use Rattle.std.proofs.Common.{arith}
use Rattle.stream_seal.proofs.Buffers.{holds_open}
use Rattle.stream_seal.proofs.frame_buffer.FrameBuffer.seal_regular.Goals as goal

pub seal_behind-requires-clause-short : goal.seal_behind-requires-clause-short
seal_behind-requires-clause-short c =
    let open_now = holds_open c.self.inside.stage c.self.inside.size c.self.inside.bytes.items _ c.args.self.now c.self.invariant c.self.view_is c.requires.open in
    omega (arith, open_now.few, c.self.invariant.narrow)

pub seal_behind-requires-clause-room : goal.seal_behind-requires-clause-room
seal_behind-requires-clause-room c =
    let open_now = holds_open c.self.inside.stage c.self.inside.size c.self.inside.bytes.items _ c.args.self.now c.self.invariant c.self.view_is c.requires.open in
    omega (arith, open_now.few, c.self.invariant.room)
