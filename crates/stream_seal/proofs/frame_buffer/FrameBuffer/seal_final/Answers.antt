use Rattle.std.proofs.Common.{◌≡◌, ◌-◌, ◌++◌, List, ℕ, length, drop, arith, sym, ap, ◌∙◌}
use Rattle.std.proofs.lemmas.List.{length-drop}
use Rattle.frame_codec.specs.declared.kinds.UnitKind.TheVariants.{Final}
use Rattle.frame_codec.specs.UnitAad.{iv_of}
use Rattle.frame_codec.specs.Written.{final_frame, final_head, sealed_unit}
use Rattle.frame_codec.proofs.WrittenAgain.{length-final_head}
use Rattle.stream_seal.proofs.Buffers.{holds_open, sealed_value}
use Rattle.stream_seal.proofs.frame_buffer.FrameBuffer.seal_final.Goals as goal

pub overflow_cast-len : goal.overflow_cast-len
overflow_cast-len c =
    let open_now = holds_open c.self.inside.stage c.self.inside.size c.self.inside.bytes.items _ c.args.self.now c.self.invariant c.self.view_is c.requires.open in
    omega (arith, open_now.few, c.self.invariant.narrow, c.len.ensures)

pub seal_behind-requires-clause-short : goal.seal_behind-requires-clause-short
seal_behind-requires-clause-short c =
    let open_now = holds_open c.self.inside.stage c.self.inside.size c.self.inside.bytes.items _ c.args.self.now c.self.invariant c.self.view_is c.requires.open in
    omega (arith, open_now.few, c.self.invariant.narrow)

pub seal_behind-requires-clause-room : goal.seal_behind-requires-clause-room
seal_behind-requires-clause-room c =
    let open_now = holds_open c.self.inside.stage c.self.inside.size c.self.inside.bytes.items _ c.args.self.now c.self.invariant c.self.view_is c.requires.open in
    omega (arith, open_now.few, c.self.invariant.room)

pub returns-clause-sealed : goal.returns-clause-sealed
unfolding final_frame
returns-clause-sealed c =
    let bytes : List ℕ = c.self.inside.bytes.items in
    let text : List ℕ = c.args.self.now.text in
    let number : ℕ = c.args.number in
    let open_now = holds_open c.self.inside.stage c.self.inside.size bytes _ c.args.self.now c.self.invariant c.self.view_is c.requires.open in
    let count : c.len.result - 24 ≡ length text = omega (arith, c.len.ensures, ap length open_now.text_is, length-drop 24 bytes) in
    let none_before : 24 - length c.final_head-head.result ≡ 0 = omega (arith, ap length c.final_head-head.ensures, length-final_head number (c.len.result - 24)) in
    let whole : c.seal_behind.new.bytes.items ≡ drop (24 - length c.final_head-head.result) c.seal_behind.new.bytes.items =
    sym (ap (λ (n : ℕ). drop n c.seal_behind.new.bytes.items) none_before) in
    sealed_value c.self.inside.size c.seal_behind.new.bytes.items c.args.self.now _ open_now.size_is
    (whole ∙ c.seal_behind.ensures.sealed
    ∙ ap (λ (h : List ℕ). h ++ sealed_unit c.args.key.now c.args.message_id.now Final number (iv_of number) (drop 24 bytes)) (c.final_head-head.ensures ∙ ap (final_head number) count)
    ∙ ap (λ (t : List ℕ). final_head number (length text) ++ sealed_unit c.args.key.now c.args.message_id.now Final number (iv_of number) t) (sym open_now.text_is))
