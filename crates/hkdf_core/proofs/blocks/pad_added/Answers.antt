-- The loop changes one byte more.
use Rattle.std.proofs.Common.{◌<◌, bit_xor, length, arith}
use Rattle.std.proofs.lemmas.List.{get_or_default, length-append, length-drop, length-map, length-take}
use Rattle.std.proofs.lemmas.List.Edits.{map_over_more}
use Rattle.hkdf_core.proofs.blocks.pad_added.Goals as goal

pub loop-byte-preserved : goal.loop-byte-preserved
loop-byte-preserved g c =
    let within : c.loop-byte.byte-index < length c.args.block.now = omega arith in
    let inside : c.loop-byte.byte-index < length c.loop-byte.byte-items =
    rw c.loop-byte.invariant (simp (length-append, length-map, length-take, length-drop) (omega arith)) in
    map_over_more (λ b. bit_xor b c.args.pad) c.args.block.now c.loop-byte.byte-items c.loop-byte.byte-index _ within
    c.loop-byte.invariant (get_or_default c.loop-byte.byte-items c.loop-byte.byte-index 0 _ inside)
