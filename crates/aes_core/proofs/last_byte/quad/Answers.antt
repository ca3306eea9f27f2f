use Rattle.std.proofs.Common.{◌+◌, ◌-◌, ◌*◌, ◌/◌, ◌%◌, ap, ◌∙◌, arith}
use Rattle.aes_core.proofs.ImagePlanes.{lane_taken, share_row}
use Rattle.aes_core.proofs.Positions.{once_at, once_ok, twice_at, twice_ok}
use Rattle.aes_core.proofs.last_byte.quad.Goals as goal

pub all_moved-once-requires : goal.all_moved-once-requires
all_moved-once-requires c = once_ok c.args.q c.requires

pub all_moved-twice-requires : goal.all_moved-twice-requires
all_moved-twice-requires c = twice_ok c.args.q c.requires

pub returns : goal.returns
returns c j b h =
    let x = c.args.x.now in
    let q = c.args.q in
    share_row x b (3 - j % 4) (4 * q + j / 4) 0x80 _ _ _ _ (omega (arith, c.requires)) (omega arith) (c.sum.ensures j b)
    (c.all_moved-once.ensures j b h ∙ ap (lane_taken x b) (once_at q j c.requires h)) (c.doubled.ensures j b)
    (c.all_moved-twice.ensures j b h ∙ ap (lane_taken x b) (twice_at q j c.requires h))
