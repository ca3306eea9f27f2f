use Rattle.std.proofs.Common.{◌+◌, ◌*◌, ◌/◌, get_or, ap, subst, sym, ◌∙◌, arith}
use Rattle.std.specs.Int.{w8}
use Rattle.std.proofs.lemmas.Simd.{SwzOk}
use Rattle.plane_core.specs.Places.{lane}
use Rattle.aes_core.specs.Counters.{row_for}
use Rattle.aes_core.proofs.ImagePlanes.{lane_taken, share_row}
use Rattle.aes_core.proofs.SecondRound.{once_at, once_ok, rows_above, spread_block, twice_at, twice_ok}
use Rattle.aes_core.proofs.second_round.spread.Goals as goal

pub all_moved-once-requires : goal.all_moved-once-requires
all_moved-once-requires c = subst (λ from. SwzOk w8 16 16 0 from) (sym c.of_group.ensures) (once_ok c.args.t c.requires)

pub all_moved-twice-requires : goal.all_moved-twice-requires
all_moved-twice-requires c = subst (λ from. SwzOk w8 16 16 0 from) (sym c.of_group-2.ensures) (twice_ok c.args.t c.requires)

pub returns : goal.returns
returns c b =
    let x = c.args.images.now in
    let t = c.args.t in
    spread_block x c.sum.result t b c.requires (λ j h.
    share_row x b (rows_above j) (4 * row_for (j / 4) + t) (0x80 + t) _ _ _ _ (omega (arith, c.requires)) (omega arith) (c.sum.ensures j b)
    (c.all_moved-once.ensures j b h ∙ ap (lane_taken x b) (ap (λ from. get_or from (lane j) 0) c.of_group.ensures ∙ once_at t j c.requires h))
    (c.doubled.ensures j b)
    (c.all_moved-twice.ensures j b h ∙ ap (lane_taken x b) (ap (λ from. get_or from (lane j) 0) c.of_group-2.ensures ∙ twice_at t j c.requires h)))
