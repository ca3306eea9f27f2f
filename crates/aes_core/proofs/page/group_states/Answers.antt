use Rattle.std.proofs.Common.{◌%◌, ap, ◌∙◌}
use Rattle.plane_core.specs.Bits.{block}
use Rattle.plane_core.specs.Places.{lane_bit}
use Rattle.cipher_spec.specs.Aes.{add_round_key}
use Rattle.aes_core.proofs.SecondRound.{group_law}
use Rattle.aes_core.proofs.page.group_states.Goals as goal

pub returns : goal.returns
returns c schedule iv b has long h =
    let page = c.args.page.now in
    group_law schedule iv _ _ _ page.number (page.quad % 8) c.args.t b long c.requires
    (c.keyed.ensures b ∙ ap (add_round_key (block lane_bit page.rest b)) (c.spread.ensures b)) (has.is_rest b h) (has.is_images b h)
