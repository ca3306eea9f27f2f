use Rattle.std.proofs.Common.{◌++◌, refl, ◌∙◌, arith}
use Rattle.std.specs.Int.{w32, to_be_bytes}
use Rattle.aes_core.proofs.CounterBlocks.{counter-later}
use Rattle.gcm_core.proofs.Groups.{gctr-group}
use Rattle.gcm_core.proofs.counter_mode.gctr_pair.Goals as goal

pub returns : goal.returns
returns c =
    let key = c.args.key.now in
    let iv = c.args.iv.now in
    let first = c.args.first in
    let second = c.counter_block-2.ensures ∙ counter-later iv first 1 c.told-iv (omega arith) in
    c.add_masks.ensures ∙ gctr-group 2 key (iv ++ to_be_bytes w32 first) c.args.text.now _ (c.blocks2.ensures ∙ rw (c.counter_block.ensures, second) refl) c.requires
