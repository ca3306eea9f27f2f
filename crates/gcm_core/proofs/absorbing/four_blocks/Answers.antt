use Rattle.gcm_core.proofs.Hashing.{four_blocks}
use Rattle.gcm_core.proofs.absorbing.four_blocks.Goals as goal

pub returns : goal.returns
returns c =
    four_blocks c.args.group.now c.whole_block.result c.whole_block-2.result c.whole_block-3.result c.whole_block-4.result c.requires c.whole_block.ensures c.whole_block-2.ensures c.whole_block-3.ensures c.whole_block-4.ensures
