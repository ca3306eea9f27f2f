use Rattle.aes_core.proofs.SecondRound.{images_block}
use Rattle.aes_core.proofs.second_round.quad_images.Goals as goal

pub returns : goal.returns
returns c k b s has l is =
    images_block c.args.column.now _ c.sum.result c.sub_bytes.result s k c.args.q b is (has.is_column c.args.q b c.requires l _) c.sum.ensures c.sub_bytes.ensures
