use Rattle.context_codec.proofs.ManyKeys.{texts_more}
use Rattle.context_codec.proofs.key_set.are_texts.Goals as goal

pub loop-key-preserved : goal.loop-key-preserved
loop-key-preserved c = texts_more c.args.keys.now c.loop-key.key-index c.key-item.result c.loop-key-test.true c.key-item.is c.as_str.ensures.utf8 c.loop-key.invariant
