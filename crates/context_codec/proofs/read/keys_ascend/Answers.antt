use Rattle.std.proofs.Common.{◌≢◌, arith}
use Rattle.std.specs.declared.cmp.Ordering.TheVariants.{Less}
use Rattle.context_codec.proofs.Keys.{key_cmp}
use Rattle.context_codec.proofs.Judging.{tie_at}
use Rattle.context_codec.proofs.read.keys_ascend.Goals as goal

pub returns-in_default : goal.returns-in_default
returns-in_default c =
    let ne : key_cmp c.index-pairs-i.result.0 c.index-pairs-i-in-loop-i.result.0 ≢ Less = λ e. c.in_default.not-Less (cc (e, c.cmp.ensures, c.key.ensures, c.key-in-loop-i.ensures)) in
    tie_at c.args.pairs.now c.loop-i.i c.index-pairs-i.result c.index-pairs-i-in-loop-i.result (omega arith) (omega arith) c.index-pairs-i.is c.index-pairs-i-in-loop-i.is ne
