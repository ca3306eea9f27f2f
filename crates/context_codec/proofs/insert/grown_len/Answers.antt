use Rattle.std.proofs.Common.{arith}
use Rattle.context_codec.proofs.Sizes.{grown-from}
use Rattle.context_codec.proofs.insert.grown_len.Goals as goal

pub returns : goal.returns
returns c =
    omega (arith, c.counted_len.ensures, grown-from c.args.pairs.now (c.args.key.now, c.args.value.now) c.args.text_len c.requires)
