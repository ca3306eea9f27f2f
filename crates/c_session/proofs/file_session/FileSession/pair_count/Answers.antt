use Rattle.std.proofs.Common.{ap, arith, length}
use Rattle.context_codec.proofs.Sizes.{few_from_short}
use Rattle.c_session.proofs.file_session.FileSession.pair_count.Goals as goal

pub returns-clause-few : goal.returns-clause-few
returns-clause-few c =
    let few = few_from_short c.in_ok-context.field-0.now c.pairs.ensures.context.short in
    let same = ap length c.pairs.ensures.pairs in
    omega arith
