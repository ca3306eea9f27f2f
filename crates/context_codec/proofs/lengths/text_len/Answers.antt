use Rattle.std.proofs.Common.{length, sym, ap, arith}
use Rattle.std.proofs.lemmas.Bool.{eqb-false}
use Rattle.std.proofs.lemmas.List.{take_all}
use Rattle.context_codec.proofs.Sizes.{pairs_len, length-ctx_text-some, counted_more_le}
use Rattle.context_codec.proofs.lengths.text_len.Goals as goal

pub pair_len-length-requires : goal.pair_len-length-requires
pair_len-length-requires c =
    omega (arith, counted_more_le c.args.pairs.now c.loop-pair.pair-index c.pair-item.result c.loop-pair-test.true c.pair-item.is)

pub overflow_add-length : goal.overflow_add-length
overflow_add-length c =
    omega (arith, counted_more_le c.args.pairs.now c.loop-pair.pair-index c.pair-item.result c.loop-pair-test.true c.pair-item.is)

pub returns : goal.returns
returns c =
    let all = ap pairs_len (take_all c.loop-pair.pair-index c.args.pairs.now (omega arith)) in
    let some = eqb-false (length c.args.pairs.now) 0 (sym c.if-is_empty.ensures) in
    omega (arith, all, length-ctx_text-some c.args.pairs.now (omega arith))
