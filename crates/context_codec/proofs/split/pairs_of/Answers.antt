use Rattle.std.proofs.lemmas.Result.{err_from_is_err_and}
use Rattle.esdk_fields.specs.Reading.{repeat}
use Rattle.esdk_fields.proofs.Repeat.{begins, goes_on, stops_at, is_done}
use Rattle.context_codec.specs.Split.{pair}
use Rattle.context_codec.proofs.split.pairs_of.Goals as goal

pub loop-init : goal.loop-init
loop-init c = rw c.new-pairs.ensures.items (begins pair c.args.count c.args.cursor.now)

pub returns-in_err-pair : goal.returns-in_err-pair
returns-in_err-pair c =
    let p = err_from_is_err_and c.from_residual.result c.from_residual.ensures.1 in
    rw (p.1, p.2) (stops_at pair c.in_err-pair.field-0.0 c.loop.pairs.items c.args.count c.loop.counter c.loop.cursor (repeat pair c.args.count c.args.cursor.now) c.loop-test.true c.in_err-pair.ensures c.loop.invariant)

pub loop-preserved : goal.loop-preserved
loop-preserved c =
    rw c.in_ok-push.ensures.items (goes_on pair c.loop.pairs.items c.args.count c.loop.counter c.loop.cursor c.in_ok-pair.pair c.pair_of.new.cursor (repeat pair c.args.count c.args.cursor.now) c.loop-test.true c.in_ok-pair.ensures c.loop.invariant)

pub returns : goal.returns
returns c = is_done pair c.loop.pairs.items c.args.count c.loop.counter c.loop.cursor (repeat pair c.args.count c.args.cursor.now) c.loop-test.false c.loop.invariant
