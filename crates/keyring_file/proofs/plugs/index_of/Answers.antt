-- The plug at the index is the first of the name, or none is.
use Rattle.std.proofs.Common.{rules, arith}
use Rattle.keyring_file.proofs.Taken.{found_at, none_left, passed}
use Rattle.keyring_file.proofs.plugs.index_of.Goals as goal

pub returns-then-eq : goal.returns-then-eq
returns-then-eq g c =
    (omega (arith, c.loop-index-test.true), λ plug at. found_at c.args.name.now c.args.plugs.now c.loop-index.index c.index-plugs-index.result plug (omega (arith, c.loop-index-test.true)) c.index-plugs-index.is (search rules) c.loop-index.invariant at)

pub loop-index-preserved : goal.loop-index-preserved
loop-index-preserved g c =
    passed c.args.name.now c.args.plugs.now c.loop-index.index c.index-plugs-index.result (omega (arith, c.loop-index-test.true)) c.index-plugs-index.is (search rules) c.loop-index.invariant

pub returns : goal.returns
returns g c = none_left c.args.name.now c.args.plugs.now c.loop-index.index (omega (arith, c.loop-index-test.false)) c.loop-index.invariant
