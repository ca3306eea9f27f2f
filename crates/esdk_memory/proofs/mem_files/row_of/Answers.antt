use Rattle.std.proofs.Common.{◌≡◌, true, false, arith}
use Rattle.esdk_memory.proofs.Rows.{passed_more, stands_there, stands_nowhere}
use Rattle.esdk_memory.specs.MemFiles.{is_named}
use Rattle.esdk_memory.proofs.mem_files.row_of.Goals as goal

pub returns-then-eq : goal.returns-then-eq
returns-then-eq c =
    let named : is_named c.args.name.now c.index-rows-i.result ≡ true = cc (c.if-eq.true, c.eq.ensures, c.name.ensures) in
    stands_there c.args.name.now c.args.rows.now c.loop-i.i c.index-rows-i.result c.loop-i-test.true c.index-rows-i.is named c.loop-i.invariant

pub loop-i-preserved : goal.loop-i-preserved
loop-i-preserved c =
    let other : is_named c.args.name.now c.index-rows-i.result ≡ false = cc (c.if-eq.false, c.eq.ensures, c.name.ensures) in
    passed_more c.args.name.now c.args.rows.now c.loop-i.i c.index-rows-i.result c.loop-i-test.true c.index-rows-i.is other c.loop-i.invariant

pub returns : goal.returns
returns c = stands_nowhere c.args.name.now c.args.rows.now c.loop-i.i (omega arith) c.loop-i.invariant
