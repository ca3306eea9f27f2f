use Rattle.std.proofs.Common.{length, arith, ap, sym, subst}
use Rattle.std.proofs.lemmas.Result.{err_from_is_err_and}
use Rattle.whole_input.proofs.Adding.{Adding, adding_none, adding_more, adding_ends, adding_long, adding_fails}
use Rattle.whole_input.proofs.file.fill.Goals as goal

pub loop-bytes-init : goal.loop-bytes-init
loop-bytes-init g c =
    let first = g.F.Shelf.state c.args.shelf.now in
    (subst (λ b. Adding first first c.args.name.now b) (sym c.requires.empty) (adding_none first c.args.name.now), omega (arith, ap length c.requires.empty))

pub loop-bytes-preserved : goal.loop-bytes-preserved
loop-bytes-preserved g c =
    let adds = c.in_ok-add_piece.ensures.adds in
    (adding_more _ _ _ _ c.loop-bytes.bytes c.add_piece.new.bytes _ c.loop-bytes.invariant.0 adds c.add_piece.ensures.stays, omega (arith, adds.few, c.loop-bytes-test.true, ap length c.bytes.ensures))

pub loop-bytes-smaller : goal.loop-bytes-smaller
loop-bytes-smaller g c =
    let adds = c.in_ok-add_piece.ensures.adds in
    omega (arith, adds.longer c.if-not-branch.false, c.loop-bytes-test.true, ap length c.bytes.ensures)

pub returns-then-not-branch-clause-file : goal.returns-then-not-branch-clause-file
returns-then-not-branch-clause-file g c =
    let adds = rw c.if-not-branch.true at c.in_ok-add_piece.ensures.adds in
    adding_ends _ _ _ _ c.loop-bytes.bytes c.add_piece.new.bytes c.loop-bytes.invariant.0 adds (omega (arith, c.loop-bytes-test.true, ap length c.bytes.ensures))

pub returns-in_err-add_piece-clause-cause : goal.returns-in_err-add_piece-clause-cause
returns-in_err-add_piece-clause-cause g c =
    let adds = c.in_err-add_piece.ensures.adds in
    let p = err_from_is_err_and c.from_residual.result c.from_residual.ensures.1 in
    rw (p.1, p.2) (adding_fails _ _ _ _ c.loop-bytes.bytes c.add_piece.new.bytes c.in_err-add_piece.field-0.0 c.loop-bytes.invariant.0 (omega (arith, c.loop-bytes-test.true, ap length c.bytes.ensures)) adds)

pub returns-clause-cause : goal.returns-clause-cause
returns-clause-cause g c = adding_long _ _ _ c.loop-bytes.bytes c.loop-bytes.invariant.0 c.loop-bytes.invariant.1 (omega (arith, c.loop-bytes-test.false, ap length c.bytes.ensures))
