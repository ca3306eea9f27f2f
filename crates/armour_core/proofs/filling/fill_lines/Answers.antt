use Rattle.std.proofs.Common.{◌≡◌, ◌-◌, length, drop, sym, ap, ◌∙◌, arith}
use Rattle.std.proofs.lemmas.List.{length-drop, length-take-le}
use Rattle.armour_core.proofs.Outputs.{filling_lines_begin, filling_lines_more}
use Rattle.armour_core.proofs.filling.fill_lines.Goals as goal

pub loop-used-init : goal.loop-used-init
loop-used-init c = filling_lines_begin c.args.armour.now c.args.bytes.now c.args.text.now c.requires.open c.told-text

pub loop-used-preserved : goal.loop-used-preserved
loop-used-preserved c =
    let f = c.loop-used.invariant in
    let n = c.next_line-line in
    let k = 9856 - c.loop-used.filled in
    let left : length n.new.text ≡ k =
    n.auto.text ∙ length-take-le k (drop c.loop-used.filled c.loop-used.text) (omega (arith, f.size, length-drop c.loop-used.filled c.loop-used.text)) in
    filling_lines_more c.args.armour.now c.loop-used.armour n.new.armour c.args.bytes.now c.loop-used.text n.new.text c.loop-used.used c.loop-used.filled n.result.used n.result.filled k
    f c.loop-used-test.true c.if-filled.false n.ensures.open n.ensures.within n.ensures.some n.ensures.room (ap (λ m. m - c.loop-used.filled) (sym f.size)) left n.ensures.text n.ensures.left
