use Rattle.std.proofs.Common.{◌-◌, length, ◌∙◌, arith}
use Rattle.armour_core.proofs.Readers.{filling_begins, filling_more, part_length}
use Rattle.armour_core.proofs.reader.ArmourReader.fill.Goals as goal

pub loop-filled-init : goal.loop-filled-init
loop-filled-init c = filling_begins c.args.self.now c.args.out.now

pub loop-filled-preserved : goal.loop-filled-preserved
loop-filled-preserved c =
    let l = c.loop-filled in
    let f = c.fill_some-count in
    let long = part_length l.out l.filled in
    filling_more c.args.self.now l.self f.new.self c.args.out.now l.out f.new.out l.filled f.result (length l.out - l.filled) l.invariant (omega (arith, l.invariant.room)) (f.auto.out ∙ long)
    (λ text. f.ensures.outlook text) f.ensures.pieces f.ensures.goes f.ensures.whole (omega (arith, f.ensures.room, long)) (omega (arith, c.if-count-eq0.false))
