use Rattle.std.proofs.Common.{length, refl, sym, ap, ◌∙◌, arith}
use Rattle.std.proofs.lemmas.List.{length-take-le, take_at}
use Rattle.armour_core.proofs.Outputs.{line_taken, out_few, step_line}
use Rattle.armour_core.proofs.filling.next_line.Goals as goal

pub returns-then-bytes-ge-LINE-clause-text : goal.returns-then-bytes-ge-LINE-clause-text
returns-then-bytes-ge-LINE-clause-text c = c.put_line.ensures ∙ (line_taken _ c.args.bytes.now (c.if-holds_none.ensures refl) c.if-bytes-ge-LINE.true).0

pub returns-then-bytes-ge-LINE-clause-left : goal.returns-then-bytes-ge-LINE-clause-left
returns-then-bytes-ge-LINE-clause-left c = (line_taken _ c.args.bytes.now (c.if-holds_none.ensures refl) c.if-bytes-ge-LINE.true).1

pub slice_bounds-copy_from_slice-end : goal.slice_bounds-copy_from_slice-end
slice_bounds-copy_from_slice-end c = omega (arith, out_few c.step-used.new.self c.out-out.result.now (λ v at. c.out-out.ensures v at), c.requires.room)

pub slice_bounds-copy_from_slice-end-2 : goal.slice_bounds-copy_from_slice-end-2
slice_bounds-copy_from_slice-end-2 c =
    sym (length-take-le (length c.out-out.result.now) c.args.text.now (omega (arith, out_few c.step-used.new.self c.out-out.result.now (λ v at. c.out-out.ensures v at), c.requires.room)))

pub copy_from_slice-requires : goal.copy_from_slice-requires
copy_from_slice-requires c =
    length-take-le (length c.out-out.result.now) c.args.text.now (omega (arith, out_few c.step-used.new.self c.out-out.result.now (λ v at. c.out-out.ensures v at), c.requires.room))

pub returns-clause-text : goal.returns-clause-text
returns-clause-text c =
    take_at c.copy_from_slice.new.self _ (length c.out-out.result.now) (ap length c.copy_from_slice.ensures.after) ∙ c.copy_from_slice.ensures.after
    ∙ (step_line c.args.armour.now c.step-used.new.self c.args.bytes.now c.out-out.result.now c.step-used.result (λ v at. c.step-used.ensures.answer v at) (λ v at. c.step-used.ensures.stands v at) (λ v at. c.out-out.ensures v at)).gives

pub returns-clause-left : goal.returns-clause-left
returns-clause-left c =
    (step_line c.args.armour.now c.step-used.new.self c.args.bytes.now c.out-out.result.now c.step-used.result (λ v at. c.step-used.ensures.answer v at) (λ v at. c.step-used.ensures.stands v at) (λ v at. c.out-out.ensures v at)).keeps

pub returns-clause-room : goal.returns-clause-room
returns-clause-room c = out_few c.step-used.new.self c.out-out.result.now (λ v at. c.out-out.ensures v at)
