use Rattle.std.proofs.Common.{length, drop, refl, ap, arith}
use Rattle.std.proofs.lemmas.List.{length-drop}
use Rattle.armour_core.proofs.Readers.{handed_over, out_there}
use Rattle.armour_core.proofs.reader.ArmourReader.hand_on.Goals as goal

pub split_at-requires : goal.split_at-requires
split_at-requires c = omega (arith, ap length (out_there c.args.self.now.unarmour c.out.result.now c.out.ensures), c.args.self.now.few)

pub invariant_of-self : goal.invariant_of-self
invariant_of-self c =
    let out = ap length (out_there c.args.self.now.unarmour c.out.result.now c.out.ensures) in
    let rest = ap length c.split_at.ensures.back in
    record {
      within = c.args.self.now.within;
      few = omega (arith, out, rest, length-drop c.args.self.now.handed c.out.result.now, c.min-count.ensures, c.args.self.now.few);
      goes = c.args.self.now.goes;
      none = λ over. let all = c.args.self.now.none over in omega (arith, all);
      most = c.args.self.now.most;
      long = c.args.self.now.long;
    }

pub returns-clause-some : goal.returns-clause-some
returns-clause-some c = λ some room.
    let out = ap length (ap (drop c.args.self.now.handed) (out_there c.args.self.now.unarmour c.out.result.now c.out.ensures)) in
    omega (arith, some, room, out, ap length c.split_at.ensures.back, c.min-count.ensures)

pub returns-clause-outlook : goal.returns-clause-outlook
returns-clause-outlook c =
    handed_over c.args.self.now _ c.out.result.now _ c.copy_from_slice.new.self c.args.out.now c.min-count.result (out_there c.args.self.now.unarmour c.out.result.now c.out.ensures)
    c.split_at.ensures.back c.copy_from_slice.ensures.after (omega (arith, c.min-count.ensures)) refl refl refl refl refl
