use Rattle.std.proofs.Common.{◌+◌, ◌-◌, ◌*◌, arith}
use Rattle.armour_core.proofs.Written.{groups_put, part_written}
use Rattle.armour_core.proofs.lines.put_twelve.Goals as goal

pub returns-clause-groups : goal.returns-clause-groups
returns-clause-groups c =
    let bytes = c.args.bytes.now in
    let written = part_written bytes c.copy_from_slice.new.self c.packed.result (3 * c.args.done) (3 * c.args.done + 12 - 3 * c.args.done) c.copy_from_slice.ensures.after c.packed.ensures.long (omega (arith, c.requires.room)) in
    groups_put c.args.characters.now bytes _ c.packed.result c.numbers-numbers.result c.args.done c.symbol_groups.result (omega (arith, c.requires.room)) c.requires.front
    written c.packed.ensures.long c.packed.ensures.numbers c.symbol_groups.ensures.same c.symbol_groups.ensures.few
