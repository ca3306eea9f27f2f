use Rattle.std.proofs.Common.{◌*◌, arith}
use Rattle.armour_core.proofs.Written.{chunk_written, groups_put}
use Rattle.armour_core.proofs.lines.put_bytes.Goals as goal

pub returns-clause-groups : goal.returns-clause-groups
returns-clause-groups c =
    groups_put c.args.characters.now c.args.bytes.now _ c.packed.result c.numbers-numbers.result c.args.done c.symbol_groups.result (omega (arith, c.requires.room)) c.requires.front
    (chunk_written c.args.bytes.now c.packed.result (3 * c.args.done) c.packed.ensures.long c.requires.room) c.packed.ensures.long c.packed.ensures.numbers c.symbol_groups.ensures.same c.symbol_groups.ensures.few
