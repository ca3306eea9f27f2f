use Rattle.std.proofs.Common.{arith}
use Rattle.esdk_gen.proofs.Openings.{opening_first, opens_not}
use Rattle.esdk_gen.proofs.opening.begin.Goals as goal

pub open_open-requires : goal.open_open-requires
open_open-requires c = let idle = c.requires.1 in omega (arith, idle.stands.last, idle.drawn)

pub want_of_memory-requires : goal.want_of_memory-requires
want_of_memory-requires c =
    let idle = c.requires.1 in
    let begun = rw (c.none.ensures, c.new.ensures) at c.in-Err.ensures.opens idle.value idle.stands in
    opens_not begun.short c.in-Err.error _ begun.answer

pub returns-in-Ok : goal.returns-in-Ok
returns-in-Ok c = λ key message text idle whole.
    let begun = rw (c.none.ensures, c.new.ensures) at c.in-Ok.ensures.opens idle.value idle.stands in
    opening_first c.args.desk.now c.open_open.new.self key c.in-Ok.id 1 message text idle whole begun c.in-Ok.ensures.manager
