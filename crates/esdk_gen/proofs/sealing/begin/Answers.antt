use Rattle.std.proofs.Common.{arith}
use Rattle.esdk_gen.proofs.Materials.{number_begins, session_begins, session_not}
use Rattle.esdk_gen.proofs.sealing.begin.Goals as goal

pub open_seal-requires : goal.open_seal-requires
open_seal-requires c =
    let idle = c.requires.1 in
    record { drawn = rw idle.ring (omega arith); room = omega (arith, idle.stands.last, idle.drawn) }

pub want_of_memory-requires : goal.want_of_memory-requires
want_of_memory-requires c =
    let idle = c.requires.1 in
    session_not _ _ c.requires.0 c.args.random.now 0 idle (omega arith) c.in-Err.error (rw c.in_ok-request.ensures at c.in-Err.ensures.opens idle.value idle.stands)

pub returns-in-Ok-clause-session : goal.returns-in-Ok-clause-session
returns-in-Ok-clause-session c = λ key idle.
    session_begins _ _ key c.args.random.now 0 idle (omega arith) c.in-Ok.id
    (rw c.in_ok-request.ensures at c.in-Ok.ensures.opens idle.value idle.stands)
    c.in-Ok.ensures.went.tells

pub returns-in-Ok-clause-number : goal.returns-in-Ok-clause-number
returns-in-Ok-clause-number c = λ key idle.
    number_begins _ _ key c.args.random.now 0 idle (omega arith) c.in-Ok.id (rw c.in_ok-request.ensures at c.in-Ok.ensures.opens idle.value idle.stands)
