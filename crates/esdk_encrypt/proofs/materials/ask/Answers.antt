use Rattle.std.proofs.Common.{ℕ, ap, arith, length, length-drop}
use Rattle.esdk_encrypt.proofs.Asking.{bears_given, not_given}
use Rattle.esdk_encrypt.proofs.materials.ask.Goals as goal

pub for_encryption-requires : goal.for_encryption-requires
for_encryption-requires g c =
    let drew = rw c.in-Ok.is at c.draw.ensures.drew in
    omega (arith, ap (length {A = ℕ}) c.rest.ensures, length-drop 32 c.in-Ok.draws, drew.count, c.wraps-wraps.ensures.value)

-- ---- materials

pub returns-in-Ok-for_encryption-clause-given : goal.returns-in-Ok-for_encryption-clause-given
returns-in-Ok-for_encryption-clause-given g c =
    let gives = rw c.rest.ensures at c.in-Ok-for_encryption.ensures.gives in
    let gave = rw c.rest.ensures at c.in-Ok-for_encryption.ensures.gave in
    record { drew = rw (c.in-Ok.is, c.wraps-wraps.ensures.value) at c.draw.ensures.drew; given = (gives, gave) }

pub returns-in-Ok-for_encryption-clause-bears : goal.returns-in-Ok-for_encryption-clause-bears
returns-in-Ok-for_encryption-clause-bears g c =
    bears_given (g.M.Manager.state c.args.manager.now) (g.M.Manager.state c.for_encryption.new.self) c.args.options.now c.args.request.now.declared
    c.for_encryption.result c.in-Ok-for_encryption.materials c.in-Ok-for_encryption.is c.for_encryption.ensures.bears

-- ---- none

pub returns-in-Err-clause-none : goal.returns-in-Err-clause-none
returns-in-Err-clause-none g c =
    not_given _ _ _ c.in-Ok.draws _ c.in-Err.error c.ungiven.result (rw (c.in-Ok.is, c.wraps-wraps.ensures.value) at c.draw.ensures.drew) c.in-Err.ensures.cause c.ungiven.ensures
