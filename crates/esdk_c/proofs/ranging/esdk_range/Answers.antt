use Rattle.std.proofs.Common.{Ok, Err, refl, arith}
use Rattle.std.proofs.lemmas.Int.{ints}
use Rattle.esdk_c.proofs.Asked.{asked_so}
use Rattle.esdk_c.proofs.ranging.esdk_range.Goals as goal

pub returns-in-Ok : goal.returns-in-Ok
returns-in-Ok c =
    asked_so _ _ _ _ _ _ _ _ c.in-Some.session.value c.range-came.new.self (Ok c.in-Ok.text) c.in-Some.ensures.0 c.put.ensures
    (rw c.deref_mut.ensures.value at c.in-Ok.ensures) (refl, (rw c.bytes.ensures at c.show.ensures))

pub returns-in-Err : goal.returns-in-Err
returns-in-Err c =
    asked_so _ _ _ _ _ _ _ _ c.in-Some.session.value c.range-came.new.self (Err c.in-Err.error) c.in-Some.ensures.0 c.put.ensures
    (rw c.deref_mut.ensures.value at c.in-Err.ensures) (omega (arith, ints, c.code-code.ensures.code, c.code-code.ensures.few), refl, refl)
