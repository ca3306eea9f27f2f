use Rattle.std.proofs.Common.{Ok, Err, refl, arith}
use Rattle.std.proofs.lemmas.Int.{ints}
use Rattle.esdk_c.proofs.Asked.{asked_so}
use Rattle.esdk_c.proofs.asking.esdk_openers.Goals as goal

pub returns-in-Ok : goal.returns-in-Ok
returns-in-Ok c =
    asked_so _ _ _ _ _ _ _ _ c.in-Some.session.value c.openers-asked.new.self (Ok c.in-Ok.openers) c.in-Some.ensures.0 c.put.ensures
    (rw c.deref_mut.ensures.value at c.in-Ok.ensures) (refl, (rw c.numbers.ensures at c.show_numbers.ensures))

pub returns-in-Err : goal.returns-in-Err
returns-in-Err c =
    asked_so _ _ _ _ _ _ _ _ c.in-Some.session.value c.openers-asked.new.self (Err c.in-Err.error) c.in-Some.ensures.0 c.put.ensures
    (rw c.deref_mut.ensures.value at c.in-Err.ensures) (omega (arith, ints, c.code-code.ensures.code, c.code-code.ensures.few), refl, refl)
