use Rattle.std.proofs.Common.{Ok, Err, refl, arith}
use Rattle.std.proofs.lemmas.Int.{ints}
use Rattle.esdk_c.proofs.asking.esdk_list.Goals as goal

pub returns-in-Ok : goal.returns-in-Ok
returns-in-Ok c = record {
  came = Ok c.in-Ok.text;
  lists = c.in-Ok.ensures;
  shows = (refl, (rw c.bytes.ensures at c.show.ensures));
}

pub returns-in-Err : goal.returns-in-Err
returns-in-Err c = record {
  came = Err c.in-Err.reason;
  lists = c.in-Err.ensures;
  shows = (omega (arith, ints, c.code-code.ensures.code, c.code-code.ensures.few), refl, refl);
}
