use Rattle.std.proofs.Common.{refl}
use Rattle.c_session.proofs.session.Session.begin_seal.Goals as goal

pub returns-in-Ok : goal.returns-in-Ok
returns-in-Ok g c = record {
  on = c.requires.on;
  sealer = c.in-Ok.sealer;
  machine = c.put-in-Ok.ensures;
  begins = rw c.replace-pairs.ensures.value at c.in-Ok.ensures.begins;
}

pub returns-in-Err : goal.returns-in-Err
returns-in-Err g c =
    rw (c.fail.ensures.session, c.fail.ensures.answer)
    (refl, (c.in-Err.reason, refl, (rw c.replace-pairs.ensures.value at c.in-Err.ensures.cause)))
