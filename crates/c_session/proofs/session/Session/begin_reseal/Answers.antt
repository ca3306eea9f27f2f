use Rattle.std.proofs.Common.{refl}
use Rattle.c_session.specs.declared.reason.Reason.TheVariants.{Memory}
use Rattle.c_session.proofs.session.Session.begin_reseal.Goals as goal

pub returns-in-Ok : goal.returns-in-Ok
returns-in-Ok g c = record {
  on = c.requires.on;
  resealer = c.in-Ok.resealer;
  machine = c.put-in-Ok.ensures;
  sealing = c.args.sealing;
  is_there = c.put-in-Ok-2.ensures;
  reseals = rw (c.put.ensures, c.new.ensures, ← c.replace-pairs.ensures.value) c.in-Ok.ensures;
}

pub returns-in-Err : goal.returns-in-Err
returns-in-Err g c = rw (c.fail.ensures.session, c.fail.ensures.answer) (refl, (Memory, refl, refl))
