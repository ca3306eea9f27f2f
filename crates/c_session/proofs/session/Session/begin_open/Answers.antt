use Rattle.c_session.proofs.session.Session.begin_open.Goals as goal

pub returns : goal.returns
returns g c = record {
  on = c.requires;
  opener = c.new-opener.result;
  machine = c.put-2.ensures;
  opens = rw (c.put.ensures, c.new.ensures, ← c.replace-pairs.ensures.value) c.new-opener.ensures;
}
