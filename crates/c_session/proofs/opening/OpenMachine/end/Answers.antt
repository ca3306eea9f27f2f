use Rattle.c_session.proofs.opening.OpenMachine.end.Goals as goal

pub returns : goal.returns
returns g c = rw (← c.self.view_is) c.end_opener.ensures.opens
