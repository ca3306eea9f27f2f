use Rattle.c_session.proofs.resealing.ResealMachine.end.Goals as goal

pub returns : goal.returns
returns g c = rw (← c.self.view_is) c.end_resealer.ensures.reseals
