use Rattle.c_session.proofs.opening.OpenMachine.feed.Goals as goal

pub returns-clause-opens : goal.returns-clause-opens
returns-clause-opens g c = rw (← c.self.view_is) c.feed_opener.ensures.opens
