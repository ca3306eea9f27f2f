use Rattle.c_session.proofs.resealing.ResealMachine.feed.Goals as goal

pub returns-clause-reseals : goal.returns-clause-reseals
returns-clause-reseals g c = rw (← c.self.view_is) c.feed_resealer.ensures.reseals
