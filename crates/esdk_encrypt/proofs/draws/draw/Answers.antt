use Rattle.esdk_encrypt.proofs.draws.draw.Goals as goal

pub returns-clause-kept : goal.returns-clause-kept
returns-clause-kept g c = tt

pub returns-clause-cause : goal.returns-clause-cause
returns-clause-cause g c = record { later = c.in_ok-fill.ensures.cause.later; failed = tt; same = c.in_ok-fill.ensures.cause.same }
