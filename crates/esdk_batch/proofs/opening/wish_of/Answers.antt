use Rattle.esdk_batch.proofs.opening.wish_of.Goals as goal

pub returns-in-Ok : goal.returns-in-Ok
returns-in-Ok c = rw (c.new-wish.ensures, c.in_ok-copy.ensures) at c.in-Ok.ensures.request
