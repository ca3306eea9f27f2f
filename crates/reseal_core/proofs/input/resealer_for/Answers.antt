use Rattle.reseal_core.proofs.input.resealer_for.Goals as goal

pub returns-clause-stands : goal.returns-clause-stands
returns-clause-stands c = rw c.in_ok-given.ensures at c.in_ok-resealer.ensures
