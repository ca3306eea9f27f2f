use Rattle.armour_core.proofs.AnyCut.{armours_any_cut, lines_and_rest}
use Rattle.armour_core.proofs.laws.any_cut_gives_the_armour.Goals as goal

pub returns-clause-steps : goal.returns-clause-steps
returns-clause-steps c = armours_any_cut

pub returns-clause-lines : goal.returns-clause-lines
returns-clause-lines c = lines_and_rest
