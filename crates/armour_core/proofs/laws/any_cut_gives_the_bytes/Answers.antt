use Rattle.armour_core.proofs.AnyCut.{unarmours_any_cut}
use Rattle.armour_core.proofs.laws.any_cut_gives_the_bytes.Goals as goal

pub returns : goal.returns
returns c = unarmours_any_cut
