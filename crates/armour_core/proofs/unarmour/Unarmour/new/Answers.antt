use Rattle.std.proofs.Common.{refl}
use Rattle.armour_core.proofs.Reading.{new_reads}
use Rattle.armour_core.proofs.unarmour.Unarmour.new.Goals as goal

pub returns : goal.returns
returns c = new_reads _ refl refl refl refl refl
