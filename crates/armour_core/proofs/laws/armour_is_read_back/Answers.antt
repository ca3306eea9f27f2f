use Rattle.armour_core.proofs.ReadBack.{passes_breaks, reads_back, takes_armour_text}
use Rattle.armour_core.proofs.laws.armour_is_read_back.Goals as goal

pub returns-clause-reads : goal.returns-clause-reads
returns-clause-reads c = reads_back

pub returns-clause-passes : goal.returns-clause-passes
returns-clause-passes c = passes_breaks

pub returns-clause-takes : goal.returns-clause-takes
returns-clause-takes c = takes_armour_text
