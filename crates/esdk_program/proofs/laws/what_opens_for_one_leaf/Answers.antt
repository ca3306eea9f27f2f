use Rattle.esdk_program.proofs.Listed.{lists_opening, lists_unlocking}
use Rattle.esdk_program.proofs.laws.what_opens_for_one_leaf.Goals as goal

pub returns : goal.returns
returns c = record {
  unlocks = λ before behind keys m. lists_unlocking before behind keys m;
  opens = λ before behind keys m text line is. lists_opening before behind keys m text line is;
}
