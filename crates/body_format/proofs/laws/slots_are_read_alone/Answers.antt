use Rattle.body_format.proofs.BlockTable.{block_reads}
use Rattle.body_format.proofs.OneSlot.{read_alone, decides, regular_full, final_short}
use Rattle.body_format.proofs.laws.slots_are_read_alone.Goals as goal

pub returns : goal.returns
returns c = record {
  frames = read_alone;
  block = λ max_unit key id p. block_reads max_unit key id p.left p.at;
  decides = decides;
  full = regular_full;
  short = final_short;
}
