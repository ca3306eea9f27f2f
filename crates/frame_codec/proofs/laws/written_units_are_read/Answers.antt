use Rattle.std.proofs.Common.{length}
use Rattle.esdk_fields.proofs.Limited.{limit_within}
use Rattle.frame_codec.proofs.WrittenAgain.{regular_frame_again, final_frame_again, single_block_again}
use Rattle.frame_codec.proofs.laws.written_units_are_read.Goals as goal

pub returns : goal.returns
returns c = record {
  regular = regular_frame_again;
  last = final_frame_again;
  block = λ max_unit key id iv text more at len within limit. single_block_again max_unit key id iv text more at len within (limit_within max_unit (length text) limit);
}
