use Rattle.frame_codec.proofs.Sizes.{frame_sized, frame_content}
use Rattle.frame_codec.proofs.WrittenAgain.{length-regular_frame, length-final_frame, length-single_block}
use Rattle.frame_codec.proofs.laws.units_have_their_sizes.Goals as goal

pub returns : goal.returns
returns c = record {
  read = λ frame_length u k p x next e. let size = frame_sized frame_length u k p x next e in (frame_content frame_length u k p x next e, size.0, size.1);
  regular = length-regular_frame;
  last = length-final_frame;
  block = length-single_block;
}
