use Rattle.esdk_fields.proofs.Limited.{limit_within}
use Rattle.body_format.proofs.BodyLaws.{framed_whole, block_whole}
use Rattle.body_format.proofs.WrittenBodies.{concat_all, length-framed_body}
use Rattle.body_format.proofs.laws.written_bodies_are_whole.Goals as goal

pub returns : goal.returns
returns c = record {
  frames = framed_whole;
  text = concat_all;
  block = λ max_unit key id iv text at len within limit. block_whole max_unit key id iv text at len within (limit_within max_unit _ limit);
  size = length-framed_body;
}
