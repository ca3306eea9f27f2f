use Rattle.esdk_program.proofs.Rotation.{resealed_opens, reseals_written, rewrites_for_new}
use Rattle.esdk_program.proofs.laws.what_is_resealed_comes_back.Goals as goal

pub returns : goal.returns
returns c = record {
  resealed = λ r can none room. reseals_written r can none room;
  written = λ r can zero. rewrites_for_new r can zero;
  opened = λ r reader can zero reads. resealed_opens r reader can zero reads;
}
