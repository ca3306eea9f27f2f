use Rattle.esdk_program.proofs.TextRanges.{extracts_as_it_begins, extracts_of_text, extracts_within}
use Rattle.esdk_program.proofs.laws.a_range_is_of_the_content.Goals as goal

pub returns : goal.returns
returns c = record {
  part = λ reader range bytes text line are is. extracts_of_text reader range bytes text line are is;
  within = λ reader range bytes text line are is begins. extracts_within reader range bytes text line are is begins;
  ends = λ reader range bytes text line are is. extracts_as_it_begins reader range bytes text line are is;
}
