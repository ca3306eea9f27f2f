use Rattle.message_format.proofs.Lines.{line_by_line}
use Rattle.message_format.proofs.laws.judgement_goes_line_by_line.Goals as goal

pub returns : goal.returns
returns c = λ bytes settings answer. line_by_line bytes settings answer
