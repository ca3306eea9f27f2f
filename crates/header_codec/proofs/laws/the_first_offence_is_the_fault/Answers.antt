use Rattle.header_codec.proofs.Offences.{has_offence}
use Rattle.header_codec.proofs.Rows.{is_refused}
use Rattle.header_codec.proofs.laws.the_first_offence_is_the_fault.Goals as goal

pub returns : goal.returns
returns c = λ settings bytes fault at fits. (has_offence settings bytes fault at fits, is_refused settings bytes fault at)
