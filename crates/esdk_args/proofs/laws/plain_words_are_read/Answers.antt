use Rattle.esdk_args.proofs.Requests.{plain_is_read}
use Rattle.esdk_args.proofs.laws.plain_words_are_read.Goals as goal

pub returns : goal.returns
returns c = plain_is_read
