use Rattle.esdk_args.proofs.Faults.{never_memory, not_read_is, not_read_when}
use Rattle.esdk_args.proofs.laws.other_words_are_not_read.Goals as goal

pub returns-clause-others : goal.returns-clause-others
returns-clause-others c = λ words. (not_read_is words, not_read_when words)

pub returns-clause-memory : goal.returns-clause-memory
returns-clause-memory c = never_memory
