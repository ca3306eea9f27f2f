-- What the words come to is what those from this one on come to, behind the pairs so far.
use Rattle.std.proofs.Common.{◌≡◌, [], drop}
use Rattle.esdk_run.specs.Pairs.{inserted, pairs_of_words}
use Rattle.esdk_run.proofs.pair_input.context_of.Given as goal

abbrev pub invariant-loop-word : goal.invariant-loop-word
invariant-loop-word l = inserted [] (pairs_of_words l.words) ≡ inserted l.context (pairs_of_words (drop l.word-index l.words))
