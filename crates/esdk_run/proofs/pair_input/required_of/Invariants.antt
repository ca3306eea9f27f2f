-- The keys are those that the words before the index require.
use Rattle.std.proofs.Common.{◌≡◌, take}
use Rattle.esdk_run.proofs.Given.{keys_of}
use Rattle.esdk_run.proofs.pair_input.required_of.Given as goal

abbrev pub invariant-loop-word : goal.invariant-loop-word
invariant-loop-word l = l.keys.items ≡ keys_of (take l.word-index l.words)
