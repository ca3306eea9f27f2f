use Rattle.std.proofs.Common.{◌≡◌, map, take}
use Rattle.esdk_args.specs.PairWords.{pairs_of}
use Rattle.esdk_args.proofs.pair_words.pairs_of.Given as goal

abbrev pub invariant-loop-word : goal.invariant-loop-word
invariant-loop-word l = l.pairs.items ≡ pairs_of (take l.word-index (map (λ w. w.now) l.words))
