use Rattle.std.proofs.Common.{map}
use Rattle.esdk_args.proofs.Pairs.{NamePairs}
use Rattle.esdk_args.proofs.pair_words.bad_pair.Given as goal

abbrev pub invariant-loop-before : goal.invariant-loop-before
invariant-loop-before l = NamePairs (map (λ w. w.now) l.words) l.before
