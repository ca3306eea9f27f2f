use Rattle.std.proofs.Common.{◌≡◌, map, take}
use Rattle.esdk_args.proofs.parse.borrowed.Given as goal

abbrev pub invariant-loop-word : goal.invariant-loop-word
invariant-loop-word l = map (λ w. w.now) l.borrowed.items ≡ take l.word-index l.words
