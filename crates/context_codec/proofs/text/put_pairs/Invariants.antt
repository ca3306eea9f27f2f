-- The pairs before the index are appended.
use Rattle.std.proofs.Common.{◌≡◌, ◌++◌, take}
use Rattle.std.specs.List.{flat_map}
use Rattle.context_codec.specs.Context.{pair_text}
use Rattle.context_codec.proofs.text.put_pairs.Given as goal

abbrev pub invariant-loop-pair : goal.invariant-loop-pair
invariant-loop-pair l = l.out ≡ l.initial.out ++ flat_map pair_text (take l.pair-index l.pairs)
