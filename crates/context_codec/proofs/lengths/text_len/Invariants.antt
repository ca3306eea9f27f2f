-- The count and the pairs before the index are counted.
use Rattle.std.proofs.Common.{◌≡◌, ◌+◌, take}
use Rattle.context_codec.proofs.Sizes.{pairs_len}
use Rattle.context_codec.proofs.lengths.text_len.Given as goal

abbrev pub invariant-loop-pair : goal.invariant-loop-pair
invariant-loop-pair l = l.length ≡ 2 + pairs_len (take l.pair-index l.pairs)
