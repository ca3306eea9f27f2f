-- The pairs before the index are texts, and copied.
use Rattle.std.proofs.Common.{◌≡◌, true, take}
use Rattle.context_codec.specs.Context.{are_texts}
use Rattle.context_codec.proofs.read.texts_of.Given as goal

abbrev pub invariant-loop-pair : goal.invariant-loop-pair
invariant-loop-pair l = (l.pairs.items ≡ take l.pair-index l.raw) × (are_texts (take l.pair-index l.raw) ≡ true)
