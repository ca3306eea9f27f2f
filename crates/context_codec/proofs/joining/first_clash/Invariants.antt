-- No pair before the index clashes.
use Rattle.std.proofs.Common.{◌≡◌, drop}
use Rattle.std.specs.Prelude.{find}
use Rattle.context_codec.specs.Join.{clashes}
use Rattle.context_codec.proofs.joining.first_clash.Given as goal

abbrev pub invariant-loop-pair : goal.invariant-loop-pair
invariant-loop-pair l = find (clashes l.given) l.stored ≡ find (clashes l.given) (drop l.pair-index l.stored)
