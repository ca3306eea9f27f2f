-- The leaf is in none of the trees before the index.
use Rattle.std.proofs.Common.{◌-◌, length}
use Rattle.multi_keyring.proofs.LeafUnwrapping.{Seeks}
use Rattle.multi_keyring.proofs.leaf_unwrapping.seat_of.Given as goal

abbrev pub invariant-loop-number : goal.invariant-loop-number
invariant-loop-number g l = Seeks g.P.Keyring.meaning l.nodes l.leaf l.i l.number

abbrev pub decreases-loop-number : goal.decreases-loop-number
decreases-loop-number g l = length l.nodes - l.i
