-- Between two calls some trees have wrapped the data key, and the others stand as they did.
use Rattle.std.proofs.Common.{◌≡◌}
use Rattle.std.specs.Prelude.{All}
use Rattle.edk_codec.specs.Entry.{IsEntry}
use Rattle.multi_keyring.proofs.Appending.{Midway}
use Rattle.multi_keyring.proofs.+encrypt.Given as goal

abbrev pub invariant-wrapping::wrap_with_all-loop-i :
    goal.invariant-wrapping::wrap_with_all-loop-i
invariant-wrapping::wrap_with_all-loop-i g l =
    goal.unvisited-wrapping::wrap_with_all-loop-i g l
    × Midway g.P.Keyring.meaning l.initial.nodes.items l.nodes.items l.i l.context l.fn.begun.key l.random l.rest l.fn.begun.entries l.entries.items
    × (l.key ≡ l.fn.begun.key)
    × All IsEntry l.entries.items
