-- Between two calls some trees were asked and found no key, and the others stand as they did.
use Rattle.multi_keyring.proofs.Finding.{Between}
use Rattle.multi_keyring.proofs.+decrypt.Given as goal

abbrev pub invariant-unwrapping::unwrap_with_any-loop-i :
    goal.invariant-unwrapping::unwrap_with_any-loop-i
invariant-unwrapping::unwrap_with_any-loop-i g l =
    goal.unvisited-unwrapping::unwrap_with_any-loop-i g l
    × Between g.P.Keyring.meaning l.initial.nodes.items l.nodes.items l.i l.failed l.context l.entries
