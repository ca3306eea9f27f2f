use Rattle.std.proofs.Common.{◌≡◌, ℕ, ◌-◌, List, get_or, []}
use Rattle.cipher_spec.specs.Aes.{rounds}
use Rattle.aes_core.specs.Groups.{state_in}
use Rattle.aes_core.specs.PlaneKeys.{HasVectorKeys}
use Rattle.aes_core.proofs.cipher.cipher_two.Given as goal

abbrev pub invariant-both : goal.invariant-both
invariant-both l = (schedule : List (List ℕ)) → HasVectorKeys l.keys schedule
    → (state_in l.one ≡ rounds schedule (get_or l.x 0 []) (l.r - 1)) × (state_in l.two ≡ rounds schedule (get_or l.x 1 []) (l.r - 1))
