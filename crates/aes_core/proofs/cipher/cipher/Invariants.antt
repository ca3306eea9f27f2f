use Rattle.std.proofs.Common.{◌≡◌, ℕ, ◌-◌, List}
use Rattle.cipher_spec.specs.Aes.{rounds}
use Rattle.aes_core.specs.Groups.{state_in}
use Rattle.aes_core.specs.PlaneKeys.{HasVectorKeys}
use Rattle.aes_core.proofs.cipher.cipher.Given as goal

abbrev pub invariant-rounds : goal.invariant-rounds
invariant-rounds l = (schedule : List (List ℕ)) → HasVectorKeys l.keys schedule → state_in l.state ≡ rounds schedule l.fn.x (l.r - 1)
