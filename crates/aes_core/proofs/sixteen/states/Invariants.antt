use Rattle.std.proofs.Common.{◌≡◌, ℕ, ◌-◌, ◌<◌, List, [], get_or}
use Rattle.cipher_spec.specs.Aes.{rounds}
use Rattle.plane_core.specs.Bits.{block}
use Rattle.plane_core.specs.Places.{lane_bit, wide_bit}
use Rattle.aes_core.specs.PlaneKeys.{HasKeys}
use Rattle.aes_core.proofs.sixteen.states.Given as goal

abbrev pub invariant-rounds : goal.invariant-rounds
invariant-rounds l = (schedule : List (List ℕ)) → HasKeys lane_bit 8 l.keys schedule → (b : ℕ) → b < 16
    → block wide_bit l.state b ≡ rounds schedule (get_or l.fn.x b []) (l.r - 1)
