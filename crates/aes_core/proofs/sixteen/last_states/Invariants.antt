use Rattle.std.proofs.Common.{◌≡◌, ℕ, ◌-◌, List}
use Rattle.cipher_spec.specs.Aes.{rounds}
use Rattle.plane_core.specs.Bits.{block}
use Rattle.plane_core.specs.Places.{lane_bit, wide_bit}
use Rattle.aes_core.specs.PlaneKeys.{HasKeys}
use Rattle.aes_core.proofs.sixteen.last_states.Given as goal

abbrev pub invariant-each : goal.invariant-each
invariant-each l = (schedule : List (List ℕ)) (x : List ℕ) (b : ℕ) → HasKeys lane_bit 8 l.keys schedule
    → block wide_bit l.fn.start b ≡ rounds schedule x 2 → block wide_bit l.state b ≡ rounds schedule x (l.r - 1)
