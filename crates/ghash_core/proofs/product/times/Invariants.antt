use Rattle.std.proofs.Common.{◌≡◌, ℕ, ◌+◌, ◌-◌, ◌*◌, ◌^◌, ◌<◌}
use Rattle.ghash_core.specs.Tables.{block_byte, byte_times, lane_pair, IsPlanes}
use Rattle.ghash_core.proofs.Gathered.{lane_sum}
use Rattle.ghash_core.proofs.product.times.Given as goal

abbrev pub invariant-each : goal.invariant-each
invariant-each l = (h : ℕ) → IsPlanes l.planes h → (t i : ℕ) → t < 2 → i < 2
    → lane_pair l.sums.high l.sums.low (2 * t + i) ≡ lane_sum (λ j. byte_times h (block_byte l.fn.x j)) (8 * t) i l.k * 2 ^ (72 - 8 * l.k)
