use Rattle.std.proofs.Common.{◌≡◌, ℕ, ◌+◌, ◌-◌, ◌*◌, ◌^◌, ◌<◌}
use Rattle.ghash_core.specs.Tables.{lane_pair, IsPowers}
use Rattle.ghash_core.proofs.Gathered.{lane_sum}
use Rattle.ghash_core.proofs.Products.{four_bytes_times}
use Rattle.ghash_core.proofs.product.times_four.Given as goal

abbrev pub invariant-each : goal.invariant-each
invariant-each l = (h : ℕ) → IsPowers l.powers h → (t i : ℕ) → t < 2 → i < 2
    → lane_pair l.sums.high l.sums.low (2 * t + i) ≡ lane_sum (four_bytes_times h l.fn.w l.fn.x l.fn.y l.fn.z) (8 * t) i l.k * 2 ^ (72 - 8 * l.k)
