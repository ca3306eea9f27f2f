use Rattle.std.proofs.Common.{ℕ, ◌∙◌}
use Rattle.ghash_core.specs.Tables.{block_byte}
use Rattle.ghash_core.proofs.Lanes.{either_half}
use Rattle.ghash_core.proofs.vector.bytes_twice.Goals as goal

pub returns : goal.returns
returns c t i half within =
    either_half c.joined.result (λ (t i : ℕ). block_byte c.args.x i) (λ i h. c.joined.ensures.low i h ∙ c.bytes-v.ensures.lanes i h) (λ i h. c.joined.ensures.high i h ∙ c.bytes-v.ensures.lanes i h) t i half within
