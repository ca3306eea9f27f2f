use Rattle.std.proofs.Common.{◌≡◌, ℕ, ◌+◌, ◌*◌, slice_index, ap, ◌∙◌, arith}
use Rattle.ghash_core.specs.Tables.{chosen}
use Rattle.ghash_core.proofs.Lanes.{either_half}
use Rattle.ghash_core.proofs.planes.both_choices.Goals as goal

pub returns : goal.returns
returns c t n half within =
    let k = c.args.k in
    let entry = λ (k n : ℕ). chosen (slice_index c.args.y k) (slice_index c.args.a k) (slice_index c.args.b k) (slice_index c.args.c k) n in
    let near : k ≡ 8 * 0 + k = omega arith in
    let far : k + 8 ≡ 8 * 1 + k = omega arith in
    either_half c.joined.result (λ (t n : ℕ). entry (8 * t + k) n)
    (λ n h. c.joined.ensures.low n h ∙ c.choices.ensures n h ∙ ap (λ k. entry k n) near)
    (λ n h. c.joined.ensures.high n h ∙ c.choices-2.ensures n h ∙ ap (λ k. entry k n) far) t n half within
