use Rattle.std.proofs.Common.{ap, ◌∙◌}
use Rattle.ghash_core.specs.State.{HashState}
use Rattle.ghash_core.proofs.hasher.Ghash.hash.Goals as goal

pub returns : goal.returns
returns c = c.settled.ensures c.self.inside.key c.self.invariant ∙ ap (λ (s : HashState). s.hash) c.self.view_is
