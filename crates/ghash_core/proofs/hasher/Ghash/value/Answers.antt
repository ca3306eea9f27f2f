use Rattle.std.proofs.Common.{◌≡◌, ap, ◌∙◌}
use Rattle.std.specs.Int.{w128, to_be_bytes}
use Rattle.ghash_core.specs.State.{HashState}
use Rattle.ghash_core.proofs.hasher.Ghash.value.Goals as goal

pub returns : goal.returns
returns c =
    let is : c.settled.result ≡ c.args.self.now.hash =
    c.settled.ensures c.self.inside.key c.self.invariant ∙ ap (λ (s : HashState). s.hash) c.self.view_is in
    c.to_be_bytes.ensures ∙ ap (to_be_bytes w128) is
