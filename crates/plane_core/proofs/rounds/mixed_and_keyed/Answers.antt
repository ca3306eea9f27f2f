use Rattle.std.proofs.Common.{ap, ◌∙◌}
use Rattle.cipher_spec.specs.Aes.{add_round_key}
use Rattle.plane_core.specs.Bits.{block}
use Rattle.plane_core.proofs.States.{mixed_alone}
use Rattle.plane_core.proofs.rounds.mixed_and_keyed.Goals as goal

pub returns : goal.returns
returns g c b =
    c.keyed.ensures b
    ∙ ap (λ s. add_round_key s (block g.P.Plane.bit c.args.key.now b))
    (mixed_alone g.P.Plane.bit c.args.x.now c.mixed.result b (λ j. c.mixed.ensures j b))
