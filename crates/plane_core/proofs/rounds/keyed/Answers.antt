use Rattle.plane_core.proofs.States.{key_added}
use Rattle.plane_core.proofs.rounds.keyed.Goals as goal

pub returns : goal.returns
returns g c b = key_added g.P.Plane.bit c.args.x.now c.args.key.now c.sum.result b (λ j. c.sum.ensures j b)
