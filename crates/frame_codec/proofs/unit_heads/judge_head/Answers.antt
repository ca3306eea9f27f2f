use Rattle.std.proofs.Common.{◌≤◌, length, subst}
use Rattle.esdk_fields.specs.Place.{Place}
use Rattle.frame_codec.proofs.Heads.{head_within}
use Rattle.frame_codec.proofs.unit_heads.judge_head.Goals as goal

pub returns-in-Ok-clause-there : goal.returns-in-Ok-clause-there
returns-in-Ok-clause-there c =
    subst (λ (p : Place). c.in-Ok.head.size ≤ length p.left) c.new-cursor.ensures (head_within c.args.content c.args.want c.args.max_unit c.new-cursor.result c.in-Ok.head _ c.in-Ok.ensures.reads)
