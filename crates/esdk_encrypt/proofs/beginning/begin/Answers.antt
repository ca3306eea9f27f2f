use Rattle.std.proofs.Common.{subst}
use Rattle.stream_seal.specs.Session.{SealingValue}
use Rattle.stream_seal.specs.Stands.{Stands}
use Rattle.esdk_encrypt.proofs.Sessions.{opened_is}
use Rattle.esdk_encrypt.proofs.beginning.begin.Goals as goal

pub returns-in_ok-gathered-in-Ok-clause-stands : goal.returns-in_ok-gathered-in-Ok-clause-stands
returns-in_ok-gathered-in-Ok-clause-stands c =
    subst (λ (v : SealingValue). Stands c.in-Ok.sealer v) (opened_is c.args.materials.now c.args.options.frame_length c.args.message_id.now) c.in-Ok.ensures.stands
