use Rattle.std.proofs.Common.{◌∙◌}
use Rattle.cipher_spec.specs.Aes.{cipher}
use Rattle.plane_core.specs.Bits.{block}
use Rattle.plane_core.specs.Places.{wide_bit}
use Rattle.aes_core.proofs.KeyPlanes.{all_blocks}
use Rattle.aes_core.proofs.sixteen.cipher.Goals as goal

pub returns : goal.returns
returns c schedule has =
    c.stored.ensures ∙ all_blocks (block wide_bit c.states.result) (cipher schedule) c.args.x.now 16 c.told-x (λ b h. c.states.ensures schedule has b h)
