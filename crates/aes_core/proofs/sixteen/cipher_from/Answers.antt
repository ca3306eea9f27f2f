use Rattle.std.proofs.Common.{[], get_or, ◌∙◌}
use Rattle.cipher_spec.specs.Aes.{cipher}
use Rattle.plane_core.specs.Bits.{block}
use Rattle.plane_core.specs.Places.{wide_bit}
use Rattle.aes_core.proofs.KeyPlanes.{all_blocks}
use Rattle.aes_core.proofs.sixteen.cipher_from.Goals as goal

pub returns : goal.returns
returns c schedule x has long is =
    c.stored.ensures ∙ all_blocks (block wide_bit c.last_states.result) (cipher schedule) x 16 long (λ b h.
    c.last_states.ensures schedule (get_or x b []) b has (is b h))
