use Rattle.std.proofs.Common.{get_or, [], refl}
use Rattle.cipher_spec.specs.Aes.{cipher}
use Rattle.aes_core.proofs.KeyPlanes.{all_blocks}
use Rattle.aes_core.proofs.cipher.cipher_four.Goals as goal

pub returns : goal.returns
returns c schedule has =
    let x = c.args.x.now in
    let g = cipher schedule in
    rw (c.cipher_two-first.ensures schedule has, c.cipher_two-second.ensures schedule has) (all_blocks (λ b. g (get_or x b [])) g x 4 c.told-x (λ b h. refl))
