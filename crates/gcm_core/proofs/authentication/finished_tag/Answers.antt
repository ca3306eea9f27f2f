use Rattle.std.proofs.Common.{[], ◌∷◌, refl, ap, ◌∙◌, arith}
use Rattle.cipher_spec.specs.Gcm.{pre_counter}
use Rattle.gcm_core.proofs.Groups.{gctr-group}
use Rattle.gcm_core.proofs.authentication.finished_tag.Goals as goal

pub returns-clause-tag : goal.returns-clause-tag
returns-clause-tag c = λ key iv is.
    c.add_masks.ensures ∙ gctr-group 1 key (pre_counter iv) _ (c.args.mask.now ∷ []) (ap (λ mask. mask ∷ []) is) (omega arith) ∙ rw (c.value-tag.ensures, c.block.ensures, c.lengths.ensures) refl
