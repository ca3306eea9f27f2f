use Rattle.std.proofs.Common.{◌≡◌, get_or, refl, ap, ◌∙◌}
use Rattle.aes_core.specs.Groups.{out_of_basis}
use Rattle.aes_core.proofs.Groups.{in_basis, lane_below, out_in}
use Rattle.aes_core.proofs.sbox.in_basis.Goals as goal

pub returns : goal.returns
returns c p h =
    let b = get_or c.args.x p 0 in
    let is : get_or c.sum.result p 0 ≡ in_basis b = c.sum.ensures.lanes p h ∙ rw (c.looked-low.ensures p h, c.looked-high.ensures p h, c.lower.ensures p h, c.upper.ensures p h) refl in
    ap out_of_basis is ∙ out_in b (lane_below c.args.x p c.fits-x.0 c.fits-x.1 h)
