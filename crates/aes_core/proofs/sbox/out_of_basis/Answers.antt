use Rattle.std.proofs.Common.{◌≡◌, ◌/◌, ◌%◌, ◌<◌, get_or, refl, ◌∙◌, arith}
use Rattle.aes_core.specs.Groups.{out_of_basis}
use Rattle.aes_core.proofs.Groups.{lane_below}
use Rattle.aes_core.proofs.sbox.out_of_basis.Goals as goal

pub returns-clause-lanes : goal.returns-clause-lanes
unfolding out_of_basis
returns-clause-lanes c = λ p h.
    let b = get_or c.args.x p 0 in
    let small : b < 256 = lane_below c.args.x p c.fits-x.0 c.fits-x.1 h in
    let e : b / 16 % 16 ≡ b / 16 = omega arith in
    c.sum.ensures.lanes p h ∙ rw (c.looked-low.ensures p h, c.looked-high.ensures p h, c.lower.ensures p h, c.upper.ensures p h, e) refl
