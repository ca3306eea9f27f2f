use Rattle.std.proofs.Common.{◌≡◌, ◌+◌, ◌*◌, ◌/◌, cond, leb, get_or, w8, ap, ◌∙◌, arith}
use Rattle.std.proofs.lemmas.Simd.{get_or-swz_l}
use Rattle.aes_core.proofs.lanes.moved.Goals as goal

pub swizzle : goal.swizzle
swizzle c = c.requires

pub returns : goal.returns
returns c p h =
    let v = c.args.v in
    let from = c.args.from in
    let q = get_or from p 0 in
    let e : 16 * ((0 + p) / 16) + q ≡ q = omega arith in
    get_or-swz_l w8 16 v 0 from p (omega arith) ∙ ap (λ i. cond (leb 0x80 q) 0 (get_or v i 0)) e
