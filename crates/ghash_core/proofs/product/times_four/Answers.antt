use Rattle.std.proofs.Common.{ℕ, ◌+◌, ◌*◌, ◌∙◌, arith}
use Rattle.cipher_spec.specs.Ghash.{times}
use Rattle.ghash_core.specs.Tables.{lane_pair}
use Rattle.ghash_core.proofs.Gathered.{half_sum-next, lanes_begun, lanes_folded}
use Rattle.ghash_core.proofs.Products.{four_bytes_times, four_bytes_times-lt, four_bytes_looked, four_products}
use Rattle.ghash_core.proofs.product.times_four.Goals as goal

pub each-init : goal.each-init
each-init c h made t i half within = lanes_begun (four_bytes_times h c.args.w c.args.x c.args.y c.args.z) (8 * t) i (2 * t + i) (omega arith)

pub each-preserved : goal.each-preserved
each-preserved c h made t i half within =
    let k = c.each.k in
    let w = c.args.w in
    let x = c.args.x in
    let y = c.args.y in
    let z = c.args.z in
    half_sum-next (four_bytes_times h w x y z) c.sum_of_four-p.result t i k (lane_pair c.each.sums.high c.each.sums.low (2 * t + i)) _ (omega arith) half c.sum_of_four-p.ensures.long
    (λ j l. four_bytes_looked h w x y z j (8 * t + k) _ _ _ _ _ _ _ _ _ (c.bytes_twice-s.ensures t j half l) (c.bytes_twice-t.ensures t j half l) (c.bytes_twice-u.ensures t j half l) (c.bytes_twice-v.ensures t j half l)
    (c.added.ensures.lanes (times h (times h (times h h))) k (made.fourth k (omega arith) _) t j half l) (c.added-in-each.ensures.lanes (times h (times h h)) k (made.third k (omega arith) _) t j half l)
    (c.added-in-each-2.ensures.lanes (times h h) k (made.second k (omega arith) _) t j half l) (c.added-in-each-3.ensures.lanes h k (made.first k (omega arith) _) t j half l)
    (c.sum_of_four-p.ensures.lanes (16 * t + j) (omega arith)))
    (c.each.invariant h made t i half within) (c.next-sums.ensures t i half within)

pub returns : goal.returns
returns c = λ h made.
    let sum = λ (t i : ℕ). c.each.invariant h made t i in
    lanes_folded (four_bytes_times h c.args.w c.args.x c.args.y c.args.z) c.each.k _ _ _ _ c.gathered.result (omega arith) (λ j. four_bytes_times-lt h c.args.w c.args.x c.args.y c.args.z j made.small) (sum 0 0 (omega arith) (omega arith)) (sum 0 1 (omega arith) (omega arith)) (sum 1 0 (omega arith) (omega arith)) (sum 1 1 (omega arith) (omega arith)) c.gathered.ensures ∙ four_products h c.args.w c.args.x c.args.y c.args.z
