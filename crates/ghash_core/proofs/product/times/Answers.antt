use Rattle.std.proofs.Common.{ℕ, ◌+◌, ◌*◌, sym, ap, ◌∙◌, arith}
use Rattle.ghash_core.specs.Tables.{block_byte, byte_times, lane_pair}
use Rattle.ghash_core.proofs.Gathered.{half_sum-next, lanes_begun, lanes_folded}
use Rattle.ghash_core.proofs.Products.{byte_times-lt, product_summed}
use Rattle.ghash_core.proofs.product.times.Goals as goal

pub each-init : goal.each-init
each-init c h made t i half within = lanes_begun (λ j. byte_times h (block_byte c.args.x j)) (8 * t) i (2 * t + i) (omega arith)

pub each-preserved : goal.each-preserved
each-preserved c h made t i half within =
    let k = c.each.k in
    half_sum-next (λ (j : ℕ). byte_times h (block_byte c.args.x j)) c.added-p.result t i k (lane_pair c.each.sums.high c.each.sums.low (2 * t + i)) _ (omega arith) half c.added-p.ensures.long
    (λ j l. c.added-p.ensures.lanes h k (made k (omega arith) _) t j half l ∙ ap (λ b. block_byte (byte_times h b) (8 * t + k)) (c.bytes_twice-v.ensures t j half l))
    (c.each.invariant h made t i half within) (c.next-sums.ensures t i half within)

pub returns : goal.returns
returns c = λ h small made.
    let f = λ (j : ℕ). byte_times h (block_byte c.args.x j) in
    let sum = λ (t i : ℕ). c.each.invariant h made t i in
    lanes_folded f c.each.k _ _ _ _ c.gathered.result (omega arith) (λ j. byte_times-lt h (block_byte c.args.x j) small) (sum 0 0 (omega arith) (omega arith)) (sum 0 1 (omega arith) (omega arith)) (sum 1 0 (omega arith) (omega arith)) (sum 1 1 (omega arith) (omega arith)) c.gathered.ensures ∙ sym (product_summed c.args.x h)
