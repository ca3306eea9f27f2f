use Rattle.std.proofs.Common.{◌≡◌, ◌+◌, ◌/◌, ◌%◌, ◌++◌, length, refl, ap, ◌∙◌, arith}
use Rattle.std.specs.Int.{w32, to_be_bytes}
use Rattle.cipher_spec.specs.Aes.{aes}
use Rattle.cipher_spec.specs.Gcm.{counter, mask}
use Rattle.gcm_core.proofs.Counting.{counter-next, added_further, mask-block, gctr-masked}
use Rattle.gcm_core.proofs.counter_mode.gctr_by_blocks.Goals as goal

pub each-preserved : goal.each-preserved
each-preserved c =
    let key = c.args.key.now in
    let iv = c.args.iv.now in
    let initial = iv ++ to_be_bytes w32 c.args.first in
    let old = c.args.text.now in
    let k = c.each.k in
    let is : c.block-mask.result ≡ aes key (counter initial k) = c.block-mask.ensures ∙ ap (aes key) (c.counter_block.ensures ∙ c.each.invariant.next) in
    record {
      next = counter-next iv initial c.each.count k 1 (k + 1) c.told-iv (omega arith) c.each.invariant.next refl;
      before = λ j h. added_further (mask key initial) old c.each.text c.add_mask.new.text c.block-mask.result k 16 (omega arith) (mask-block key initial c.block-mask.result k is) c.each.invariant.before c.each.invariant.after c.add_mask.ensures.before c.add_mask.ensures.there j (omega arith);
      after = λ j h. c.add_mask.ensures.after j (omega arith) ∙ c.each.invariant.after j (omega arith);
    }

pub returns-then-rest-eq0 : goal.returns-then-rest-eq0
returns-then-rest-eq0 c =
    gctr-masked c.args.key.now (c.args.iv.now ++ to_be_bytes w32 c.args.first) c.args.text.now c.each.text c.each.auto.text (λ j h. c.each.invariant.before j (omega arith))

pub returns : goal.returns
returns c =
    let key = c.args.key.now in
    let initial = c.args.iv.now ++ to_be_bytes w32 c.args.first in
    let old = c.args.text.now in
    let k = length old / 16 in
    let e : c.each.k ≡ k = omega arith in
    let is : c.block-mask-2.result ≡ aes key (counter initial k) = c.block-mask-2.ensures ∙ ap (aes key) (c.counter_block-2.ensures ∙ c.each.invariant.next ∙ ap (counter initial) e) in
    gctr-masked key initial old c.add_mask-2.new.text (omega arith) (λ j h. added_further (mask key initial) old c.each.text c.add_mask-2.new.text c.block-mask-2.result k (length old % 16) (omega arith) (mask-block key initial c.block-mask-2.result k is) (λ j h. c.each.invariant.before j (omega arith)) (λ j h. c.each.invariant.after j (omega arith)) c.add_mask-2.ensures.before c.add_mask-2.ensures.there j (omega arith))
