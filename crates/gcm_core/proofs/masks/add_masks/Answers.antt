use Rattle.std.proofs.Common.{◌/◌, ◌%◌, [], length, get_or, ◌∙◌, arith}
use Rattle.gcm_core.proofs.Counting.{added_further}
use Rattle.gcm_core.proofs.Masking.{masks-block, masked-all}
use Rattle.gcm_core.proofs.masks.add_masks.Goals as goal

pub each-preserved : goal.each-preserved
each-preserved c =
    let old = c.args.text.now in
    let masks = c.args.masks.now in
    let k = c.each.k in
    record {
      before = λ j h. added_further (λ j. get_or (get_or masks (j / 16) []) (j % 16) 0) old c.each.text c.add_whole_mask.new.text (get_or masks k []) k 16 (omega arith) (masks-block masks k) c.each.invariant.before c.each.invariant.after c.add_whole_mask.ensures.before c.add_whole_mask.ensures.there j (omega arith);
      after = λ j h. c.add_whole_mask.ensures.after j (omega arith) ∙ c.each.invariant.after j (omega arith);
    }

pub returns-then-rest-eq0 : goal.returns-then-rest-eq0
returns-then-rest-eq0 c =
    masked-all c.args.text.now c.each.text c.args.masks.now c.each.auto.text (λ j h. c.each.invariant.before j (omega arith))

pub returns : goal.returns
returns c =
    let old = c.args.text.now in
    let masks = c.args.masks.now in
    let k = length old / 16 in
    masked-all old c.add_mask.new.text masks (omega arith) (λ j h. added_further (λ j. get_or (get_or masks (j / 16) []) (j % 16) 0) old c.each.text c.add_mask.new.text (get_or masks k []) k (length old % 16) (omega arith) (masks-block masks k) (λ j h. c.each.invariant.before j (omega arith)) (λ j h. c.each.invariant.after j (omega arith)) c.add_mask.ensures.before c.add_mask.ensures.there j (omega arith))
