use Rattle.std.proofs.Common.{◌≡◌, ◌+◌, ◌-◌, ◌*◌, ◌/◌, ◌++◌, length, take, drop, ap, ◌∙◌, arith}
use Rattle.std.specs.Int.{w32, to_be_bytes}
use borrow.Rule.Slice.PartMut.{put_mid}
use Rattle.cipher_spec.specs.Gcm.{counter, gctr}
use Rattle.gcm_core.proofs.Counting.{counter-next}
use Rattle.gcm_core.proofs.Groups.{gctr-further, gctr-last}
use Rattle.gcm_core.proofs.counter_mode.gctr_by_pairs.Goals as goal

pub pairs-preserved : goal.pairs-preserved
pairs-preserved c =
    let key = c.args.key.now in
    let iv = c.args.iv.now in
    let initial = iv ++ to_be_bytes w32 c.args.first in
    let old = c.args.text.now in
    let mid = c.pairs.text in
    let k = c.pairs.k in
    let a = 32 * k in
    let n = 32 * k + 32 - 32 * k in
    let part = take n (drop a mid) in
    let e : a + n ≡ 32 * (k + 1) = omega arith in
    record {
      next = counter-next iv initial c.pairs.count (2 * k) 2 (2 * (k + 1)) c.told-iv (omega arith) c.pairs.invariant.next (omega arith);
      text = gctr-further key initial old mid _ a n (2 * k) (omega arith) (omega arith) c.pairs.invariant.text (ap (put_mid a n mid) (c.gctr_pair.ensures ∙ ap (λ block. gctr key block part) c.pairs.invariant.next)) ∙ ap (λ e. gctr key initial (take e old) ++ drop e old) e;
    }

pub returns : goal.returns
returns c =
    let key = c.args.key.now in
    let initial = c.args.iv.now ++ to_be_bytes w32 c.args.first in
    let old = c.args.text.now in
    let mid = c.pairs.text in
    let k = length old / 32 in
    let a = 32 * k in
    let n = length mid - a in
    let part = take n (drop a mid) in
    let e : c.pairs.k ≡ k = omega arith in
    let text : mid ≡ gctr key initial (take a old) ++ drop a old = c.pairs.invariant.text ∙ ap (λ k. gctr key initial (take (32 * k) old) ++ drop (32 * k) old) e in
    let next : c.args.iv.now ++ to_be_bytes w32 c.pairs.count ≡ counter initial (2 * k) = c.pairs.invariant.next ∙ ap (λ k. counter initial (2 * k)) e in
    gctr-last key initial old mid _ a n (2 * k) (omega arith) (omega arith) text (ap (put_mid a n mid) (c.gctr_pair-2.ensures ∙ ap (λ block. gctr key block part) next))
