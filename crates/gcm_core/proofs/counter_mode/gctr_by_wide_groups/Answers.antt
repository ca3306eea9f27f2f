use Rattle.std.proofs.Common.{◌≡◌, ◌+◌, ◌-◌, ◌*◌, ◌/◌, ◌++◌, length, take, drop, ap, ◌∙◌, arith}
use Rattle.std.specs.Int.{w32, to_be_bytes}
use borrow.Rule.Slice.PartMut.{put_mid}
use Rattle.cipher_spec.specs.Gcm.{counter, gctr}
use Rattle.gcm_core.proofs.Counting.{counter-next}
use Rattle.gcm_core.proofs.Groups.{gctr-further, gctr-last}
use Rattle.gcm_core.proofs.counter_mode.gctr_by_wide_groups.Goals as goal

pub groups-preserved : goal.groups-preserved
groups-preserved c =
    let key = c.args.key.now in
    let iv = c.args.iv.now in
    let initial = iv ++ to_be_bytes w32 c.args.first in
    let old = c.args.text.now in
    let mid = c.groups.text in
    let k = c.groups.k in
    let a = 256 * k in
    let n = 256 * k + 256 - 256 * k in
    let part = take n (drop a mid) in
    let e : a + n ≡ 256 * (k + 1) = omega arith in
    record {
      next = counter-next iv initial c.groups.count (16 * k) 16 (16 * (k + 1)) c.told-iv (omega arith) c.groups.invariant.next (omega arith);
      text = gctr-further key initial old mid _ a n (16 * k) (omega arith) (omega arith) c.groups.invariant.text (ap (put_mid a n mid) (c.gctr_wide_group.ensures.enciphered ∙ ap (λ block. gctr key block part) c.groups.invariant.next)) ∙ ap (λ e. gctr key initial (take e old) ++ drop e old) e;
      page = c.gctr_wide_group.ensures.page;
    }

pub returns : goal.returns
returns c =
    let key = c.args.key.now in
    let initial = c.args.iv.now ++ to_be_bytes w32 c.args.first in
    let old = c.args.text.now in
    let mid = c.groups.text in
    let k = length old / 256 in
    let a = 256 * k in
    let n = length mid - a in
    let part = take n (drop a mid) in
    let e : c.groups.k ≡ k = omega arith in
    let text : mid ≡ gctr key initial (take a old) ++ drop a old = c.groups.invariant.text ∙ ap (λ k. gctr key initial (take (256 * k) old) ++ drop (256 * k) old) e in
    let next : c.args.iv.now ++ to_be_bytes w32 c.groups.count ≡ counter initial (16 * k) = c.groups.invariant.next ∙ ap (λ k. counter initial (16 * k)) e in
    gctr-last key initial old mid _ a n (16 * k) (omega arith) (omega arith) text (ap (put_mid a n mid) (c.gctr_wide_rest.ensures ∙ ap (λ block. gctr key block part) next))

pub gctr_wide_group-requires-clause-page : goal.gctr_wide_group-requires-clause-page
gctr_wide_group-requires-clause-page c = c.groups.invariant.page

pub gctr_wide_rest-requires-clause-page : goal.gctr_wide_rest-requires-clause-page
gctr_wide_rest-requires-clause-page c = c.groups.invariant.page
