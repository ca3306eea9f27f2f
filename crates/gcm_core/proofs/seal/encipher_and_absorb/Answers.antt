use Rattle.std.proofs.Common.{◌≡◌, ◌+◌, ◌-◌, ◌*◌, ◌/◌, ◌++◌, length, take, drop, sym, ap, ◌∙◌, arith}
use Rattle.std.specs.Int.{w32, to_be_bytes}
use Rattle.std.proofs.lemmas.List.{length-take-le, take_all}
use borrow.Rule.Slice.PartMut.{put_mid}
use Rattle.cipher_spec.specs.Ghash.{ghash_from}
use Rattle.cipher_spec.specs.Gcm.{blocks, counter, gctr}
use Rattle.cipher_spec.proofs.GcmLemmas.{length-gctr}
use Rattle.gcm_core.proofs.Counting.{counter-next}
use Rattle.gcm_core.proofs.Groups.{gctr-further, gctr-last, gctr-more}
use Rattle.gcm_core.proofs.Hashing.{hash-part, key-part, from_parts}
use Rattle.gcm_core.proofs.seal.encipher_and_absorb.Goals as goal

pub pieces-preserved : goal.pieces-preserved
pieces-preserved c =
    let key = c.args.key.now in
    let iv = c.args.iv.now in
    let initial = iv ++ to_be_bytes w32 2 in
    let old = c.args.text.now in
    let h = c.args.hash.now.key in
    let y = c.args.hash.now.hash in
    let mid = c.pieces.text in
    let k = c.pieces.k in
    let a = 4096 * k in
    let n = 4096 * k + 4096 - 4096 * k in
    let part = take n (drop a mid) in
    let done = gctr key initial (take a old) in
    let size : a + n ≡ 4096 * (k + 1) = omega arith in
    let long : length done ≡ 16 * (256 * k) = length-gctr key initial (take a old) ∙ length-take-le a old (omega arith) ∙ omega arith in
    let piece : c.gctr.new.text ≡ gctr key (counter initial (256 * k)) part = c.gctr.ensures ∙ ap (λ block. gctr key block part) c.pieces.invariant.next in
    let more : gctr key initial (take (a + n) old) ≡ done ++ c.gctr.new.text = gctr-more key initial old mid a n (256 * k) (omega arith) (omega arith) c.pieces.invariant.text ∙ ap (λ l. done ++ l) (sym piece) in
    record {
      next = counter-next iv initial c.pieces.count (256 * k) 256 (256 * (k + 1)) c.told-iv (omega arith) c.pieces.invariant.next (omega arith);
      text = gctr-further key initial old mid _ a n (256 * k) (omega arith) (omega arith) c.pieces.invariant.text (ap (put_mid a n mid) piece) ∙ ap (λ e. gctr key initial (take e old) ++ drop e old) size;
      key = key-part h (blocks c.gctr.new.text) c.pieces.hash c.absorb.new.hash c.pieces.invariant.key c.absorb.ensures;
      hash = hash-part h y done c.gctr.new.text (256 * k) c.pieces.hash c.absorb.new.hash long c.pieces.invariant.key c.pieces.invariant.hash c.absorb.ensures ∙ ap (λ l. ghash_from h y (blocks l)) (sym more ∙ ap (λ e. gctr key initial (take e old)) size);
    }

pub returns-clause-enciphered : goal.returns-clause-enciphered
returns-clause-enciphered c =
    let key = c.args.key.now in
    let initial = c.args.iv.now ++ to_be_bytes w32 2 in
    let old = c.args.text.now in
    let mid = c.pieces.text in
    let k = length old / 4096 in
    let a = 4096 * k in
    let n = length mid - a in
    let part = take n (drop a mid) in
    let e : c.pieces.k ≡ k = omega arith in
    let text : mid ≡ gctr key initial (take a old) ++ drop a old = c.pieces.invariant.text ∙ ap (λ k. gctr key initial (take (4096 * k) old) ++ drop (4096 * k) old) e in
    let next : c.args.iv.now ++ to_be_bytes w32 c.pieces.count ≡ counter initial (256 * k) = c.pieces.invariant.next ∙ ap (λ k. counter initial (256 * k)) e in
    gctr-last key initial old mid _ a n (256 * k) (omega arith) (omega arith) text (ap (put_mid a n mid) (c.gctr-2.ensures ∙ ap (λ block. gctr key block part) next))

pub returns-clause-hashed : goal.returns-clause-hashed
returns-clause-hashed c =
    let key = c.args.key.now in
    let initial = c.args.iv.now ++ to_be_bytes w32 2 in
    let old = c.args.text.now in
    let h = c.args.hash.now.key in
    let y = c.args.hash.now.hash in
    let mid = c.pieces.text in
    let k = length old / 4096 in
    let a = 4096 * k in
    let n = length mid - a in
    let part = take n (drop a mid) in
    let done = gctr key initial (take a old) in
    let long : length done ≡ 16 * (256 * k) = length-gctr key initial (take a old) ∙ length-take-le a old (omega arith) ∙ omega arith in
    let e : c.pieces.k ≡ k = omega arith in
    let text : mid ≡ done ++ drop a old = c.pieces.invariant.text ∙ ap (λ k. gctr key initial (take (4096 * k) old) ++ drop (4096 * k) old) e in
    let next : c.args.iv.now ++ to_be_bytes w32 c.pieces.count ≡ counter initial (256 * k) = c.pieces.invariant.next ∙ ap (λ k. counter initial (256 * k)) e in
    let rest : c.gctr-2.new.text ≡ gctr key (counter initial (256 * k)) part = c.gctr-2.ensures ∙ ap (λ block. gctr key block part) next in
    let all : done ++ c.gctr-2.new.text ≡ gctr key initial old = ap (λ l. done ++ l) rest ∙ sym (gctr-more key initial old mid a n (256 * k) (omega arith) (omega arith) text) ∙ ap (gctr key initial) (take_all (a + n) old (omega arith)) in
    let before : c.pieces.hash.hash ≡ ghash_from h y (blocks done) = c.pieces.invariant.hash ∙ ap (λ k. ghash_from h y (blocks (gctr key initial (take (4096 * k) old)))) e in
    from_parts _ h _ (key-part h (blocks c.gctr-2.new.text) c.pieces.hash c.absorb-2.new.hash c.pieces.invariant.key c.absorb-2.ensures) (hash-part h y done c.gctr-2.new.text (256 * k) c.pieces.hash c.absorb-2.new.hash long c.pieces.invariant.key before c.absorb-2.ensures ∙ ap (λ l. ghash_from h y (blocks l)) (all ∙ sym (returns-clause-enciphered c)))
