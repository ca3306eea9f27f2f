use Rattle.std.proofs.Common.{◌≡◌, ◌+◌, ◌-◌, ◌*◌, ◌/◌, ◌++◌, length, take, drop, sym, ap, ◌∙◌, arith}
use Rattle.std.proofs.Math.Seq.{take-add}
use Rattle.std.proofs.lemmas.List.{length-take-le, take_all}
use Rattle.cipher_spec.specs.Ghash.{ghash_from}
use Rattle.cipher_spec.specs.Gcm.{blocks}
use Rattle.gcm_core.proofs.Hashing.{hash-blocks, hash-part, key-part, from_parts}
use Rattle.gcm_core.proofs.absorbing.absorb.Goals as goal

pub groups-preserved : goal.groups-preserved
groups-preserved c =
    let h = c.args.hash.now.key in
    let y = c.args.hash.now.hash in
    let text = c.args.text.now in
    let k = c.groups.k in
    let a = 64 * k in
    let n = 64 * k + 64 - 64 * k in
    let part = take n (drop a text) in
    let size : a + n ≡ 64 * (k + 1) = omega arith in
    let step = hash-blocks _ (blocks part) c.groups.hash c.four.new.self c.four_blocks.ensures c.four.ensures in
    let further : take a text ++ part ≡ take (64 * (k + 1)) text = sym (take-add a n text) ∙ ap (λ n. take n text) size in
    record {
      key = key-part h (blocks part) c.groups.hash c.four.new.self c.groups.invariant.key step;
      hash = hash-part h y (take a text) part (4 * k) c.groups.hash c.four.new.self (length-take-le a text (omega arith) ∙ omega arith) c.groups.invariant.key c.groups.invariant.hash step ∙ ap (λ l. ghash_from h y (blocks l)) further;
    }

pub returns : goal.returns
returns c =
    let h = c.args.hash.now.key in
    let y = c.args.hash.now.hash in
    let text = c.args.text.now in
    let k = length text / 64 in
    let a = 64 * k in
    let n = length text - a in
    let part = take n (drop a text) in
    let e : c.groups.k ≡ k = omega arith in
    let before : c.groups.hash.hash ≡ ghash_from h y (blocks (take a text)) = c.groups.invariant.hash ∙ ap (λ k. ghash_from h y (blocks (take (64 * k) text))) e in
    let all : take a text ++ part ≡ text = sym (take-add a n text) ∙ take_all (a + n) text (omega arith) in
    from_parts _ h (ghash_from h y (blocks text)) (key-part h (blocks part) c.groups.hash c.absorb_by_blocks.new.hash c.groups.invariant.key c.absorb_by_blocks.ensures) (hash-part h y (take a text) part (4 * k) c.groups.hash c.absorb_by_blocks.new.hash (length-take-le a text (omega arith) ∙ omega arith) c.groups.invariant.key before c.absorb_by_blocks.ensures ∙ ap (λ l. ghash_from h y (blocks l)) all)
