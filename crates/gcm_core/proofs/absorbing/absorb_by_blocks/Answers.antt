use Rattle.std.proofs.Common.{◌≡◌, ◌+◌, ◌-◌, ◌*◌, ◌/◌, [], ◌++◌, map, length, take, drop, ap, ◌∙◌, arith, length-drop}
use Rattle.std.specs.List.{range_with_len}
use Rattle.std.specs.Int.{w128, from_be_bytes}
use Rattle.std.proofs.lemmas.List.{append-nil, take_all}
use Rattle.cipher_spec.specs.Ghash.{ghash_from}
use Rattle.cipher_spec.specs.Gcm.{block_at}
use Rattle.gcm_core.proofs.Blocks.{block-behind}
use Rattle.gcm_core.proofs.Hashing.{key-block, hash-block, from_parts}
use Rattle.gcm_core.proofs.absorbing.absorb_by_blocks.Goals as goal

pub each-preserved : goal.each-preserved
each-preserved c =
    let old = c.args.hash.now in
    record {
      key = key-block old.key _ c.each.hash c.block.new.self c.each.invariant.key c.block.ensures;
      hash = hash-block old.key old.hash c.args.text.now c.each.k _ c.each.hash c.block.new.self c.each.invariant.key c.each.invariant.hash c.whole_block.ensures c.block.ensures;
    }

pub returns-then-text-eq0 : goal.returns-then-text-eq0
returns-then-text-eq0 c =
    let old = c.args.hash.now in
    let text = c.args.text.now in
    let e : c.each.k ≡ (length text + 15) / 16 = omega arith in
    from_parts _ _ _ c.each.invariant.key (c.each.invariant.hash ∙ ap (λ n. ghash_from old.key old.hash (map (block_at text) (range_with_len 0 n))) e)

pub returns : goal.returns
returns c =
    let old = c.args.hash.now in
    let text = c.args.text.now in
    let k : length text / 16 ≡ c.each.k = omega arith in
    let n = length text - 16 * (length text / 16) in
    let part = drop (16 * (length text / 16)) text in
    let all : take n part ++ [] ≡ part = append-nil (take n part) ∙ take_all n part (omega (arith, length-drop (16 * (length text / 16)) text)) in
    let last : from_be_bytes w128 c.joined.result ≡ block_at text c.each.k = c.joined.ensures ∙ ap (λ l. block_at l 0) all ∙ block-behind text (length text / 16) ∙ ap (block_at text) k in
    let e : c.each.k + 1 ≡ (length text + 15) / 16 = omega arith in
    from_parts _ _ _ (key-block old.key _ c.each.hash c.block-2.new.self c.each.invariant.key c.block-2.ensures) (hash-block old.key old.hash text c.each.k _ c.each.hash c.block-2.new.self c.each.invariant.key c.each.invariant.hash last c.block-2.ensures ∙ ap (λ n. ghash_from old.key old.hash (map (block_at text) (range_with_len 0 n))) e)
