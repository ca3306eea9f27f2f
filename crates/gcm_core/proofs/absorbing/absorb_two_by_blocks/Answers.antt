use Rattle.std.proofs.Common.{◌≡◌, ◌+◌, ◌/◌, ◌++◌, map, length, ap, ◌∙◌, arith, length-append}
use Rattle.std.specs.List.{range_with_len}
use Rattle.cipher_spec.specs.Ghash.{ghash_from}
use Rattle.cipher_spec.specs.Gcm.{block_at}
use Rattle.gcm_core.proofs.Hashing.{key-block, hash-block, from_parts}
use Rattle.gcm_core.proofs.absorbing.absorb_two_by_blocks.Goals as goal

pub each-preserved : goal.each-preserved
each-preserved c =
    let old = c.args.hash.now in
    let new = c.block-in-each.new.self in
    record {
      key = key-block old.key _ c.each.hash new c.each.invariant.key c.block-in-each.ensures;
      hash = hash-block old.key old.hash (c.args.first.now ++ c.args.second.now) c.each.k _ c.each.hash new c.each.invariant.key c.each.invariant.hash c.block.ensures c.block-in-each.ensures;
    }

pub returns : goal.returns
returns c =
    let old = c.args.hash.now in
    let text = c.args.first.now ++ c.args.second.now in
    let e : c.each.k ≡ (length text + 15) / 16 = omega (arith, length-append c.args.first.now c.args.second.now) in
    from_parts _ _ _ c.each.invariant.key (c.each.invariant.hash ∙ ap (λ n. ghash_from old.key old.hash (map (block_at text) (range_with_len 0 n))) e)
