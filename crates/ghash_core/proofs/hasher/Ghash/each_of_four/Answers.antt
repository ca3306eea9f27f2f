use Rattle.std.proofs.Common.{◌≡◌, [], map, slice_index_or, refl, sym, ap, subst, ◌∙◌}
use Rattle.std.specs.Int.{w128, from_be_bytes}
use Rattle.cipher_spec.specs.Ghash.{ghash_from}
use Rattle.ghash_core.specs.State.{HashState}
use Rattle.ghash_core.specs.Tables.{settled, IsPowers}
use Rattle.ghash_core.proofs.Blocks.{map-by_place}
use Rattle.ghash_core.proofs.Ring.{hash_by_powers}
use Rattle.ghash_core.proofs.hasher.Ghash.each_of_four.Goals as goal

pub returns : goal.returns
returns c =
    let k = c.self.inside.key in
    let h = c.args.self.now.key in
    let y = c.args.self.now.hash in
    let blocks = c.args.blocks.now in
    let key : k ≡ h = ap (λ (s : HashState). s.key) c.self.view_is in
    let hash : settled k c.self.inside.hash c.self.inside.waiting ≡ y = ap (λ (s : HashState). s.hash) c.self.view_is in
    let before : c.settled-hash.result ≡ y = c.settled-hash.ensures k c.self.invariant ∙ hash in
    let made = subst (IsPowers c.self.inside.powers) key c.self.invariant in
    let four = map-by_place (from_be_bytes w128) blocks 4 [] 0 c.told-blocks in
    let is : c.times_four-self-inside.result ≡ ghash_from h y (map (from_be_bytes w128) blocks) =
    c.times_four-self-inside.ensures h made
    ∙ rw (before, c.from_be_bytes.ensures, c.from_be_bytes-2.ensures, c.from_be_bytes-3.ensures, c.from_be_bytes-4.ensures) (sym (hash_by_powers h y (from_be_bytes w128 (slice_index_or blocks 0 [])) (from_be_bytes w128 (slice_index_or blocks 1 [])) (from_be_bytes w128 (slice_index_or blocks 2 [])) (from_be_bytes w128 (slice_index_or blocks 3 [])) made.small))
    ∙ ap (ghash_from h y) (sym four) in
    rw (key, is) refl
