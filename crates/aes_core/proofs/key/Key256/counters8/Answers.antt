use Rattle.std.proofs.Common.{◌++◌, [], map, refl, sym, ap, ◌∙◌, arith}
use Rattle.std.specs.List.{range_with_len}
use Rattle.std.specs.Int.{w32, to_be_bytes}
use Rattle.std.proofs.lemmas.List.FromFn.{get_or-map-range_with_len, length-map-range_with_len}
use Rattle.cipher_spec.specs.Aes.{aes, round_keys, rounds}
use Rattle.cipher_spec.specs.Gcm.{counter}
use Rattle.aes_core.proofs.key.Key256.counters8.Goals as goal

pub returns-clause-blocks : goal.returns-clause-blocks
unfolding aes
returns-clause-blocks c =
    let schedule = round_keys c.self.inside.bytes in
    let initial = c.args.iv.now ++ to_be_bytes w32 c.args.count in
    let blocks = map (counter initial) (range_with_len 0 8) in
    c.cipher_from.ensures schedule blocks c.self.invariant.1 (length-map-range_with_len (counter initial) 0 8) (λ b h.
    c.started-start.ensures.states b h ∙ rw c.self.view_is refl
    ∙ ap (λ x. rounds schedule x 2) (sym (get_or-map-range_with_len (counter initial) 0 8 b b [] h (omega arith))))
    ∙ rw c.self.view_is refl
