use Rattle.std.proofs.Common.{◌++◌, [], map, refl, sym, ap, ◌∙◌, arith}
use Rattle.std.specs.List.{range_with_len}
use Rattle.std.specs.Int.{w32, to_be_bytes}
use Rattle.std.proofs.lemmas.List.FromFn.{get_or-map-range_with_len, length-map-range_with_len}
use Rattle.cipher_spec.specs.Aes.{aes, round_keys, rounds}
use Rattle.cipher_spec.specs.Gcm.{counter}
use Rattle.plane_core.specs.Bits.{block}
use Rattle.plane_core.specs.Places.{wide_bit}
use Rattle.aes_core.proofs.Sixteens.{both_halves, counter_second}
use Rattle.aes_core.proofs.key.Key256.counters16.Goals as goal

pub returns-clause-blocks : goal.returns-clause-blocks
unfolding aes
returns-clause-blocks c =
    let schedule = round_keys c.self.inside.bytes in
    let keys = round_keys c.args.self.now in
    let iv = c.args.iv.now in
    let initial = iv ++ to_be_bytes w32 c.args.count in
    let blocks = map (counter initial) (range_with_len 0 16) in
    let states = both_halves (block wide_bit c.halves.result) (λ b. rounds keys (counter initial b) 2)
    (λ b h. c.halves.ensures.low b h ∙ c.started-first.ensures.states b h)
    (λ b h. c.halves.ensures.high b h ∙ c.started-second.ensures.states b h ∙ ap (λ x. rounds keys x 2) (counter_second iv c.args.count b c.told-iv (omega arith))) in
    c.cipher_from.ensures schedule blocks c.self.invariant.1 (length-map-range_with_len (counter initial) 0 16) (λ b h.
    states b h ∙ rw c.self.view_is refl
    ∙ ap (λ x. rounds schedule x 2) (sym (get_or-map-range_with_len (counter initial) 0 16 b b [] h (omega arith))))
    ∙ rw c.self.view_is refl
