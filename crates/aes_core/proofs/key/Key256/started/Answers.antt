use Rattle.std.proofs.Common.{◌≡◌, ◌++◌, [], ◌/◌, ◌^◌, get_or, refl, ap, ◌∙◌, arith}
use Rattle.std.specs.Int.{w32, to_be_bytes}
use Rattle.std.proofs.lemmas.List.FromFn.{get_or-map-range_with_len}
use Rattle.cipher_spec.specs.Aes.{round_keys, rounds}
use Rattle.cipher_spec.specs.Gcm.{counter}
use Rattle.aes_core.proofs.Pages.{group_block}
use Rattle.aes_core.proofs.key.Key256.started.Goals as goal

pub returns-then-not-is_group-clause-states : goal.returns-then-not-is_group-clause-states
returns-then-not-is_group-clause-states c = λ b h.
    let schedule = round_keys c.self.inside.bytes in
    let initial = c.args.iv.now ++ to_be_bytes w32 c.args.count in
    c.second_states.ensures schedule b c.self.invariant.1 h
    ∙ ap (λ x. rounds schedule x 2) (ap (λ l. get_or l b []) c.counter_blocks.ensures ∙ get_or-map-range_with_len (counter initial) 0 8 b b [] h (omega arith))
    ∙ rw c.self.view_is refl

pub returns-clause-states : goal.returns-clause-states
returns-clause-states c = λ b h.
    let iv = c.args.iv.now in
    let schedule = round_keys c.args.self.now in
    let count = c.args.count in
    let group = c.if-not-is_group.ensures refl in
    let page = c.turn_to.new.page in
    let turned = c.turn_to.ensures.page in
    let quad = c.turn_to.ensures.quad in
    let number : page.number ≡ count / 2 ^ 8 = omega (arith, turned.is_number, quad) in
    c.group_states.ensures schedule iv b turned c.told-iv h
    ∙ ap (λ x. rounds schedule x 2) (group_block iv count b page.number _ c.told-iv (omega arith) group.0 group.1 h number (omega (arith, quad, group.0, group.1)))
