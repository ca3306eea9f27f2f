use Rattle.std.proofs.Common.{◌≡◌, get_or, [], refl, arith}
use Rattle.cipher_spec.specs.Aes.{cipher, word_at}
use Rattle.aes_core.proofs.KeyPlanes.{all_blocks, before_rounds, round_more, after_rounds}
use Rattle.aes_core.proofs.cipher.cipher_two.Goals as goal

pub both-init : goal.both-init
both-init c schedule has =
    let x = c.args.x.now in (
      before_rounds schedule _ (get_or x 0 []) (get_or x 0 []) _ c.first-one.ensures refl has.is_first,
      before_rounds schedule _ (get_or x 1 []) (get_or x 1 []) _ c.first-two.ensures refl has.is_first,
    )

pub both-preserved : goal.both-preserved
both-preserved c schedule has =
    let r = c.both.r in
    let key = word_at schedule r in
    let is = has.is_inner r (omega arith) (omega arith) in (
      round_more schedule _ _ (get_or c.args.x.now 0 []) r (omega arith) (c.round-next.ensures key is) (c.both.invariant schedule has).0,
      round_more schedule _ _ (get_or c.args.x.now 1 []) r (omega arith) (c.round-other.ensures key is) (c.both.invariant schedule has).1,
    )

pub returns : goal.returns
returns c schedule has =
    let x = c.args.x.now in
    let g = cipher schedule in
    let key = word_at schedule 14 in
    let one : c.last_round.result ≡ g (get_or x 0 []) = after_rounds schedule _ _ (get_or x 0 []) c.both.r (omega arith) (c.last_round.ensures key has.is_last) (c.both.invariant schedule has).0 in
    let two : c.last_round-2.result ≡ g (get_or x 1 []) = after_rounds schedule _ _ (get_or x 1 []) c.both.r (omega arith) (c.last_round-2.ensures key has.is_last) (c.both.invariant schedule has).1 in
    rw (one, two) (all_blocks (λ b. g (get_or x b [])) g x 2 c.told-x (λ b h. refl))
