use Rattle.std.proofs.Common.{◌<◌, get_or, bit_xor, refl, ap, ◌∙◌, arith}
use Rattle.std.proofs.lemmas.List.FromFn.{fill_by_all}
use Rattle.plane_core.specs.Places.{shifted}
use Rattle.aes_core.specs.Groups.{out_of_basis, state_in}
use Rattle.aes_core.proofs.Constants.{last_round_by_bytes}
use Rattle.aes_core.proofs.Groups.{plain_image}
use Rattle.aes_core.proofs.cipher.last_round.Goals as goal

pub returns : goal.returns
unfolding state_in
returns c key is =
    let s = c.args.s in
    let k = c.args.k in
    last_round_by_bytes (λ j. out_of_basis (get_or s j 0)) _ _ k key refl
    (fill_by_all (λ j. bit_xor (plain_image (get_or s (shifted j) 0)) (get_or k j 0)) c.sum.result 16 0 c.sum.ensures.long (λ j h.
    let within : shifted j < 16 = omega arith in
    c.sum.ensures.lanes j h ∙ ap (λ n. bit_xor n (get_or k j 0)) (c.shifted.ensures j h ∙ c.sub_bytes.ensures.lanes (shifted j) within))) is
