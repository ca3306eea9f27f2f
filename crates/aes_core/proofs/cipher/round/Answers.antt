use Rattle.std.proofs.Common.{◌<◌, ℕ, get_or, bit_xor, refl, ap, ◌∙◌, arith}
use Rattle.std.proofs.lemmas.Nat.{xor_lt}
use Rattle.plane_core.specs.Bits.{mixed_byte}
use Rattle.plane_core.specs.Places.{below, shifted}
use Rattle.plane_core.proofs.States.{same_state}
use Rattle.aes_core.specs.Groups.{out_of_basis, state_in}
use Rattle.aes_core.proofs.Constants.{round_by_bytes, sub_byte_below}
use Rattle.aes_core.proofs.Groups.{mixed_is, out_sum, plain_image}
use Rattle.aes_core.proofs.cipher.round.Goals as goal

pub returns : goal.returns
unfolding state_in
returns c key is =
    let s = c.args.s in
    let image = λ (i : ℕ). plain_image (get_or s i 0) in
    let y = c.sub_bytes_in_basis-y.ensures in
    round_by_bytes (λ j. out_of_basis (get_or s j 0)) _ _ (state_in c.args.k) key refl
    (same_state (λ j. out_of_basis (get_or c.sum-2.result j 0))
    (λ j. bit_xor (mixed_byte (image (shifted j)) (image (shifted (below 1 j))) (image (shifted (below 2 j))) (image (shifted (below 3 j)))) (out_of_basis (get_or c.args.k j 0))) (λ j h.
    let h0 : shifted j < 16 = omega arith in
    let h1 : shifted (below 1 j) < 16 = omega arith in
    let h2 : shifted (below 2 j) < 16 = omega arith in
    let h3 : shifted (below 3 j) < 16 = omega arith in
    mixed_is (image (shifted j)) (image (shifted (below 1 j))) (image (shifted (below 2 j))) (image (shifted (below 3 j))) (get_or c.args.k j 0) _ _ _ _ _ _ _ _
    (xor_lt 8 _ _ (sub_byte_below _) (omega arith)) (c.sum-2.ensures.lanes j h) (c.sum.ensures.lanes j h) (c.sum-near.ensures.lanes j h)
    (ap out_of_basis (c.shifted.ensures j h) ∙ y.twice (shifted j) h0)
    (ap out_of_basis (c.one_below.ensures j h ∙ c.sum-thrice.ensures.lanes (shifted (below 1 j)) h1) ∙ out_sum (get_or c.sub_bytes_in_basis-y.result.once (shifted (below 1 j)) 0) (get_or c.sub_bytes_in_basis-y.result.twice (shifted (below 1 j)) 0) ∙ rw (y.once (shifted (below 1 j)) h1, y.twice (shifted (below 1 j)) h1) refl)
    (c.sum-far.ensures.lanes j h) (ap out_of_basis (c.two_below.ensures j h) ∙ y.once (shifted (below 2 j)) h2)
    (ap out_of_basis (c.three_below.ensures j h) ∙ y.once (shifted (below 3 j)) h3))) is
