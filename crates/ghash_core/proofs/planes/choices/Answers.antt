use Rattle.std.proofs.Common.{◌≡◌, ◌%◌, ◌^◌, get_or, bit_xor, refl, ap, ◌∙◌, arith}
use Rattle.std.specs.Simd.Lanes.{zip2}
use Rattle.ghash_core.proofs.Lanes.{lane_of_two, long_of_two}
use Rattle.ghash_core.proofs.Picks.{chosen_is, eight_marks, four_marks, one_marks, two_marks}
use Rattle.ghash_core.proofs.planes.choices.Goals as goal

pub picked-eight-requires-clause-lanes : goal.picked-eight-requires-clause-lanes
picked-eight-requires-clause-lanes c = eight_marks

pub picked-four-requires-clause-lanes : goal.picked-four-requires-clause-lanes
picked-four-requires-clause-lanes c = four_marks

pub picked-two-requires-clause-lanes : goal.picked-two-requires-clause-lanes
picked-two-requires-clause-lanes c = two_marks

pub picked-one-requires-clause-lanes : goal.picked-one-requires-clause-lanes
picked-one-requires-clause-lanes c = one_marks

pub returns : goal.returns
returns c n h =
    let p = c.picked-eight.result in
    let q = c.picked-four.result in
    let r = c.picked-two.result in
    let s = c.picked-one.result in
    let lp = c.picked-eight.ensures.long in
    let lq = c.picked-four.ensures.long in
    let lr = c.picked-two.ensures.long in
    let same : c.args.k % 2 ^ 8 ≡ c.args.k = omega (arith, c.requires) in
    lane_of_two bit_xor (zip2 bit_xor (zip2 bit_xor p q) r) s 16 n (long_of_two bit_xor (zip2 bit_xor p q) r 16 (long_of_two bit_xor p q 16 lp lq) lr) c.picked-one.ensures.long h
    ∙ ap (λ z. bit_xor z (get_or s n 0)) (lane_of_two bit_xor (zip2 bit_xor p q) r 16 n (long_of_two bit_xor p q 16 lp lq) lr h ∙ ap (λ z. bit_xor z (get_or r n 0)) (lane_of_two bit_xor p q 16 n lp lq h))
    ∙ rw (c.picked-eight.ensures.lanes n h, c.picked-four.ensures.lanes n h, c.picked-two.ensures.lanes n h, c.picked-one.ensures.lanes n h) (chosen_is _ _ _ _ _ _ _ _ n h refl refl refl refl)
