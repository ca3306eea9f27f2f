use Rattle.std.proofs.Common.{◌≡◌, ℕ, List, ◌+◌, ◌*◌, ◌/◌, ◌%◌, ◌^◌, ◌<◌, Fits, w64, length, get_or, bit_xor, refl, ap, ◌∙◌, arith}
use Rattle.std.specs.Simd.Lanes.{zip2, Each1}
use Rattle.std.proofs.lemmas.Simd.{Each1-get_or}
use Rattle.ghash_core.proofs.Lanes.{lane_of_two, words_folded}
use Rattle.ghash_core.proofs.vector.folded.Goals as goal

word_small : (v : List ℕ) (i : ℕ) → length v ≡ 2 → Each1 (Fits w64) v → i < 2 → get_or v i 0 < 2 ^ 64
word_small v i long all within = (Each1-get_or (Fits w64) v i 0 (omega arith) all).fits

-- the number of the sum of two vectors
sum_is : (v w : List ℕ) (n : ℕ) → length v ≡ 2 → length w ≡ 2 → n ≡ get_or (zip2 bit_xor v w) 1 0 * 2 ^ 64 + get_or (zip2 bit_xor v w) 0 0 → n ≡ bit_xor (get_or v 1 0) (get_or w 1 0) * 2 ^ 64 + bit_xor (get_or v 0 0) (get_or w 0 0)
sum_is v w n h l e =
    e ∙ ap (λ s. s * 2 ^ 64 + get_or (zip2 bit_xor v w) 0 0) (lane_of_two bit_xor v w 2 1 h l (omega arith)) ∙ ap (λ s. bit_xor (get_or v 1 0) (get_or w 1 0) * 2 ^ 64 + s) (lane_of_two bit_xor v w 2 0 h l (omega arith))

pub returns : goal.returns
returns c =
    let ah = c.args.a_high in
    let al = c.args.a_low in
    let bh = c.args.b_high in
    let bl = c.args.b_low in
    let upper : bit_xor c.number.result (c.number-middle.result / 2 ^ 64) ≡ bit_xor (get_or bh 1 0 * 2 ^ 64 + get_or bh 0 0) (c.number-middle.result / 2 ^ 64) =
    ap (λ n. bit_xor n (c.number-middle.result / 2 ^ 64)) c.number.ensures in
    let lower : bit_xor c.number-2.result (c.number-middle.result * 2 ^ 64 % 2 ^ 128) ≡ bit_xor (get_or al 1 0 * 2 ^ 64 + get_or al 0 0) (c.number-middle.result * 2 ^ 64 % 2 ^ 128) =
    ap (λ n. bit_xor n (c.number-middle.result * 2 ^ 64 % 2 ^ 128)) c.number-2.ensures in
    words_folded (get_or ah 0 0) (get_or al 0 0) (get_or ah 1 0) (get_or al 1 0) (get_or bh 0 0) (get_or bl 0 0) (get_or bh 1 0) (get_or bl 1 0) c.number-middle.result _ _ _
    (word_small ah 0 c.fits-a_high.0 c.fits-a_high.1 (omega arith)) (word_small al 0 c.fits-a_low.0 c.fits-a_low.1 (omega arith)) (word_small al 1 c.fits-a_low.0 c.fits-a_low.1 (omega arith))
    (word_small bh 0 c.fits-b_high.0 c.fits-b_high.1 (omega arith)) (word_small bl 0 c.fits-b_low.0 c.fits-b_low.1 (omega arith)) (word_small bl 1 c.fits-b_low.0 c.fits-b_low.1 (omega arith))
    (sum_is ah bl c.number-middle.result c.fits-a_high.0 c.fits-b_low.0 c.number-middle.ensures) upper lower refl
