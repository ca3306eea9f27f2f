use Rattle.std.proofs.Common.{◌≡◌, ◌^◌, slice_index, refl, ap, ◌∙◌, arith}
use Rattle.std.specs.Simd.Lanes.{digits_l, number_l}
use Rattle.ghash_core.proofs.Nibbles.{get_or-digits_l}
use Rattle.ghash_core.proofs.vector.bytes.Goals as goal

pub returns : goal.returns
returns c =
    let x = c.args.x in
    let whole : number_l (2 ^ 64) c.words.result ≡ x = ap (number_l (2 ^ 64)) c.words.ensures ∙ omega arith in
    record {
      lanes = λ i h. ap (λ n. slice_index (digits_l 256 16 n) i) whole ∙ get_or-digits_l 16 x i h;
      long = refl;
    }
