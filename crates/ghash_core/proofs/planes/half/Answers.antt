use Rattle.std.proofs.Common.{◌≡◌, ℕ, zero, suc, ◌*◌, ◌/◌, ◌%◌, ◌<◌, bit_xor, refl, ap, ◌∙◌, arith}
use Rattle.std.specs.Int.Bits.{xor_zero_r}
use Rattle.std.proofs.lemmas.Nat.{and_mask}
use Rattle.cipher_spec.specs.Field.{add_if}
use Rattle.cipher_spec.specs.Ghash.{reduction}
use Rattle.ghash_core.proofs.planes.half.Goals as goal

-- the reduction, added where the bit is 1
stepped : (b v : ℕ) → b < 2 → bit_xor v (b * reduction) ≡ add_if b v reduction
stepped zero v h = xor_zero_r v
stepped (suc zero) v h = refl
stepped (suc (suc b)) v h = absurd (omega arith)

pub returns : goal.returns
returns c =
    let v = c.args.v in
    ap (λ b. bit_xor (v / 2) (b * reduction)) (and_mask v 1) ∙ stepped (v % 2) (v / 2) (omega arith)
