-- The inverses in the field, computed at each byte.
use Rattle.std.proofs.Common.{◌≡◌, ℕ, zero, suc, ◌<◌, arith}
use Rattle.cipher_spec.specs.Field.{field_product, inverse}
use Rattle.cipher_spec.proofs.Computed.{same_below}

pub inverse_is : (a : ℕ) → 0 < a → a < 256 → field_product a (inverse a) ≡ 1
unfolding field_product inverse
inverse_is zero h l = absurd (omega arith)
inverse_is (suc a) h l = same_below (λ i. field_product (suc i) (inverse (suc i))) (λ i. 1) 255 tt a (omega arith)
