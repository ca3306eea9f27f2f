use Rattle.std.proofs.Common.{◌≡◌, ℕ, bit_xor, refl, ap, ◌∙◌, arith}
use Rattle.std.specs.Int.Bits.{xor_assoc, xor_zero_r}
use Rattle.cipher_spec.specs.Aes.{sub_byte}
use Rattle.aes_core.proofs.key_schedule.sub_word.Goals as goal

image_of : (n i b x : ℕ) → n ≡ bit_xor i 0x63 → i ≡ bit_xor (sub_byte b) 0x63 → b ≡ x → n ≡ sub_byte x
image_of n i b x e f g = e ∙ ap (λ m. bit_xor m 0x63) f ∙ xor_assoc (sub_byte b) 0x63 0x63 ∙ xor_zero_r (sub_byte b) ∙ ap sub_byte g

pub returns : goal.returns
returns c =
    let sum = c.sum.ensures.lanes in
    let image = c.sub_bytes-images.ensures.lanes in
    let byte = c.in_basis.ensures in
    rw (
      image_of _ _ _ _ (sum 0 (omega arith)) (image 0 (omega arith)) (byte 0 (omega arith)),
      image_of _ _ _ _ (sum 1 (omega arith)) (image 1 (omega arith)) (byte 1 (omega arith)),
      image_of _ _ _ _ (sum 2 (omega arith)) (image 2 (omega arith)) (byte 2 (omega arith)),
      image_of _ _ _ _ (sum 3 (omega arith)) (image 3 (omega arith)) (byte 3 (omega arith)),
    ) refl
