-- Lists that are equal byte by byte.
use Rattle.std.proofs.Common.{◌≡◌, ℕ, ◌<◌, List, length, get_or, bit_xor, refl, sym, ap, ◌∙◌}
use Rattle.std.specs.Int.Bits.{xor_assoc, xor_self, xor_zero_r}
use Rattle.std.proofs.lemmas.List.FromFn.{fill_by_all}

-- numbers whose sum is nothing are equal
pub equal_from_xor : (a b : ℕ) → bit_xor a b ≡ 0 → a ≡ b
equal_from_xor a b e =
    sym (xor_zero_r a) ∙ sym (ap (bit_xor a) (xor_self b)) ∙ sym (xor_assoc a b b) ∙ ap (λ s. bit_xor s b) e

-- lists of one length with the same bytes are equal
pub equal_from_bytes : (a b : List ℕ) (n : ℕ) → length a ≡ n → length b ≡ n → ((j : ℕ) → j < n → get_or a j 0 ≡ get_or b j 0) → a ≡ b
equal_from_bytes a b n long_a long_b same =
    fill_by_all (λ j. get_or b j 0) a n 0 long_a same ∙ sym (fill_by_all (λ j. get_or b j 0) b n 0 long_b (λ j h. refl))
