-- Sixteen counter blocks as eight and eight more.
use Rattle.std.proofs.Common.{◌≡◌, ℕ, ◌+◌, ◌-◌, ◌%◌, ◌^◌, ◌<◌, List, ◌++◌, length, sym, ap, ◌∙◌, inl, inr, arith}
use Rattle.std.specs.Int.{w32, to_be_bytes}
use Rattle.std.proofs.lemmas.Bool.{cases_lt}
use Rattle.cipher_spec.specs.Gcm.{counter}
use Rattle.aes_core.proofs.CounterBlocks.{counter-later}

pub both_halves : (f g : ℕ → List ℕ) → ((b : ℕ) → b < 8 → f b ≡ g b) → ((b : ℕ) → b < 8 → f (8 + b) ≡ g (8 + b)) → (b : ℕ) → b < 16 → f b ≡ g b
both_halves f g low high b h = elim (cases_lt b 8) [
  | inl s ↦ low b s
  | inr s ↦
      let e : 8 + (b - 8) ≡ b = omega arith in
      ap f (sym e) ∙ high (b - 8) (omega arith) ∙ ap g e
]

pub counter_second : (iv : List ℕ) (count b : ℕ) → length iv ≡ 12 → count < 2 ^ 32 → counter (iv ++ to_be_bytes w32 ((count + 8) % 2 ^ 32)) b ≡ counter (iv ++ to_be_bytes w32 count) (8 + b)
counter_second iv count b long fits =
    let second = (count + 8) % 2 ^ 32 in
    let e : (second + b) % 2 ^ 32 ≡ (count + (8 + b)) % 2 ^ 32 = omega arith in
    sym (counter-later iv second b long (omega arith)) ∙ ap (λ n. iv ++ to_be_bytes w32 n) e ∙ counter-later iv count (8 + b) long fits
