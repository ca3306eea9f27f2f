-- The loop that makes the round keys in vectors.
use Rattle.std.proofs.Common.{◌≡◌, ℕ, ◌+◌, ◌<◌, List, [], length, sym, ap, ◌∙◌, inl, inr, arith}
use Rattle.std.proofs.Math.ListN.{set}
use Rattle.std.proofs.lemmas.Bool.{cases_lt}
use Rattle.std.proofs.lemmas.List.{get_or-set_same, get_or-set_other, length-set}
use Rattle.cipher_spec.specs.Aes.{word_at}
use Rattle.aes_core.specs.Groups.{state_in}
use Rattle.aes_core.specs.PlaneKeys.{with_constant, HasVectorKeys}

-- the keys of the inner rounds below n are made, the first is as it was, and there is room for 15
pub record AreBegun (keys schedule : List (List ℕ)) (n : ℕ) : Type 0 where
  pub long : length keys ≡ 15
  pub first : word_at keys 0 ≡ word_at schedule 0
  pub inner : (r : ℕ) → 0 < r → r < n → state_in (word_at keys r) ≡ with_constant (word_at schedule r)

pub one_more : (keys schedule : List (List ℕ)) (key : List ℕ) (n : ℕ) → 0 < n → n < 15 → AreBegun keys schedule n
    → state_in key ≡ with_constant (word_at schedule n) → AreBegun (set keys n key) schedule (n + 1)
one_more keys schedule key n low high begun is = record {
  long = length-set keys n key ∙ begun.long;
  first = get_or-set_other keys n 0 key [] (omega arith) ∙ begun.first;
  inner = λ r some h. elim (cases_lt r n) [
    | inl s ↦ ap state_in (get_or-set_other keys n r key [] (omega arith)) ∙ begun.inner r some s
    | inr g ↦
        let z : r ≡ n = omega arith in
        let room : n < length keys = omega (arith, begun.long) in
        ap (λ i. state_in (word_at (set keys n key) i)) z ∙ ap state_in (get_or-set_same keys n key [] room) ∙ is ∙ ap (λ i. with_constant (word_at schedule i)) (sym z)
  ];
}

pub all_keys : (keys schedule : List (List ℕ)) (key : List ℕ) (n : ℕ) → n ≡ 14 → AreBegun keys schedule n
    → key ≡ with_constant (word_at schedule 14) → HasVectorKeys (set keys 14 key) schedule
all_keys keys schedule key n e begun is = record {
  is_first = get_or-set_other keys 14 0 key [] (omega arith) ∙ begun.first;
  is_inner = λ r some h. ap state_in (get_or-set_other keys 14 r key [] (omega arith)) ∙ begun.inner r some (omega arith);
  is_last = get_or-set_same keys 14 key [] (omega (arith, begun.long)) ∙ is;
}
