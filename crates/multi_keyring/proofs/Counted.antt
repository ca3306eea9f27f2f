-- How many entries a multi-keyring makes.
use Rattle.std.proofs.Common.{◌≡◌, ℕ, ◌+◌, ◌-◌, ◌^◌, ◌≤◌, min, nat_lt, Bool, true, false, ◌&&◌, List, [], ◌∷◌, length, Option, Some, None, refl, ap, arith, length-append}
use Rattle.std.proofs.lemmas.Bool.Decides.{nat_tests}
use Rattle.std.specs.Prelude.{IfSome, if◌then◌else◌}
use Rattle.std.specs.Option.{option_or}
use Rattle.esdk_fields.specs.Counts.{Stayed}
use Rattle.keyring_trait.specs.Wrapping.{WrapKeyValue, active}
use Rattle.keyring_trait.specs.Keyring.{KeyringMeaning}
use Rattle.keyring_trait.specs.declared.ring_refusals.RingRefusal.{RingRefusal}
use Rattle.keyring_trait.proofs.Active.{active-append}
use Rattle.multi_keyring.specs.Tree.{both_keys, all_keys, all_wraps, all_faults, all_steady, first_refusal, generator_refusal, joined_members}
use Rattle.multi_keyring.specs.Rows.{IsCounted, AllCounted}

both_told : (keys others : Option (List WrapKeyValue)) (a b : ℕ) → IfSome keys (λ ks. length (active ks) ≡ a) → IfSome others (λ ks. length (active ks) ≡ b)
    → IfSome (both_keys keys others) (λ ks. length (active ks) ≡ a + b)
both_told None others a b told told_others = tt
both_told (Some ks) None a b told told_others = tt
both_told (Some ks) (Some ls) a b told told_others = omega (arith, ap length (active-append ks ls), length-append (active ks) (active ls), told, told_others)

-- as many keys wrap as there are entries
pub all_told : (ms : List KeyringMeaning) → AllCounted ms → IfSome (all_keys ms) (λ keys. length (active keys) ≡ all_wraps ms)
all_told [] counted = refl
all_told (m ∷ ms) counted = both_told m.keys (all_keys ms) m.wraps (all_wraps ms) counted.0.told (all_told ms counted.1)

-- also where no more than 64 are told
capped_told : (over : Bool) (n : ℕ) (keys : Option (List WrapKeyValue)) → nat_lt 64 n ≡ over → IfSome keys (λ ks. length (active ks) ≡ n)
    → IfSome (if over then None else keys) (λ ks. length (active ks) ≡ min n 64)
capped_told true n keys is told = tt
capped_told false n None is told = tt
capped_told false n (Some ks) is told = grind (arith, nat_tests, is, told)

-- where neither refuses
pub or_first : (a b : Option RingRefusal) → option_or a b ≡ None → a ≡ None
or_first None b is = refl
or_first (Some r) b is = absurd cc

pub or_next : (a b : Option RingRefusal) → option_or a b ≡ None → b ≡ None
or_next None b is = is
or_next (Some r) b is = absurd cc

-- a multi-keyring that generates data keys makes an entry
generates : (ms : List KeyringMeaning) → AllCounted ms → generator_refusal ms ≡ None → 1 ≤ min (all_wraps ms) 64
generates [] counted is = absurd cc
generates (m ∷ ms) counted is = omega (arith, counted.0.generates (or_first m.refuses_none (first_refusal ms) is))

joined_generates : (has : Bool) (ms : List KeyringMeaning) → AllCounted ms → (joined_members has ms).refuses_none ≡ None → 1 ≤ min (all_wraps ms) 64
joined_generates true ms counted is = generates ms counted is
joined_generates false ms counted is = absurd cc

below : (steady : Bool) (n : ℕ) → (steady && nat_lt n (2 ^ 64 - 1)) ≡ true → Stayed n n
below true n is = grind (arith, nat_tests, is)
below false n is = absurd cc

-- what is said of each member's entries is said of the multi-keyring's
pub joined_counted : (has : Bool) (ms : List KeyringMeaning) → AllCounted ms → IsCounted (joined_members has ms)
joined_counted has ms counted = record {
  bound = omega arith;
  told = capped_told (nat_lt 64 (all_wraps ms)) (all_wraps ms) (all_keys ms) refl (all_told ms counted);
  generates = λ is. joined_generates has ms counted is;
  steady = λ is. below (all_steady ms) (all_faults ms) is;
}

-- each keyring of a row does, if the first and the others do
pub counted_first : (m : KeyringMeaning) (ms : List KeyringMeaning) → IsCounted m → AllCounted ms → AllCounted (m ∷ ms)
counted_first m ms first others = (first, others)
