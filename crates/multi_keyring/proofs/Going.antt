-- What a call keeps of keyrings in a row.
use Rattle.std.proofs.Common.{◌≡◌, ℕ, ◌-◌, ◌^◌, ◌≤◌, min, nat_lt, Bool, true, false, ◌&&◌, List, [], ◌∷◌, Some, refl, ap, ◌∙◌, arith}
use Rattle.std.proofs.lemmas.Bool.Decides.{nat_tests}
use Rattle.std.specs.Prelude.{if◌then◌else◌}
use Rattle.esdk_fields.specs.Counts.{Stayed}
use Rattle.keyring_trait.specs.Keyring.{KeyringMeaning, KeyringGoes}
use Rattle.keyring_trait.specs.declared.ring_refusals.RingRefusal.TheVariants.{NoGenerator, GeneratorHasKey}
use Rattle.multi_keyring.specs.Tree.{all_keys, all_wraps, all_faults, all_steady, first_refusal, generator_refusal, joined_members}
use Rattle.multi_keyring.specs.Rows.{AllGo}

pub keys_go : (os ns : List KeyringMeaning) → AllGo os ns → all_keys ns ≡ all_keys os
keys_go [] [] go = refl
keys_go [] (n ∷ ns) go = absurd go
keys_go (o ∷ os) [] go = absurd go
keys_go (o ∷ os) (n ∷ ns) go = rw (go.0.keys, keys_go os ns go.1) refl

pub wraps_go : (os ns : List KeyringMeaning) → AllGo os ns → all_wraps ns ≡ all_wraps os
wraps_go [] [] go = refl
wraps_go [] (n ∷ ns) go = absurd go
wraps_go (o ∷ os) [] go = absurd go
wraps_go (o ∷ os) (n ∷ ns) go = omega (arith, go.0.wraps, wraps_go os ns go.1)

pub refusal_goes : (os ns : List KeyringMeaning) → AllGo os ns → first_refusal ns ≡ first_refusal os
refusal_goes [] [] go = refl
refusal_goes [] (n ∷ ns) go = absurd go
refusal_goes (o ∷ os) [] go = absurd go
refusal_goes (o ∷ os) (n ∷ ns) go = rw (go.0.refuses_key, refusal_goes os ns go.1) refl

generator_goes : (os ns : List KeyringMeaning) → AllGo os ns → generator_refusal ns ≡ generator_refusal os
generator_goes [] [] go = refl
generator_goes [] (n ∷ ns) go = absurd go
generator_goes (o ∷ os) [] go = absurd go
generator_goes (o ∷ os) (n ∷ ns) go = rw (go.0.refuses_none, refusal_goes os ns go.1) refl

steady_goes : (os ns : List KeyringMeaning) → AllGo os ns → all_steady ns ≡ all_steady os
steady_goes [] [] go = refl
steady_goes [] (n ∷ ns) go = absurd go
steady_goes (o ∷ os) [] go = absurd go
steady_goes (o ∷ os) (n ∷ ns) go = rw (go.0.steady, steady_goes os ns go.1) refl

pub faults_go : (os ns : List KeyringMeaning) → AllGo os ns → all_faults os ≤ all_faults ns
faults_go [] [] go = omega arith
faults_go [] (n ∷ ns) go = absurd go
faults_go (o ∷ os) [] go = absurd go
faults_go (o ∷ os) (n ∷ ns) go = omega (arith, go.0.later, faults_go os ns go.1)

pub first_true : (a b : Bool) → (a && b) ≡ true → a ≡ true
first_true true b is = refl
first_true false b is = absurd cc

pub second_true : (a b : Bool) → (a && b) ≡ true → b ≡ true
second_true true b is = is
second_true false b is = absurd cc

-- of steady keyrings no fault is counted
steady_stays : (os ns : List KeyringMeaning) → AllGo os ns → all_steady os ≡ true → all_faults ns ≡ all_faults os
steady_stays [] [] go steady = refl
steady_stays [] (n ∷ ns) go steady = absurd go
steady_stays (o ∷ os) [] go steady = absurd go
steady_stays (o ∷ os) (n ∷ ns) go steady =
    let still = go.0.still (first_true o.steady (all_steady os) steady) in
    let others = steady_stays os ns go.1 (second_true o.steady (all_steady os) steady) in
    omega (arith, go.0.later, still, others)

steady_same : (steady : Bool) (a b : ℕ) → (steady ≡ true → b ≡ a) → (steady && nat_lt b (2 ^ 64 - 1)) ≡ (steady && nat_lt a (2 ^ 64 - 1))
steady_same true a b same = ap (λ n. nat_lt n (2 ^ 64 - 1)) (same refl)
steady_same false a b same = refl

still_stays : (steady : Bool) (a b : ℕ) → (steady ≡ true → b ≡ a) → (steady && nat_lt a (2 ^ 64 - 1)) ≡ true → Stayed a b
still_stays true a b same is = grind (arith, nat_tests, is, same refl)
still_stays false a b same is = absurd cc

chosen : {A : Type 0} (has : Bool) (a b c d : A) → a ≡ c → b ≡ d → (if has then a else b) ≡ (if has then c else d)
chosen true a b c d ac bd = ac
chosen false a b c d ac bd = bd

-- a multi-keyring keeps what its members keep
pub joined_goes : (has : Bool) (os ns : List KeyringMeaning) → AllGo os ns → KeyringGoes (joined_members has os) (joined_members has ns)
joined_goes has os ns go = record {
  keys = rw (wraps_go os ns go, keys_go os ns go) refl;
  wraps = ap (λ n. min n 64) (wraps_go os ns go);
  refuses_key = chosen has (Some GeneratorHasKey) (first_refusal ns) (Some GeneratorHasKey) (first_refusal os) refl (refusal_goes os ns go);
  refuses_none = chosen has (generator_refusal ns) (Some NoGenerator) (generator_refusal os) (Some NoGenerator) (generator_goes os ns go) refl;
  steady = ap (λ b. b && nat_lt (all_faults ns) (2 ^ 64 - 1)) (steady_goes os ns go) ∙ steady_same (all_steady os) (all_faults os) (all_faults ns) (steady_stays os ns go);
  later = faults_go os ns go;
  still = λ is. still_stays (all_steady os) (all_faults os) (all_faults ns) (steady_stays os ns go) is;
}

-- a row goes on where the first goes on, and the others
pub go_first : (o n : KeyringMeaning) (os ns : List KeyringMeaning) → KeyringGoes o n → AllGo os ns → AllGo (o ∷ os) (n ∷ ns)
go_first o n os ns first others = (first, others)
