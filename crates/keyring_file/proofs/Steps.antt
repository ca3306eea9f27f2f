-- What each step of a walk that comes to its end gives.
use Rattle.std.proofs.Common.{◌≡◌, ◌≤◌, ◌+◌, ℕ, Bool, true, false, nat_lt, List, [], ◌∷◌, ◌++◌, length, refl, ap, arith}
use Rattle.std.specs.Prelude.{Option, Some, None, option_map, Result, Ok, Err, if◌then◌else◌}
use Rattle.std.specs.List.{list_any}
use Rattle.std.specs.Str.{bytes_eq}
use Rattle.std.proofs.lemmas.Bool.{ltb-false}
use Rattle.esdk_fields.specs.declared.refusals.FileRefusal.{FileRefusal}
use Rattle.esdk_fields.specs.declared.refusals.FileRefusal.TheVariants.{TooManyLeaves, ClashingKeys}
use Rattle.keyring_trait.specs.Wrapping.{WrapKeyValue}
use Rattle.keyring_file.specs.declared.plugs.Plug.{Plug}
use Rattle.keyring_file.specs.Plugs.{taken}
use Rattle.keyring_file.specs.Walk.{Met, Walk, then_walk, walk_or_refuse, walk_refuse_if, count_leaves, kept, used, plug_used, is_another_key}

-- what was met, with one more
abbrev pub with_leaves : {P : Type 0} → ℕ → Met P → Met P
with_leaves n met = record met { leaves = met.leaves + n }

abbrev pub with_key : {P : Type 0} → WrapKeyValue → Met P → Met P
with_key w met = record met { keys = met.keys ++ w ∷ [] }

abbrev pub with_plugs : {P : Type 0} → List (Plug P) → Met P → Met P
with_plugs plugs met = record met { plugs = plugs }

abbrev pub with_node : {P : Type 0} → Met P → Met P
with_node met = record met { nodes = met.nodes + 1 }

-- a walk came to its end: what its first part gave
pub record Went {P A B : Type 0} (first : Result (A × Met P) FileRefusal) (next : A → Walk P B) (y : B × Met P) : Type 0 where
  pub value : A × Met P
  pub is : first ≡ Ok value
  pub rest : next value.0 value.1 ≡ Ok y

pub went : {P A B : Type 0} (first : Result (A × Met P) FileRefusal) (next : A → Walk P B) (y : B × Met P) → then_walk first next ≡ Ok y → Went first next y
went (Ok x) next y e = record { value = x; is = refl; rest = e }
went (Err refusal) next y e = absurd cc

pub passed : {P B : Type 0} (test : Bool) (refusal : FileRefusal) (next : Unit {0} → Walk P B) (met : Met P) (y : B × Met P)
    → then_walk (walk_refuse_if test refusal met) next ≡ Ok y → next tt met ≡ Ok y
passed true refusal next met y e = absurd cc
passed false refusal next met y e = e

pub record Got {P A B : Type 0} (found : Option A) (next : A → Walk P B) (met : Met P) (y : B × Met P) : Type 0 where
  pub value : A
  pub is : found ≡ Some value
  pub rest : next value met ≡ Ok y

pub got : {P A B : Type 0} (refusal : FileRefusal) (found : Option A) (next : A → Walk P B) (met : Met P) (y : B × Met P)
    → then_walk (walk_or_refuse refusal found met) next ≡ Ok y → Got found next met y
got refusal (Some x) next met y e = record { value = x; is = refl; rest = e }
got refusal None next met y e = absurd cc

pub record Counted {P B : Type 0} (n : ℕ) (next : Unit {0} → Walk P B) (met : Met P) (y : B × Met P) : Type 0 where
  pub most : met.leaves + n ≤ 64
  pub rest : next tt (with_leaves n met) ≡ Ok y

counted_by : {P B : Type 0} (test : Bool) (n : ℕ) (next : Unit {0} → Walk P B) (met : Met P) (y : B × Met P) → nat_lt 64 (met.leaves + n) ≡ test
    → then_walk (if test then Err TooManyLeaves else Ok (tt, with_leaves n met)) next ≡ Ok y → Counted n next met y
counted_by true n next met y is e = absurd cc
counted_by false n next met y is e = record { most = ltb-false 64 (met.leaves + n) is; rest = e }

pub counted_on : {P B : Type 0} (n : ℕ) (next : Unit {0} → Walk P B) (met : Met P) (y : B × Met P) → then_walk (count_leaves n met) next ≡ Ok y → Counted n next met y
unfolding count_leaves
counted_on n next met y e = counted_by (nat_lt 64 (met.leaves + n)) n next met y refl e

pub record Kept {P B : Type 0} (w : WrapKeyValue) (next : Unit {0} → Walk P B) (met : Met P) (y : B × Met P) : Type 0 where
  pub apart : list_any (is_another_key w) met.keys ≡ false
  pub rest : next tt (with_key w met) ≡ Ok y

kept_by : {P B : Type 0} (test : Bool) (w : WrapKeyValue) (next : Unit {0} → Walk P B) (met : Met P) (y : B × Met P) → list_any (is_another_key w) met.keys ≡ test
    → then_walk (if test then Err (ClashingKeys w.namespace w.name) else Ok (tt, with_key w met)) next ≡ Ok y → Kept w next met y
kept_by true w next met y is e = absurd cc
kept_by false w next met y is e = record { apart = is; rest = e }

pub kept_on : {P B : Type 0} (w : WrapKeyValue) (next : Unit {0} → Walk P B) (met : Met P) (y : B × Met P) → then_walk (kept w met) next ≡ Ok y → Kept w next met y
unfolding kept
kept_on w next met y e = kept_by (list_any (is_another_key w) met.keys) w next met y refl e

-- one plug fewer is left
fewer_by : {P : Type 0} (test : Bool) (plug : Plug P) (plugs : List (Plug P)) (rest : Option (P × List (Plug P))) (found : P × List (Plug P))
    → ((x : P × List (Plug P)) → rest ≡ Some x → length x.1 + 1 ≡ length plugs)
    → (if test then Some (plug.keyring, plugs) else option_map (λ x. (x.0, plug ∷ x.1)) rest) ≡ Some found → length found.1 + 1 ≡ length (plug ∷ plugs)
fewer_by true plug plugs rest found so e = let same : plugs ≡ found.1 = cc in omega (arith, ap length same)
fewer_by false plug plugs (Some x) found so e = let same : plug ∷ x.1 ≡ found.1 = cc in omega (arith, ap length same, so x refl)
fewer_by false plug plugs None found so e = absurd cc

pub fewer : {P : Type 0} (name : List ℕ) (plugs : List (Plug P)) (found : P × List (Plug P)) → taken name plugs ≡ Some found → length found.1 + 1 ≡ length plugs
unfolding taken
fewer name [] found e = absurd cc
fewer name (plug ∷ plugs) found e = fewer_by (bytes_eq plug.name name) plug plugs (taken name plugs) found (λ x so. fewer name plugs x so) e

pub record Used {P B : Type 0} (next : P → Walk P B) (met : Met P) (y : B × Met P) : Type 0 where
  pub keyring : P
  pub left : List (Plug P)
  pub fewer : length left + 1 ≡ length met.plugs
  pub rest : next keyring (with_plugs left met) ≡ Ok y

used_by : {P B : Type 0} (name : List ℕ) (found : Option (P × List (Plug P))) (next : P → Walk P B) (met : Met P) (y : B × Met P) → taken name met.plugs ≡ found
    → then_walk (plug_used name met found) next ≡ Ok y → Used next met y
used_by name (Some found) next met y is e = record { keyring = found.0; left = found.1; fewer = fewer name met.plugs found is; rest = e }
used_by name None next met y is e = absurd cc

pub used_on : {P B : Type 0} (name : List ℕ) (next : P → Walk P B) (met : Met P) (y : B × Met P) → then_walk (used name met) next ≡ Ok y → Used next met y
unfolding used
used_on name next met y e = used_by name (taken name met.plugs) next met y refl e
