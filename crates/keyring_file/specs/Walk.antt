-- Reading the nodes of a keyring file in the order of their numbers.
use Rattle.std.specs.Prelude.{ℕ, ◌+◌, Bool, true, false, ◌&&◌, not, nat_lt, List, ◌∷◌, [], ◌++◌}
use Rattle.std.specs.Prelude.{Option, Some, None, Result, Ok, Err, if◌then◌else◌}
use Rattle.std.specs.List.{list_any}
use Rattle.std.specs.Str.{bytes_eq}
use Rattle.esdk_fields.specs.declared.refusals.FileRefusal.{FileRefusal}
use Rattle.esdk_fields.specs.declared.refusals.FileRefusal.TheVariants.{ClashingKeys, TooManyLeaves}
use Rattle.esdk_fields.specs.declared.refusals.FileRefusal.TheVariants.{NoSuchPlug}
use Rattle.keyring_trait.specs.Wrapping.{WrapKeyValue}
use Rattle.keyring_file.specs.declared.plugs.Plug.{Plug}
use Rattle.keyring_file.specs.Plugs.{taken}

-- What was met: how many nodes, how many leaves, where a keyring that is handed over counts as many
-- as it wraps, the raw keys, and the plugs that are left.
pub record Met (P : Type 0) : Type 0 where
  pub nodes : ℕ
  pub leaves : ℕ
  pub keys : List WrapKeyValue
  pub plugs : List (Plug P)

-- From what was met before: a value and what is met then, or the refusal.
abbrev pub Walk : Type 0 → Type 0 → Type 0
Walk P A = Met P → Result (A × Met P) FileRefusal

-- where there is a value, the walk that it chooses goes on
abbrev pub then_walk : {P A B : Type 0} → Result (A × Met P) FileRefusal → (A → Walk P B)
    → Result (B × Met P) FileRefusal
then_walk (Ok x) next = next x.0 x.1
then_walk (Err refusal) next = Err refusal

infixl 10 ◌>>=◌
abbrev pub ◌>>=◌ : {P A B : Type 0} → Walk P A → (A → Walk P B) → Walk P B
(walk >>= next) met = then_walk (walk met) next

-- one after the other
infixl 10 ◌>>◌
abbrev pub ◌>>◌ : {P A B : Type 0} → Walk P A → Walk P B → Walk P B
(walk >> next) met = then_walk (walk met) (λ _. next)

-- this value, and nothing more is met
abbrev pub walk_done : {P A : Type 0} → A → Walk P A
walk_done x met = Ok (x, met)

-- this value, if there is one; else this refusal
abbrev pub walk_or_refuse : {P A : Type 0} → FileRefusal → Option A → Walk P A
walk_or_refuse refusal (Some x) met = Ok (x, met)
walk_or_refuse refusal None met = Err refusal

-- this refusal, if the test says so
abbrev pub walk_refuse_if : {P : Type 0} → Bool → FileRefusal → Walk P (Unit {0})
walk_refuse_if true refusal met = Err refusal
walk_refuse_if false refusal met = Ok (tt, met)

-- one more node: its number
abbrev pub next_node_number : {P : Type 0} → Walk P ℕ
next_node_number met = Ok (met.nodes + 1, record met { nodes = met.nodes + 1 })

-- so many leaves more. K7 where the leaves so far are over 64
unfoldable pub count_leaves : {P : Type 0} → ℕ → Walk P (Unit {0})
count_leaves n met =
    if nat_lt 64 (met.leaves + n) then Err TooManyLeaves
    else Ok (tt, record met { leaves = met.leaves + n })

-- another key of the same namespace and name
abbrev pub is_another_key : WrapKeyValue → WrapKeyValue → Bool
is_another_key w other =
    bytes_eq other.namespace w.namespace && bytes_eq other.name w.name
    && not (bytes_eq other.key w.key)

-- one more raw key. K5 where an earlier one clashes with it
unfoldable pub kept : {P : Type 0} → WrapKeyValue → Walk P (Unit {0})
kept w met =
    if list_any (is_another_key w) met.keys then Err (ClashingKeys w.namespace w.name)
    else Ok (tt, record met { keys = met.keys ++ w ∷ [] })

abbrev pub plug_used : {P : Type 0} → List ℕ → Met P → Option (P × List (Plug P))
    → Result (P × Met P) FileRefusal
plug_used name met (Some found) = Ok (found.0, record met { plugs = found.1 })
plug_used name met None = Err (NoSuchPlug name)

-- the first keyring of this name that is left. K8 where there is none
unfoldable pub used : {P : Type 0} → List ℕ → Walk P P
used name met = plug_used name met (taken name met.plugs)
