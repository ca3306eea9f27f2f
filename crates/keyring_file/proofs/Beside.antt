-- Rows of trees, one behind the other.
use Rattle.std.proofs.Common.{◌≡◌, ◌≤◌, ◌+◌, ℕ, List, [], ◌∷◌, ◌++◌, length, map, refl, sym, ap, ap₂, ◌∙◌, arith, append_assoc}
use Rattle.std.specs.Prelude.{false}
use Rattle.std.proofs.lemmas.List.{map-append}
use Rattle.keyring_trait.specs.Wrapping.{WrapKeyValue}
use Rattle.multi_keyring.specs.declared.tree.Node.{Node}
use Rattle.multi_keyring.specs.declared.tree.Node.TheVariants.{Raw, Handed, Multi}
use Rattle.multi_keyring.specs.Forest.{Forest, Nil, RawThen, HandedThen, MultiThen, tallest}
use Rattle.multi_keyring.specs.Nodes.{forest}
use Rattle.keyring_file.specs.Leaves.{wrap_key}
use Rattle.keyring_file.specs.Tree.{rows_beside}
use Rattle.keyring_file.specs.Counts.{leaves_of, raw_keys, count_of_trees}
use Rattle.keyring_file.specs.Retired.{nodes_in}

-- a raw key as a walk keeps it, whether it is retired or not
abbrev pub unretired : WrapKeyValue → WrapKeyValue
unretired w = wrap_key w.namespace w.name w.key false

-- the raw keys as a walk keeps them, in order
abbrev pub kept_keys : {P : Type 0} → Forest P → List WrapKeyValue
kept_keys Nil = []
kept_keys (RawThen key trees) = unretired key ∷ kept_keys trees
kept_keys (HandedThen keyring trees) = kept_keys trees
kept_keys (MultiThen has members trees) = kept_keys members ++ kept_keys trees

pub forest_beside : {P : Type 0} (xs ys : List (Node P)) → forest (xs ++ ys) ≡ rows_beside (forest xs) (forest ys)
forest_beside [] ys = refl
forest_beside (Raw key ∷ xs) ys = ap (RawThen key) (forest_beside xs ys)
forest_beside (Handed keyring ∷ xs) ys = ap (HandedThen keyring) (forest_beside xs ys)
forest_beside (Multi multi ∷ xs) ys = ap (MultiThen multi.value.0 multi.value.1) (forest_beside xs ys)

pub beside_nil : {P : Type 0} (trees : Forest P) → rows_beside trees Nil ≡ trees
beside_nil Nil = refl
beside_nil (RawThen key trees) = ap (RawThen key) (beside_nil trees)
beside_nil (HandedThen keyring trees) = ap (HandedThen keyring) (beside_nil trees)
beside_nil (MultiThen has members trees) = ap (MultiThen has members) (beside_nil trees)

pub beside_assoc : {P : Type 0} (a b c : Forest P) → rows_beside a (rows_beside b c) ≡ rows_beside (rows_beside a b) c
beside_assoc Nil b c = refl
beside_assoc (RawThen key trees) b c = ap (RawThen key) (beside_assoc trees b c)
beside_assoc (HandedThen keyring trees) b c = ap (HandedThen keyring) (beside_assoc trees b c)
beside_assoc (MultiThen has members trees) b c = ap (MultiThen has members) (beside_assoc trees b c)

pub tallest_beside : {P : Type 0} (n : ℕ) (a b : Forest P) → tallest a ≤ n → tallest b ≤ n → tallest (rows_beside a b) ≤ n
tallest_beside n Nil b low h = h
tallest_beside n (RawThen key trees) b low h = let t = tallest_beside n trees b (omega (arith, low)) h in omega (arith, t, low)
tallest_beside n (HandedThen keyring trees) b low h = let t = tallest_beside n trees b (omega (arith, low)) h in omega (arith, t, low)
tallest_beside n (MultiThen has members trees) b low h = let t = tallest_beside n trees b (omega (arith, low)) h in omega (arith, t, low)

pub leaves_beside : {P : Type 0} (wraps : P → ℕ) (a b : Forest P) → leaves_of wraps (rows_beside a b) ≡ leaves_of wraps a + leaves_of wraps b
leaves_beside wraps Nil b = omega arith
leaves_beside wraps (RawThen key trees) b = let t = leaves_beside wraps trees b in omega (arith, t)
leaves_beside wraps (HandedThen keyring trees) b = let t = leaves_beside wraps trees b in omega (arith, t)
leaves_beside wraps (MultiThen has members trees) b = let t = leaves_beside wraps trees b in omega (arith, t)

pub keys_beside : {P : Type 0} (a b : Forest P) → kept_keys (rows_beside a b) ≡ kept_keys a ++ kept_keys b
keys_beside Nil b = refl
keys_beside (RawThen key trees) b = ap (λ keys. unretired key ∷ keys) (keys_beside trees b)
keys_beside (HandedThen keyring trees) b = keys_beside trees b
keys_beside (MultiThen has members trees) b = ap (λ keys. kept_keys members ++ keys) (keys_beside trees b) ∙ sym (append_assoc (kept_keys members) (kept_keys trees) (kept_keys b))

-- they are the raw keys, but for whether they are retired
pub kept_are : {P : Type 0} (trees : Forest P) → kept_keys trees ≡ map unretired (raw_keys trees)
kept_are Nil = refl
kept_are (RawThen key trees) = ap (λ keys. unretired key ∷ keys) (kept_are trees)
kept_are (HandedThen keyring trees) = kept_are trees
kept_are (MultiThen has members trees) = ap₂ (λ (a b : List WrapKeyValue). a ++ b) (kept_are members) (kept_are trees) ∙ sym (map-append unretired (raw_keys members) (raw_keys trees))

pub count_beside : {P : Type 0} (a b : Forest P) → count_of_trees (rows_beside a b) ≡ count_of_trees a + count_of_trees b
count_beside Nil b = omega arith
count_beside (RawThen key trees) b = let t = count_beside trees b in omega (arith, t)
count_beside (HandedThen keyring trees) b = let t = count_beside trees b in omega (arith, t)
count_beside (MultiThen has members trees) b = let t = count_beside trees b in omega (arith, t)

pub count_forest : {P : Type 0} (nodes : List (Node P)) → count_of_trees (forest nodes) ≡ length nodes
count_forest [] = refl
count_forest (Raw key ∷ nodes) = let t = count_forest nodes in omega (arith, t)
count_forest (Handed keyring ∷ nodes) = let t = count_forest nodes in omega (arith, t)
count_forest (Multi multi ∷ nodes) = let t = count_forest nodes in omega (arith, t)

pub nodes_beside : {P : Type 0} (a b : Forest P) → nodes_in (rows_beside a b) ≡ nodes_in a + nodes_in b
nodes_beside Nil b = omega arith
nodes_beside (RawThen key trees) b = let t = nodes_beside trees b in omega (arith, t)
nodes_beside (HandedThen keyring trees) b = let t = nodes_beside trees b in omega (arith, t)
nodes_beside (MultiThen has members trees) b = let t = nodes_beside trees b in omega (arith, t)
