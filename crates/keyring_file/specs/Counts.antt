-- What the trees of a row have together.
use Rattle.std.specs.Prelude.{◌≡◌, ℕ, ◌+◌, suc, Contains, List, [], ◌∷◌, ◌++◌}
use Rattle.keyring_trait.specs.Wrapping.{WrapKeyValue}
use Rattle.multi_keyring.specs.Forest.{Forest, Nil, RawThen, HandedThen, MultiThen}

-- how many leaves, where a keyring that was handed over counts as many as it wraps
abbrev pub leaves_of : {P : Type 0} → (P → ℕ) → Forest P → ℕ
leaves_of wraps Nil = 0
leaves_of wraps (RawThen key trees) = 1 + leaves_of wraps trees
leaves_of wraps (HandedThen keyring trees) = wraps keyring + leaves_of wraps trees
leaves_of wraps (MultiThen has members trees) = leaves_of wraps members + leaves_of wraps trees

-- the raw keys, in order
abbrev pub raw_keys : {P : Type 0} → Forest P → List WrapKeyValue
raw_keys Nil = []
raw_keys (RawThen key trees) = key ∷ raw_keys trees
raw_keys (HandedThen keyring trees) = raw_keys trees
raw_keys (MultiThen has members trees) = raw_keys members ++ raw_keys trees

-- how many trees
abbrev pub count_of_trees : {P : Type 0} → Forest P → ℕ
count_of_trees Nil = 0
count_of_trees (RawThen key trees) = suc (count_of_trees trees)
count_of_trees (HandedThen keyring trees) = suc (count_of_trees trees)
count_of_trees (MultiThen has members trees) = suc (count_of_trees trees)

-- keys of one namespace and name are one key
abbrev pub AreOfOneKey : List WrapKeyValue → Type 0
AreOfOneKey keys = (v w : WrapKeyValue) → Contains keys v → Contains keys w
    → v.namespace ≡ w.namespace → v.name ≡ w.name → v.key ≡ w.key
