-- The tree of a whole file.
use Rattle.std.proofs.Common.{◌≡◌, ◌<◌, ◌≤◌, ℕ, Bool, true, false, List, [], ◌∷◌, length, map, refl, ap, subst, ◌∙◌, arith}
use Rattle.std.specs.Prelude.{◌^◌, Contains, Option, Some, None, Result, Ok, Err, if◌then◌else◌}
use Rattle.std.proofs.lemmas.List.{get_or-map, length-append, length-map}
use Rattle.serde_json.specs.Data.{Data}
use Rattle.esdk_fields.specs.declared.refusals.FileRefusal.{FileRefusal}
use Rattle.keyring_trait.specs.Wrapping.{WrapKeyValue}
use Rattle.keyring_trait.specs.Keyring.{KeyringMeaning}
use Rattle.multi_keyring.specs.declared.tree.Node.{Node}
use Rattle.multi_keyring.specs.declared.tree.Node.TheVariants.{Raw, Handed, Multi}
use Rattle.multi_keyring.specs.Forest.{Forest, Nil, RawThen, HandedThen, MultiThen, tallest}
use Rattle.multi_keyring.specs.Nodes.{forest}
use Rattle.multi_keyring.specs.Tree.{leaves, node_leaves}
use Rattle.json_values.specs.Values.{json_value}
use Rattle.keyring_file.specs.declared.plugs.Plug.{Plug}
use Rattle.keyring_file.specs.declared.form.Version.{Version}
use Rattle.keyring_file.specs.KeyLine.{key_line}
use Rattle.keyring_file.specs.KeyFile.{is_json, line_tree, only_tree, nothing_met, node_tree, json_tree, tree_of}
use Rattle.keyring_file.specs.Form.{ring_of}
use Rattle.keyring_file.specs.Walk.{Met}
use Rattle.keyring_file.specs.Tree.{tree}
use Rattle.keyring_file.specs.Room.{LevelsHaveRoom}
use Rattle.keyring_file.specs.Counts.{leaves_of, raw_keys, AreOfOneKey}
use Rattle.keyring_file.specs.Retired.{nodes_in}
use Rattle.keyring_file.proofs.Agreeing.{agree_more}
use Rattle.keyring_file.proofs.Beside.{unretired, kept_are}
use Rattle.keyring_file.proofs.Facts.{IsRead, tree_read}

pub start_room : {P : Type 0} (plugs : List (Plug P)) → length plugs < 2 ^ 24 → LevelsHaveRoom 8 (nothing_met plugs)
start_room plugs few = record { few = omega arith; leaves = omega arith; keys = omega arith; nodes = omega (arith, few) }

-- the raw key of a line, or what a walk read
data IsOf {P : Type 0} (wraps : P → ℕ) (plugs : List (Plug P)) (trees : Forest P) : Type 0 where
  of_line : (w : WrapKeyValue) → RawThen w Nil ≡ trees → IsOf wraps plugs trees
  of_node : (new : Met P) → IsRead wraps 8 trees (nothing_met plugs) new → IsOf wraps plugs trees

of_key : {P : Type 0} (wraps : P → ℕ) (plugs : List (Plug P)) (trees : Forest P) (key : Result WrapKeyValue FileRefusal) → line_tree key ≡ Ok trees → IsOf wraps plugs trees
of_key wraps plugs trees (Ok w) e = of_line w cc
of_key wraps plugs trees (Err refusal) e = absurd cc

of_walk : {P : Type 0} (wraps : P → ℕ) (plugs : List (Plug P)) (trees : Forest P) (version : Version) (node : Data) (r : Result (Forest P × Met P) FileRefusal)
    → tree wraps version 8 node (nothing_met plugs) ≡ r → only_tree r ≡ Ok trees → IsOf wraps plugs trees
of_walk wraps plugs trees version node (Ok y) is e =
    let same : y.0 ≡ trees = cc in
    of_node y.1 (subst (λ t. IsRead wraps 8 t (nothing_met plugs) y.1) same (tree_read wraps version 8 node (nothing_met plugs) y is))
of_walk wraps plugs trees version node (Err refusal) is e = absurd cc

of_ring : {P : Type 0} (wraps : P → ℕ) (plugs : List (Plug P)) (trees : Forest P) (ring : Option (Version × Data)) → node_tree wraps plugs ring ≡ Ok trees → IsOf wraps plugs trees
of_ring wraps plugs trees (Some (version, node)) e = of_walk wraps plugs trees version node (tree wraps version 8 node (nothing_met plugs)) refl e
of_ring wraps plugs trees None e = absurd cc

of_json : {P : Type 0} (wraps : P → ℕ) (plugs : List (Plug P)) (trees : Forest P) (file : Option Data) → json_tree wraps plugs file ≡ Ok trees → IsOf wraps plugs trees
of_json wraps plugs trees (Some file) e = of_ring wraps plugs trees (ring_of file) e
of_json wraps plugs trees None e = absurd cc

of_either : {P : Type 0} (wraps : P → ℕ) (bytes : List ℕ) (plugs : List (Plug P)) (trees : Forest P) (json : Bool)
    → (if json then json_tree wraps plugs (json_value bytes) else line_tree (key_line bytes)) ≡ Ok trees → IsOf wraps plugs trees
of_either wraps bytes plugs trees true e = of_json wraps plugs trees (json_value bytes) e
of_either wraps bytes plugs trees false e = of_key wraps plugs trees (key_line bytes) e

of_file : {P : Type 0} (wraps : P → ℕ) (bytes : List ℕ) (plugs : List (Plug P)) (trees : Forest P) → tree_of wraps bytes plugs ≡ Ok trees → IsOf wraps plugs trees
unfolding tree_of
of_file wraps bytes plugs trees e = of_either wraps bytes plugs trees (is_json bytes) e

low_of : {P : Type 0} (wraps : P → ℕ) (plugs : List (Plug P)) (trees : Forest P) → length plugs < 2 ^ 24 → IsOf wraps plugs trees
    → (tallest trees ≤ 8) × (leaves_of wraps trees ≤ 64)
low_of wraps plugs trees few (of_line w is) = subst (λ t. (tallest t ≤ 8) × (leaves_of wraps t ≤ 64)) is (omega arith, omega arith)
low_of wraps plugs trees few (of_node new r) =
    let settled = r.read.settled (omega (arith, r.one)) (start_room plugs few) in
    (r.read.low, omega (arith, r.read.leaves, settled.leaves))

pub file_is_low : {P : Type 0} (wraps : P → ℕ) (bytes : List ℕ) (plugs : List (Plug P)) (trees : Forest P) → length plugs < 2 ^ 24 → tree_of wraps bytes plugs ≡ Ok trees
    → (tallest trees ≤ 8) × (leaves_of wraps trees ≤ 64)
file_is_low wraps bytes plugs trees few e = low_of wraps plugs trees few (of_file wraps bytes plugs trees e)

-- ---- leaves

leaves_in : {P : Type 0} (leaf : P → KeyringMeaning) (trees : Forest P) → length (leaves leaf trees) ≤ nodes_in trees
leaves_in leaf Nil = omega arith
leaves_in leaf (RawThen w trees) = omega (arith, leaves_in leaf trees)
leaves_in leaf (HandedThen keyring trees) = omega (arith, leaves_in leaf trees)
leaves_in leaf (MultiThen has members trees) = omega (arith, leaves_in leaf members, leaves_in leaf trees, length-append (leaves leaf members) (leaves leaf trees))

leaves_one : {P : Type 0} (leaf : P → KeyringMeaning) (node : Node P) → length (node_leaves leaf node) ≤ nodes_in (forest (node ∷ []))
leaves_one leaf (Raw w) = omega arith
leaves_one leaf (Handed keyring) = omega arith
leaves_one leaf (Multi multi) = omega (arith, leaves_in leaf multi.value.1)

few_of : {P : Type 0} (wraps : P → ℕ) (plugs : List (Plug P)) (trees : Forest P) → length plugs < 2 ^ 24 → IsOf wraps plugs trees → nodes_in trees < 2 ^ 32
few_of wraps plugs trees few (of_line w is) = subst (λ t. nodes_in t < 2 ^ 32) is (omega arith)
few_of wraps plugs trees few (of_node new r) =
    let settled = r.read.settled (omega (arith, r.one)) (start_room plugs few) in
    omega (arith, r.read.nodes, settled.nodes, settled.keys, settled.leaves)

pub leaves_few : {P : Type 0} (wraps : P → ℕ) (leaf : P → KeyringMeaning) (bytes : List ℕ) (plugs : List (Plug P)) (node : Node P) → length plugs < 2 ^ 24
    → tree_of wraps bytes plugs ≡ Ok (forest (node ∷ [])) → length (node_leaves leaf node) < 2 ^ 32
leaves_few wraps leaf bytes plugs node few e = omega (arith, leaves_one leaf node, few_of wraps plugs (forest (node ∷ [])) few (of_file wraps bytes plugs (forest (node ∷ [])) e))

-- ---- keys of one name

one_agrees : (w : WrapKeyValue) → AreOfOneKey (w ∷ [])
one_agrees w = agree_more [] w refl (λ u v one two namespace name. absurd (omega (arith, one.1)))

none_agree : AreOfOneKey []
none_agree = λ u v one two namespace name. absurd (omega (arith, one.1))

-- that of keys as a walk keeps them is that of the keys
kept_in : (keys : List WrapKeyValue) (w : WrapKeyValue) → Contains keys w → Contains (map unretired keys) (unretired w)
kept_in keys w has =
    (has.0, omega (arith, has.1, length-map keys unretired), get_or-map unretired keys has.0 w (unretired w) has.1 ∙ ap unretired has.2)

agree_unretired : (keys : List WrapKeyValue) → AreOfOneKey (map unretired keys) → AreOfOneKey keys
agree_unretired keys agree = λ v w one two namespace name. agree (unretired v) (unretired w) (kept_in keys v one) (kept_in keys w two) namespace name

agree_of : {P : Type 0} (wraps : P → ℕ) (plugs : List (Plug P)) (trees : Forest P) → IsOf wraps plugs trees → AreOfOneKey (raw_keys trees)
agree_of wraps plugs trees (of_line w is) = subst (λ t. AreOfOneKey (raw_keys t)) is (one_agrees w)
agree_of wraps plugs trees (of_node new r) = agree_unretired (raw_keys trees) (subst AreOfOneKey (r.read.keys ∙ kept_are trees) (r.read.agree none_agree))

pub file_agrees : {P : Type 0} (wraps : P → ℕ) (bytes : List ℕ) (plugs : List (Plug P)) (trees : Forest P) → tree_of wraps bytes plugs ≡ Ok trees → AreOfOneKey (raw_keys trees)
file_agrees wraps bytes plugs trees e = agree_of wraps plugs trees (of_file wraps bytes plugs trees e)
