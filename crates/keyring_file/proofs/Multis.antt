-- A multi-keyring of members that are read is made.
use Rattle.std.proofs.Common.{◌≡◌, ◌<◌, ◌≤◌, ◌+◌, ℕ, true, false, List, [], ◌∷◌, length, map, refl, ap, arith}
use Rattle.std.specs.Prelude.{◌^◌, nat_lt, if◌then◌else◌, Bool, Option, Some, None, option_to_list, Ok, Err, is_some}
use Rattle.std.proofs.lemmas.Bool.{le-ltb}
use Rattle.serde_json.specs.Data.{Data, Items}
use Rattle.keyring_trait.specs.Keyring.{KeyringMeaning}
use Rattle.multi_keyring.specs.declared.tree.Node.{Node}
use Rattle.multi_keyring.specs.declared.tree.Node.TheVariants.{Raw, Handed, Multi}
use Rattle.multi_keyring.specs.declared.making.MultiError.{MultiError}
use Rattle.multi_keyring.specs.Forest.{Forest, Nil, RawThen, HandedThen, MultiThen, tallest}
use Rattle.multi_keyring.specs.Nodes.{forest, generator_first}
use Rattle.multi_keyring.specs.Tree.{all_wraps, meanings, tree_meaning}
use Rattle.multi_keyring.specs.Making.{multi_fault, MakesMulti}
use Rattle.keyring_file.specs.declared.form.Version.{Version}
use Rattle.keyring_file.specs.Form.{has_node}
use Rattle.keyring_file.specs.Walk.{Met}
use Rattle.keyring_file.specs.Tree.{rows_beside, row, optional, multi, tree}
use Rattle.keyring_file.specs.Room.{LevelsHaveRoom}
use Rattle.keyring_file.specs.Counts.{leaves_of, count_of_trees}
use Rattle.keyring_file.specs.Found.{wraps_of}
use Rattle.keyring_file.proofs.Beside.{forest_beside, count_forest}
use Rattle.keyring_file.proofs.Facts.{multi_read, optional_read, room_after, row_read, tree_read}

-- ---- how many entries the members make

one_or_none : (retired : Bool) → (if retired then 0 else 1) ≤ 1
one_or_none true = omega arith
one_or_none false = omega arith

-- each leaf makes at most as many as it counts: a retired key makes none
wraps_counted : {P : Type 0} (leaf : P → KeyringMeaning) (trees : Forest P) → all_wraps (meanings leaf trees) ≤ leaves_of (wraps_of leaf) trees
wraps_counted leaf Nil = omega arith
wraps_counted leaf (RawThen key trees) = let t = wraps_counted leaf trees in omega (arith, t, one_or_none key.retired)
wraps_counted leaf (HandedThen keyring trees) = let t = wraps_counted leaf trees in omega (arith, t)
wraps_counted leaf (MultiThen has members trees) =
    let s = wraps_counted leaf members in
    let t = wraps_counted leaf trees in
    omega (arith, s, t)

nodes_mean : {P : Type 0} (leaf : P → KeyringMeaning) (nodes : List (Node P)) → map (tree_meaning leaf) nodes ≡ meanings leaf (forest nodes)
nodes_mean leaf [] = refl
nodes_mean leaf (Raw key ∷ nodes) = ap (λ ms. tree_meaning leaf (Raw key) ∷ ms) (nodes_mean leaf nodes)
nodes_mean leaf (Handed keyring ∷ nodes) = ap (λ ms. leaf keyring ∷ ms) (nodes_mean leaf nodes)
nodes_mean leaf (Multi multi ∷ nodes) = ap (λ ms. tree_meaning leaf (Multi multi) ∷ ms) (nodes_mean leaf nodes)

-- ---- why it is made

no_fault : {P : Type 0} (leaf : P → KeyringMeaning) (nodes : List (Node P)) → 1 ≤ length nodes → tallest (forest nodes) ≤ 7 → leaves_of (wraps_of leaf) (forest nodes) ≤ 64
    → multi_fault leaf nodes ≡ None
no_fault leaf [] some low few = absurd (omega (arith, some))
no_fault leaf (node ∷ nodes) some low few =
    let same = ap all_wraps (nodes_mean leaf (node ∷ nodes)) in
    let count = wraps_counted leaf (forest (node ∷ nodes)) in
    let high : nat_lt 8 (tallest (forest (node ∷ nodes)) + 1) ≡ false = le-ltb 8 (tallest (forest (node ∷ nodes)) + 1) (omega (arith, low)) in
    let wide : nat_lt 64 (all_wraps (map (tree_meaning leaf) (node ∷ nodes))) ≡ false = le-ltb 64 (all_wraps (map (tree_meaning leaf) (node ∷ nodes))) (omega (arith, same, count, few)) in
    rw (high, wide) refl

pub never_refused : {P : Type 0} (fault : Option MultiError) (value : Bool × Forest P) (refusal : MultiError) → fault ≡ None → MakesMulti fault value (Err refusal) → ⊥
never_refused None value refusal none made = absurd cc
never_refused (Some fault) value refusal none made = absurd cc

generator_beside : {P : Type 0} (generator : Option (Node P)) (children : List (Node P))
    → forest (generator_first generator children) ≡ rows_beside (forest (option_to_list generator)) (forest children)
generator_beside None children = refl
generator_beside (Some node) children = forest_beside (node ∷ []) children

module _ {P : Type 0} (wraps : P → ℕ) (version : Version) (levels : ℕ) where
  pub optional_room : (o : Option Data) (old : Met P) (y : Forest P × Met P) → optional (tree wraps version levels) o old ≡ Ok y → LevelsHaveRoom levels old → LevelsHaveRoom levels y.1
  optional_room o old y e h = room_after wraps levels y.0 old y.1 (optional_read wraps levels (tree wraps version levels) (tree_read wraps version levels) o old y e).0 h

  pub few_children : (ds : Items) (nodes : List (Node P)) (old new : Met P) → row (tree wraps version levels) ds old ≡ Ok (forest nodes, new) → LevelsHaveRoom levels old → length nodes < 2 ^ 32
  few_children ds nodes old new e h =
      let r = (row_read wraps levels (tree wraps version levels) (tree_read wraps version levels) ds old (forest nodes, new) e).0 in
      let room = room_after wraps levels (forest nodes) old new r h in
      omega (arith, r.count, count_forest nodes, room.nodes, room.keys, room.leaves)

  multi_is : (o : Option Data) (ds : Items) (a b : Forest P) (old mid new : Met P) → optional (tree wraps version levels) o old ≡ Ok (a, mid) → row (tree wraps version levels) ds mid ≡ Ok (b, new)
      → multi (tree wraps version levels) o ds old ≡ Ok ((is_some o, rows_beside a b), new)
  unfolding multi
  multi_is o ds a b old mid new one two = rw (one, two) refl

-- the members that a walk reads make a multi-keyring
pub members_made : {P : Type 0} (leaf : P → KeyringMeaning) (version : Version) (levels : ℕ) (o : Option Data) (ds : Items) (generator : Option (Node P)) (children : List (Node P)) (old mid new : Met P)
    → levels ≤ 7 → LevelsHaveRoom levels old → has_node o ds ≡ true
    → optional (tree (wraps_of leaf) version levels) o old ≡ Ok (forest (option_to_list generator), mid) → row (tree (wraps_of leaf) version levels) ds mid ≡ Ok (forest children, new)
    → multi_fault leaf (generator_first generator children) ≡ None
members_made leaf version levels o ds generator children old mid new low h has one two =
    let wraps = wraps_of leaf in
    let members = rows_beside (forest (option_to_list generator)) (forest children) in
    let same = generator_beside generator children in
    let is = multi_is wraps version levels o ds (forest (option_to_list generator)) (forest children) old mid new one two in
    let read = multi_read wraps levels (tree wraps version levels) (tree_read wraps version levels) o ds old ((is_some o, members), new) has is in
    let settled = read.0.settled read.1 h in
    no_fault leaf (generator_first generator children)
    (omega (arith, read.1, count_forest (generator_first generator children), ap count_of_trees same))
    (omega (arith, read.0.low, low, ap tallest same))
    (omega (arith, read.0.leaves, settled.leaves, ap (leaves_of wraps) same))
