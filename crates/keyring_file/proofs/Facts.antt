-- What the trees that a walk reads keep.
use Rattle.std.proofs.Common.{◌≡◌, ◌≤◌, ◌+◌, ◌*◌, ℕ, zero, suc, Bool, true, false, List, [], ◌∷◌, ◌++◌, length, refl, sym, ap, subst, ◌∙◌, arith, append_assoc}
use Rattle.std.specs.Prelude.{◌^◌, Option, Some, None, Ok, Err, is_some}
use Rattle.std.specs.List.{list_any}
use Rattle.std.proofs.lemmas.List.{append-nil, length-append}
use Rattle.serde_json.specs.Data.{Data, Items, no_items, item}
use Rattle.esdk_fields.specs.declared.refusals.FileRefusal.TheVariants.{BadShape, TooDeep}
use Rattle.keyring_trait.specs.Wrapping.{WrapKeyValue}
use Rattle.multi_keyring.specs.Forest.{Forest, Nil, RawThen, HandedThen, MultiThen, tallest}
use Rattle.keyring_file.specs.Form.{Form, RawForm, PlugForm, MultiForm, form_of, has_node, is_empty, IsFit}
use Rattle.keyring_file.specs.Walk.{Met, Walk, is_another_key}
use Rattle.keyring_file.specs.declared.form.Version.{Version}
use Rattle.keyring_file.specs.Leaves.{wrap_key, raw_key, raw_leaf, plug_leaf}
use Rattle.keyring_file.specs.Tree.{rows_beside, row, optional, multi, formed, tree}
use Rattle.keyring_file.specs.Room.{LevelsHaveRoom}
use Rattle.keyring_file.specs.Counts.{leaves_of, count_of_trees, AreOfOneKey}
use Rattle.keyring_file.specs.Retired.{nodes_in}
use Rattle.keyring_file.specs.declared.plugs.Plug.{Plug}
use Rattle.keyring_file.proofs.Agreeing.{agree_more}
use Rattle.keyring_file.proofs.Beside.{unretired, kept_keys, tallest_beside, leaves_beside, keys_beside, count_beside, nodes_beside}
use Rattle.keyring_file.proofs.Forms.{form_fit}
use Rattle.keyring_file.proofs.RawKeys.{key_read, result_is}
use Rattle.keyring_file.proofs.Steps.{went, got, counted_on, used_on, with_key, with_leaves, with_node, with_plugs}

-- no node is open: each that was met has a leaf below it or is one
pub record IsSettled {P : Type 0} (met : Met P) : Type 0 where
  pub leaves : met.leaves ≤ 64
  pub keys : length met.keys ≤ met.leaves
  pub nodes : met.nodes + 8 * length met.plugs ≤ 8 * length met.keys + 2 ^ 27

pub settled_room : {P : Type 0} (levels : ℕ) (met : Met P) → levels ≤ 8 → IsSettled met → LevelsHaveRoom levels met
settled_room levels met few s = record { few = few; leaves = s.leaves; keys = s.keys; nodes = omega (arith, s.nodes, few) }

-- What reading these trees keeps, where each may have so many levels.
pub record AreRead {P : Type 0} (wraps : P → ℕ) (levels : ℕ) (trees : Forest P) (old new : Met P) : Type 0 where
  pub low : tallest trees ≤ levels
  pub leaves : new.leaves ≡ old.leaves + leaves_of wraps trees
  pub keys : new.keys ≡ old.keys ++ kept_keys trees
  pub nodes : new.nodes ≡ old.nodes + nodes_in trees
  pub count : old.nodes + count_of_trees trees ≤ new.nodes
  pub same : count_of_trees trees ≡ 0 → new ≡ old
  pub agree : AreOfOneKey old.keys → AreOfOneKey new.keys
  pub settled : 1 ≤ count_of_trees trees → LevelsHaveRoom levels old → IsSettled new

room_by : {P : Type 0} (wraps : P → ℕ) (levels : ℕ) (trees : Forest P) (old new : Met P) → AreRead wraps levels trees old new → LevelsHaveRoom levels old
    → (n : ℕ) → n ≡ count_of_trees trees → LevelsHaveRoom levels new
room_by wraps levels trees old new r h zero none = subst (LevelsHaveRoom levels) (sym (r.same (sym none))) h
room_by wraps levels trees old new r h (suc n) more = settled_room levels new h.few (r.settled (omega (arith, more)) h)

-- there is room for further nodes on this level
pub room_after : {P : Type 0} (wraps : P → ℕ) (levels : ℕ) (trees : Forest P) (old new : Met P) → AreRead wraps levels trees old new → LevelsHaveRoom levels old → LevelsHaveRoom levels new
room_after wraps levels trees old new r h = room_by wraps levels trees old new r h (count_of_trees trees) refl

pub none_read : {P : Type 0} (wraps : P → ℕ) (levels : ℕ) (met : Met P) → AreRead wraps levels Nil met met
none_read wraps levels met = record {
  low = omega arith;
  leaves = omega arith;
  keys = sym (append-nil met.keys);
  nodes = omega arith;
  count = omega arith;
  same = λ none. refl;
  agree = λ one. one;
  settled = λ some h. absurd (omega (arith, some));
}

settled_by : {P : Type 0} (wraps : P → ℕ) (levels : ℕ) (a b : Forest P) (old mid new : Met P) → AreRead wraps levels a old mid → AreRead wraps levels b mid new
    → LevelsHaveRoom levels old → (n : ℕ) → n ≡ count_of_trees b → 1 ≤ count_of_trees a + n → IsSettled new
settled_by wraps levels a b old mid new one two h zero none some = subst IsSettled (sym (two.same (sym none))) (one.settled (omega (arith, some)) h)
settled_by wraps levels a b old mid new one two h (suc n) more some = two.settled (omega (arith, more)) (room_after wraps levels a old mid one h)

pub both_read : {P : Type 0} (wraps : P → ℕ) (levels : ℕ) (a b : Forest P) (old mid new : Met P) → AreRead wraps levels a old mid → AreRead wraps levels b mid new
    → AreRead wraps levels (rows_beside a b) old new
both_read wraps levels a b old mid new one two =
    let counted = count_beside a b in
    record {
      low = tallest_beside levels a b one.low two.low;
      leaves = omega (arith, one.leaves, two.leaves, leaves_beside wraps a b);
      keys = two.keys ∙ ap (λ keys. keys ++ kept_keys b) one.keys ∙ append_assoc old.keys (kept_keys a) (kept_keys b) ∙ ap (λ keys. old.keys ++ keys) (sym (keys_beside a b));
      nodes = omega (arith, one.nodes, two.nodes, nodes_beside a b);
      count = omega (arith, one.count, two.count, counted);
      same = λ none. two.same (omega (arith, none, counted)) ∙ one.same (omega (arith, none, counted));
      agree = λ agree. two.agree (one.agree agree);
      settled = λ some h. settled_by wraps levels a b old mid new one two h (count_of_trees b) refl (omega (arith, some, counted));
    }

-- ---- leaves

module _ {P : Type 0} (wraps : P → ℕ) (levels : ℕ) (old : Met P) where
  raw_settled : (w : WrapKeyValue) → old.leaves + 1 ≤ 64 → LevelsHaveRoom (suc levels) old → IsSettled (with_leaves 1 (with_key w (with_node old)))
  raw_settled w most h =
      let longer = length-append old.keys (w ∷ []) in
      record { leaves = most; keys = omega (arith, longer, h.keys); nodes = omega (arith, longer, h.nodes) }

  raw_is : (w : WrapKeyValue) → old.leaves + 1 ≤ 64 → list_any (is_another_key (unretired w)) old.keys ≡ false
      → AreRead wraps (suc levels) (RawThen w Nil) old (with_leaves 1 (with_key (unretired w) (with_node old)))
  raw_is w most apart = record {
    low = omega arith;
    leaves = omega arith;
    keys = refl;
    nodes = omega arith;
    count = omega arith;
    same = λ none. absurd (omega (arith, none));
    agree = λ agree. agree_more old.keys (unretired w) apart agree;
    settled = λ some h. raw_settled (unretired w) most h;
  }

  raw_read : (place : ℕ) (namespace name text : List ℕ) (retired : Bool) (y : WrapKeyValue × Met P) → raw_leaf place namespace name text retired (with_node old) ≡ Ok y
      → AreRead wraps (suc levels) (RawThen y.0 Nil) old y.1
  unfolding raw_leaf
  raw_read place namespace name text retired y e =
      let k = went (raw_key place namespace name text (with_node old)) _ y e in
      let r = key_read place namespace name text (with_node old) k.value k.is in
      let w = wrap_key namespace name k.value.0 retired in
      subst (λ y. AreRead wraps (suc levels) (RawThen y.0 Nil) old y.1) (result_is (w, k.value.1) y k.rest)
      (subst (AreRead wraps (suc levels) (RawThen w Nil) old) r.new (raw_is w r.most r.apart))

  plug_settled : (left : List (Plug P)) (n : ℕ) → length left + 1 ≡ length old.plugs → old.leaves + n ≤ 64 → LevelsHaveRoom (suc levels) old → IsSettled (with_leaves n (with_plugs left (with_node old)))
  plug_settled left n fewer most h = record { leaves = most; keys = omega (arith, h.keys); nodes = omega (arith, fewer, h.nodes) }

  plug_is : (keyring : P) (left : List (Plug P)) → length left + 1 ≡ length old.plugs → old.leaves + wraps keyring ≤ 64
      → AreRead wraps (suc levels) (HandedThen keyring Nil) old (with_leaves (wraps keyring) (with_plugs left (with_node old)))
  plug_is keyring left fewer most = record {
    low = omega arith;
    leaves = omega arith;
    keys = sym (append-nil old.keys);
    nodes = omega arith;
    count = omega arith;
    same = λ none. absurd (omega (arith, none));
    agree = λ agree. agree;
    settled = λ some h. plug_settled left (wraps keyring) fewer most h;
  }

  plug_read : (name : List ℕ) (y : P × Met P) → plug_leaf wraps name (with_node old) ≡ Ok y → AreRead wraps (suc levels) (HandedThen y.0 Nil) old y.1
  unfolding plug_leaf
  plug_read name y e =
      let a = used_on name _ (with_node old) y e in
      let b = counted_on (wraps a.keyring) _ (with_plugs a.left (with_node old)) y a.rest in
      subst (λ y. AreRead wraps (suc levels) (HandedThen y.0 Nil) old y.1) (result_is (a.keyring, with_leaves (wraps a.keyring) (with_plugs a.left (with_node old))) y b.rest)
      (plug_is a.keyring a.left a.fewer b.most)

-- ---- trees

-- one tree is read
pub record IsRead {P : Type 0} (wraps : P → ℕ) (levels : ℕ) (trees : Forest P) (old new : Met P) : Type 0 where
  pub read : AreRead wraps levels trees old new
  pub one : count_of_trees trees ≡ 1

-- whatever these read is read so
abbrev pub Reads : {P : Type 0} → (P → ℕ) → ℕ → (Data → Walk P (Forest P)) → Type 0
Reads {P = P} wraps levels read = (d : Data) (old : Met P) (y : Forest P × Met P) → read d old ≡ Ok y → IsRead wraps levels y.0 old y.1

module _ {P : Type 0} (wraps : P → ℕ) (levels : ℕ) (below : Data → Walk P (Forest P)) (reads : Reads wraps levels below) where
  pub row_read : (ds : Items) (old : Met P) (y : Forest P × Met P) → row below ds old ≡ Ok y
      → AreRead wraps levels y.0 old y.1 × (is_empty ds ≡ false → 1 ≤ count_of_trees y.0)
  unfolding row
  row_read no_items old y e =
      let same = result_is (Nil, old) y e in
      (subst (λ y. AreRead wraps levels y.0 old y.1) same (none_read wraps levels old), λ some. absurd cc)
  row_read (item d ds) old y e =
      let a = went (below d old) _ y e in
      let b = went (row below ds a.value.1) _ y a.rest in
      let one = reads d old a.value a.is in
      let two = row_read ds a.value.1 b.value b.is in
      let same = result_is (rows_beside a.value.0 b.value.0, b.value.1) y b.rest in
      let some : 1 ≤ count_of_trees (rows_beside a.value.0 b.value.0) = omega (arith, count_beside a.value.0 b.value.0, one.one) in (
        subst (λ y. AreRead wraps levels y.0 old y.1) same (both_read wraps levels a.value.0 b.value.0 old a.value.1 b.value.1 one.read two.0),
        λ _. subst (λ y. 1 ≤ count_of_trees y.0) same some,
      )

  pub optional_read : (o : Option Data) (old : Met P) (y : Forest P × Met P) → optional below o old ≡ Ok y
      → AreRead wraps levels y.0 old y.1 × (is_some o ≡ true → 1 ≤ count_of_trees y.0)
  optional_read (Some d) old y e = let one = reads d old y e in (one.read, λ _. omega (arith, one.one))
  optional_read None old y e =
      (subst (λ y. AreRead wraps levels y.0 old y.1) (result_is (Nil, old) y e) (none_read wraps levels old), λ some. absurd cc)

  some_member : (generator : Option Data) (children : Items) (a b : Forest P) → has_node generator children ≡ true → (is_some generator ≡ true → 1 ≤ count_of_trees a)
      → (is_empty children ≡ false → 1 ≤ count_of_trees b) → 1 ≤ count_of_trees (rows_beside a b)
  some_member (Some d) children a b has one two = omega (arith, one refl, count_beside a b)
  some_member None (item d ds) a b has one two = omega (arith, two refl, count_beside a b)
  some_member None no_items a b has one two = absurd cc

  pub multi_read : (generator : Option Data) (children : Items) (old : Met P) (y : (Bool × Forest P) × Met P) → has_node generator children ≡ true
      → multi below generator children old ≡ Ok y → AreRead wraps levels y.0.1 old y.1 × (1 ≤ count_of_trees y.0.1)
  unfolding multi
  multi_read generator children old y has e =
      let a = went (optional below generator old) _ y e in
      let b = went (row below children a.value.1) _ y a.rest in
      let one = optional_read generator old a.value a.is in
      let two = row_read children a.value.1 b.value b.is in
      subst (λ y. AreRead wraps levels y.0.1 old y.1 × (1 ≤ count_of_trees y.0.1)) (result_is ((is_some generator, rows_beside a.value.0 b.value.0), b.value.1) y b.rest)
      (both_read wraps levels a.value.0 b.value.0 old a.value.1 b.value.1 one.0 two.0, some_member generator children a.value.0 b.value.0 has one.1 two.1)

  -- a multi-keyring, one level above its members
  above : (has : Bool) (members : Forest P) (old new : Met P) → AreRead wraps levels members (with_node old) new → 1 ≤ count_of_trees members
      → AreRead wraps (suc levels) (MultiThen has members Nil) old new
  above has members old new r some = record {
    low = omega (arith, r.low);
    leaves = omega (arith, r.leaves);
    keys = r.keys ∙ ap (λ keys. old.keys ++ keys) (sym (append-nil (kept_keys members)));
    nodes = omega (arith, r.nodes);
    count = omega (arith, r.count);
    same = λ none. absurd (omega (arith, none));
    agree = r.agree;
    settled = λ _ h. r.settled some (record { few = omega (arith, h.few); leaves = h.leaves; keys = h.keys; nodes = omega (arith, h.nodes) });
  }

  formed_read : (place : ℕ) (form : Form) (old : Met P) (y : Forest P × Met P) → IsFit form → formed wraps below place form (with_node old) ≡ Ok y
      → IsRead wraps (suc levels) y.0 old y.1
  formed_read place (RawForm namespace name text retired) old y fit e =
      let a = went (raw_leaf place namespace name text retired (with_node old)) _ y e in
      subst (λ y. IsRead wraps (suc levels) y.0 old y.1) (result_is (RawThen a.value.0 Nil, a.value.1) y a.rest)
      (record { read = raw_read wraps levels old place namespace name text retired a.value a.is; one = refl })
  formed_read place (PlugForm name) old y fit e =
      let a = went (plug_leaf wraps name (with_node old)) _ y e in
      subst (λ y. IsRead wraps (suc levels) y.0 old y.1) (result_is (HandedThen a.value.0 Nil, a.value.1) y a.rest)
      (record { read = plug_read wraps levels old name a.value a.is; one = refl })
  formed_read place (MultiForm generator children) old y fit e =
      let a = went (multi below generator children (with_node old)) _ y e in
      let m = multi_read generator children (with_node old) a.value fit a.is in
      subst (λ y. IsRead wraps (suc levels) y.0 old y.1) (result_is (MultiThen a.value.0.0 a.value.0.1 Nil, a.value.1) y a.rest)
      (record { read = above a.value.0.0 a.value.0.1 old a.value.1 m.0 m.1; one = refl })

fails_so : {A : Type 0} (y : A) → Err TooDeep ≡ Ok y → ⊥
fails_so y e = absurd cc

pub tree_read : {P : Type 0} (wraps : P → ℕ) (version : Version) (levels : ℕ) → Reads wraps levels (tree wraps version levels)
unfolding tree
tree_read wraps version zero d old y e = let a = got (BadShape (old.nodes + 1)) (form_of version d) _ (with_node old) y e in absurd (fails_so _ a.rest)
tree_read wraps version (suc levels) d old y e =
    let a = got (BadShape (old.nodes + 1)) (form_of version d) _ (with_node old) y e in
    formed_read wraps levels (tree wraps version levels) (tree_read wraps version levels) (old.nodes + 1) a.value old y (form_fit version d a.value a.is) a.rest
