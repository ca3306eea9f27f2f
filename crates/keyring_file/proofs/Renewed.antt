-- The tree of a file that is written anew.
use Rattle.std.proofs.Common.{◌≡◌, ◌+◌, ℕ, zero, suc, Bool, true, false, List, refl, sym, ap, subst, ◌∙◌, arith}
use Rattle.std.specs.Prelude.{◌||◌, is_some, Option, Some, None, Result, Ok, Err}
use Rattle.serde_json.specs.Data.{Data, Items, no_items, item}
use Rattle.esdk_fields.specs.declared.refusals.FileRefusal.{FileRefusal}
use Rattle.esdk_fields.specs.declared.refusals.FileRefusal.TheVariants.{BadShape, TooDeep}
use Rattle.keyring_trait.specs.Wrapping.{WrapKeyValue}
use Rattle.multi_keyring.specs.Forest.{Forest, Nil, RawThen, HandedThen, MultiThen}
use Rattle.keyring_file.specs.declared.form.Version.{Version}
use Rattle.keyring_file.specs.declared.form.Version.TheVariants.{Two}
use Rattle.keyring_file.specs.Form.{Form, RawForm, PlugForm, MultiForm, form_of, has_node, is_empty, lists_children}
use Rattle.keyring_file.specs.Walk.{Met, Walk, then_walk, walk_done}
use Rattle.keyring_file.specs.Leaves.{wrap_key, raw_key, raw_leaf, plug_leaf}
use Rattle.keyring_file.specs.Tree.{rows_beside, row, optional, multi, formed, tree}
use Rattle.keyring_file.specs.Migrate.{raw_node, plug_node, multi_node, is_at, list_if, migrated, migrated_form, migrated_multi, migrated_optional, migrated_row}
use Rattle.keyring_file.specs.Retired.{nodes_in, retired_if, retired_from}
use Rattle.keyring_file.proofs.Facts.{tree_read}
use Rattle.keyring_file.proofs.Forms.{form_fit, listed_form, raw_again, plug_again, multi_again}
use Rattle.keyring_file.proofs.RawKeys.{key_read, result_is}
use Rattle.keyring_file.proofs.Steps.{went, got, counted_on, used_on, with_leaves, with_node, with_plugs}

-- ---- rows

module _ {P : Type 0} (retire : Option ℕ) where
  retired_beside : (place next : ℕ) (a b : Forest P) → next ≡ place + nodes_in a → retired_from retire place (rows_beside a b) ≡ rows_beside (retired_from retire place a) (retired_from retire next b)
  retired_beside place next Nil b is = ap (λ n. retired_from retire n b) (omega (arith, is))
  retired_beside place next (RawThen w rest) b is = ap (RawThen (retired_if (is_at place retire) w)) (retired_beside (place + 1) next rest b (omega (arith, is)))
  retired_beside place next (HandedThen keyring rest) b is = ap (HandedThen keyring) (retired_beside (place + 1) next rest b (omega (arith, is)))
  retired_beside place next (MultiThen has members rest) b is =
      ap (MultiThen has (retired_from retire (place + 1) members)) (retired_beside (place + 1 + nodes_in members) next rest b (omega (arith, is)))

  -- what is read, but for the key that is retired; the first node has this number
  abbrev pub renewed : ℕ → Result (Forest P × Met P) FileRefusal → Result (Forest P × Met P) FileRefusal
  renewed place read = then_walk read (λ trees. walk_done (retired_from retire place trees))

  -- these trees, and behind them those that are left
  abbrev behind : Forest P → Result (Forest P × Met P) FileRefusal → Result (Forest P × Met P) FileRefusal
  behind trees left = then_walk left (λ others. walk_done (rows_beside trees others))

  behind_renewed : (place next : ℕ) (a : Forest P) (left : Result (Forest P × Met P) FileRefusal) → next ≡ place + nodes_in a
      → behind (retired_from retire place a) (renewed next left) ≡ renewed place (behind a left)
  behind_renewed place next a (Ok x) is = ap (λ trees. Ok (trees, x.1)) (sym (retired_beside place next a x.0 is))
  behind_renewed place next a (Err refusal) is = refl

row_begins : {P : Type 0} (below : Data → Walk P (Forest P)) (d : Data) (ds : Items) (old : Met P) (first : Forest P × Met P) → below d old ≡ Ok first
    → row below (item d ds) old ≡ then_walk (row below ds first.1) (λ others. walk_done (rows_beside first.0 others))
unfolding row
row_begins below d ds old first is = rw is refl

row_stops : {P : Type 0} (below : Data → Walk P (Forest P)) (d : Data) (ds : Items) (old : Met P) (refusal : FileRefusal) → below d old ≡ Err refusal → row below (item d ds) old ≡ Err refusal
unfolding row
row_stops below d ds old refusal is = rw is refl

-- The new trees are the old ones, but for the key that is retired, and both walks met as many nodes.
pub record AreKept {P Q : Type 0} (retire : Option ℕ) (old new : Result (Forest P × Met P) FileRefusal) (before : Met P) (after : Met Q) : Type 0 where
  pub trees : new ≡ renewed retire (before.nodes + 1) old
  pub nodes : (z : Forest P × Met P) → old ≡ Ok z → z.1.nodes ≡ after.nodes

-- whatever is read of a node that is written anew
abbrev pub Keeps : {P Q : Type 0} → Option ℕ → (old new : Data → Walk P (Forest P)) → (Data → Walk Q (Data × Bool)) → Type 0
Keeps {P = P} {Q = Q} retire old new made =
    (d : Data) (s : Met Q) (y : (Data × Bool) × Met Q) (m : Met P) → made d s ≡ Ok y → s.nodes ≡ m.nodes → AreKept retire (old d m) (new y.0.0 m) m y.1

-- how many nodes are met
abbrev Numbers : {P : Type 0} → (Data → Walk P (Forest P)) → Type 0
Numbers {P = P} old = (d : Data) (m : Met P) (z : Forest P × Met P) → old d m ≡ Ok z → z.1.nodes ≡ m.nodes + nodes_in z.0

no_trees : {A : Type 0} {refusal : FileRefusal} (z : A) → Err refusal ≡ Ok z → ⊥
no_trees z e = cc

stopped : {P Q : Type 0} (retire : Option ℕ) (old new : Result (Forest P × Met P) FileRefusal) (before : Met P) (after : Met Q) (refusal : FileRefusal) → old ≡ Err refusal → new ≡ Err refusal
    → AreKept retire old new before after
stopped retire old new before after refusal one two =
    record { trees = two ∙ sym (ap (renewed retire (before.nodes + 1)) one); nodes = λ z is. absurd (no_trees z (sym one ∙ is)) }

-- the members of a multi-keyring, and these behind the first
abbrev members_with : {P : Type 0} → Bool → Forest P → Forest P → Walk P (Bool × Forest P)
members_with has first others = walk_done (has, rows_beside first others)

-- the members of a multi-keyring, as one tree
abbrev as_multi : {P : Type 0} → Bool × Forest P → Walk P (Forest P)
as_multi members = walk_done (MultiThen members.0 members.1 Nil)

abbrev one_multi : {P : Type 0} → (Data → Walk P (Forest P)) → Option Data → Items → Walk P (Forest P)
one_multi below o ds m = then_walk (multi below o ds m) as_multi

multi_regrouped : {P : Type 0} (has : Bool) (first : Forest P) (left : Result (Forest P × Met P) FileRefusal)
    → then_walk (then_walk left (members_with has first)) as_multi ≡ then_walk left (λ others. walk_done (MultiThen has (rows_beside first others) Nil))
multi_regrouped has first (Ok x) = refl
multi_regrouped has first (Err refusal) = refl

multi_is : {P : Type 0} (below : Data → Walk P (Forest P)) (o : Option Data) (ds : Items) (m : Met P) (first : Forest P × Met P) → optional below o m ≡ Ok first
    → one_multi below o ds m ≡ then_walk (row below ds first.1) (λ others. walk_done (MultiThen (is_some o) (rows_beside first.0 others) Nil))
unfolding multi
multi_is below o ds m first is = rw is (multi_regrouped (is_some o) first.0 (row below ds first.1))

multi_stops : {P : Type 0} (below : Data → Walk P (Forest P)) (o : Option Data) (ds : Items) (m : Met P) (refusal : FileRefusal) → optional below o m ≡ Err refusal
    → one_multi below o ds m ≡ Err refusal
unfolding multi
multi_stops below o ds m refusal is = rw is refl

module _ {P Q : Type 0} (retire : Option ℕ) (old new : Data → Walk P (Forest P)) (made : Data → Walk Q (Data × Bool)) (keeps : Keeps retire old new made) (numbers : Numbers old) where
  row_goes_on : (d' : Data) (ds' : Items) (d : Data) (ds : Items) (m : Met P) (mid after : Met Q) (z : Forest P × Met P) → old d m ≡ Ok z → AreKept retire (old d m) (new d' m) m mid
      → AreKept retire (row old ds z.1) (row new ds' z.1) z.1 after → AreKept retire (row old (item d ds) m) (row new (item d' ds') m) m after
  row_goes_on d' ds' d ds m mid after z is one two =
      let first : new d' m ≡ Ok (retired_from retire (m.nodes + 1) z.0, z.1) = one.trees ∙ ap (renewed retire (m.nodes + 1)) is in
      let more = row_begins old d ds m z is in
      record {
        trees = row_begins new d' ds' m (retired_from retire (m.nodes + 1) z.0, z.1) first
            ∙ ap (behind retire (retired_from retire (m.nodes + 1) z.0)) two.trees
            ∙ behind_renewed retire (m.nodes + 1) (z.1.nodes + 1) z.0 (row old ds z.1) (omega (arith, numbers d m z is))
            ∙ ap (renewed retire (m.nodes + 1)) (sym more);
        nodes = λ x so.
            let w = went (row old ds z.1) (λ others. walk_done (rows_beside z.0 others)) x (sym more ∙ so) in
            ap (λ p. p.1.nodes) (sym (result_is (rows_beside z.0 w.value.0, w.value.1) x w.rest)) ∙ two.nodes w.value w.is;
      }

  row_by_first : (d : Data) (ds : Items) (a : (Data × Bool) × Met Q) (b : (Items × Bool) × Met Q) (m : Met P) → AreKept retire (old d m) (new a.0.0 m) m a.1
      → (r : Result (Forest P × Met P) FileRefusal) → old d m ≡ r → ((z : Forest P × Met P) → old d m ≡ Ok z → AreKept retire (row old ds z.1) (row new b.0.0 z.1) z.1 b.1)
      → AreKept retire (row old (item d ds) m) (row new (item a.0.0 b.0.0) m) m b.1
  row_by_first d ds a b m one (Err refusal) so behind =
      stopped retire (row old (item d ds) m) (row new (item a.0.0 b.0.0) m) m b.1 refusal (row_stops old d ds m refusal so)
      (row_stops new a.0.0 b.0.0 m refusal (one.trees ∙ ap (renewed retire (m.nodes + 1)) so))
  row_by_first d ds a b m one (Ok z) so behind = row_goes_on a.0.0 b.0.0 d ds m a.1 b.1 z so one (behind z so)

  row_kept : (ds : Items) (s : Met Q) (y : (Items × Bool) × Met Q) (m : Met P) → migrated_row made ds s ≡ Ok y → s.nodes ≡ m.nodes → AreKept retire (row old ds m) (row new y.0.0 m) m y.1
  unfolding row migrated_row
  row_kept no_items s y m e same =
      subst (λ y. AreKept retire (row old no_items m) (row new y.0.0 m) m y.1) (result_is ((no_items, false), s) y e)
      (record { trees = refl; nodes = λ z is. ap (λ p. p.1.nodes) (sym (result_is (Nil, m) z is)) ∙ sym same })
  row_kept (item d ds) s y m e same =
      let a = went (made d s) _ y e in
      let b = went (migrated_row made ds a.value.1) _ y a.rest in
      let one = keeps d s a.value m a.is same in
      subst (λ y. AreKept retire (row old (item d ds) m) (row new y.0.0 m) m y.1) (result_is ((item a.value.0.0 b.value.0.0, a.value.0.1 || b.value.0.1), b.value.1) y b.rest)
      (row_by_first d ds a.value b.value m one (old d m) refl (λ z so. row_kept ds a.value.1 b.value z.1 b.is (sym (one.nodes z so))))

  optional_kept : (o : Option Data) (s : Met Q) (y : (Option Data × Bool) × Met Q) (m : Met P) → migrated_optional made o s ≡ Ok y → s.nodes ≡ m.nodes
      → AreKept retire (optional old o m) (optional new y.0.0 m) m y.1
  optional_kept (Some d) s y m e same =
      let a = went (made d s) _ y e in
      subst (λ y. AreKept retire (old d m) (optional new y.0.0 m) m y.1) (result_is ((Some a.value.0.0, a.value.0.1), a.value.1) y a.rest) (keeps d s a.value m a.is same)
  optional_kept None s y m e same =
      subst (λ y. AreKept retire (optional old None m) (optional new y.0.0 m) m y.1) (result_is ((None, false), s) y e)
      (record { trees = refl; nodes = λ z is. ap (λ p. p.1.nodes) (sym (result_is (Nil, m) z is)) ∙ sym same })

  optional_numbers : (o : Option Data) (m : Met P) (z : Forest P × Met P) → optional old o m ≡ Ok z → z.1.nodes ≡ m.nodes + nodes_in z.0
  optional_numbers (Some d) m z e = numbers d m z e
  optional_numbers None m z e = subst (λ z. z.1.nodes ≡ m.nodes + nodes_in z.0) (result_is (Nil, m) z e) (omega arith)

  optional_there : (o : Option Data) (s : Met Q) (y : (Option Data × Bool) × Met Q) → migrated_optional made o s ≡ Ok y → is_some y.0.0 ≡ is_some o
  optional_there (Some d) s y e = let a = went (made d s) _ y e in ap (λ p. is_some p.0.0) (sym (result_is ((Some a.value.0.0, a.value.0.1), a.value.1) y a.rest))
  optional_there None s y e = ap (λ p. is_some p.0.0) (sym (result_is ((None, false), s) y e))

  row_there : (ds : Items) (s : Met Q) (y : (Items × Bool) × Met Q) → migrated_row made ds s ≡ Ok y → is_empty y.0.0 ≡ is_empty ds
  unfolding migrated_row
  row_there no_items s y e = ap (λ p. is_empty p.0.0) (sym (result_is ((no_items, false), s) y e))
  row_there (item d ds) s y e =
      let a = went (made d s) _ y e in
      let b = went (migrated_row made ds a.value.1) _ y a.rest in
      ap (λ p. is_empty p.0.0) (sym (result_is ((item a.value.0.0 b.value.0.0, a.value.0.1 || b.value.0.1), b.value.1) y b.rest))

  one_renewed : (has : Bool) (place next : ℕ) (a : Forest P) (left : Result (Forest P × Met P) FileRefusal) → next ≡ place + 1 + nodes_in a
      → then_walk (renewed retire next left) (λ others. walk_done (MultiThen has (rows_beside (retired_from retire (place + 1) a) others) Nil))
      ≡ renewed retire place (then_walk left (λ others. walk_done (MultiThen has (rows_beside a others) Nil)))
  one_renewed has place next a (Ok x) is = ap (λ members. Ok (MultiThen has members Nil, x.1)) (sym (retired_beside retire (place + 1) next a x.0 is))
  one_renewed has place next a (Err refusal) is = refl

  -- a multi-keyring whose node has been counted
  multi_kept : (o : Option Data) (ds : Items) (s : Met Q) (m : Met P) (a : (Option Data × Bool) × Met Q) (b : (Items × Bool) × Met Q) → migrated_optional made o (with_node s) ≡ Ok a
      → migrated_row made ds a.1 ≡ Ok b → s.nodes ≡ m.nodes → AreKept retire (one_multi old o ds (with_node m)) (one_multi new a.0.0 b.0.0 (with_node m)) m b.1
  multi_kept o ds s m a b is so same = by_first (optional_kept o (with_node s) a (with_node m) is (omega (arith, same))) (optional old o (with_node m)) refl
    where
      by_first : AreKept retire (optional old o (with_node m)) (optional new a.0.0 (with_node m)) (with_node m) a.1 → (r : Result (Forest P × Met P) FileRefusal) → optional old o (with_node m) ≡ r
          → AreKept retire (one_multi old o ds (with_node m)) (one_multi new a.0.0 b.0.0 (with_node m)) m b.1
      by_first one (Err refusal) here =
          stopped retire (one_multi old o ds (with_node m)) (one_multi new a.0.0 b.0.0 (with_node m)) m b.1 refusal (multi_stops old o ds (with_node m) refusal here)
          (multi_stops new a.0.0 b.0.0 (with_node m) refusal (one.trees ∙ ap (renewed retire (m.nodes + 1 + 1)) here))
      by_first one (Ok z) here =
          let first : optional new a.0.0 (with_node m) ≡ Ok (retired_from retire (m.nodes + 1 + 1) z.0, z.1) = one.trees ∙ ap (renewed retire (m.nodes + 1 + 1)) here in
          let two = row_kept ds a.1 b z.1 so (sym (one.nodes z here)) in
          let whole = multi_is old o ds (with_node m) z here in
          let there = optional_there o (with_node s) a is in
          let count = optional_numbers o (with_node m) z here in
          record {
            trees = multi_is new a.0.0 b.0.0 (with_node m) (retired_from retire (m.nodes + 1 + 1) z.0, z.1) first
                ∙ ap (λ has. then_walk (row new b.0.0 z.1) (λ others. walk_done (MultiThen has (rows_beside (retired_from retire (m.nodes + 1 + 1) z.0) others) Nil))) there
                ∙ ap (λ left. then_walk left (λ others. walk_done (MultiThen (is_some o) (rows_beside (retired_from retire (m.nodes + 1 + 1) z.0) others) Nil))) two.trees
                ∙ one_renewed (is_some o) (m.nodes + 1) (z.1.nodes + 1) z.0 (row old ds z.1) (omega (arith, count))
                ∙ ap (renewed retire (m.nodes + 1)) (sym whole);
            nodes = λ x so.
                let w = went (row old ds z.1) (λ others. walk_done (MultiThen (is_some o) (rows_beside z.0 others) Nil)) x (sym whole ∙ so) in
                ap (λ p. p.1.nodes) (sym (result_is (MultiThen (is_some o) (rows_beside z.0 w.value.0) Nil, w.value.1) x w.rest)) ∙ two.nodes w.value w.is;
          }

-- ---- leaves

retired_key : (at retired : Bool) (namespace name key : List ℕ) → wrap_key namespace name key (at || retired) ≡ retired_if at (wrap_key namespace name key retired)
retired_key true retired namespace name key = refl
retired_key false retired namespace name key = refl

-- a raw key, as a tree
abbrev pub as_raw : {P : Type 0} → WrapKeyValue → Walk P (Forest P)
as_raw w = walk_done (RawThen w Nil)

-- a raw key of these bytes
abbrev with_bytes : {P : Type 0} → List ℕ → List ℕ → Bool → List ℕ → Walk P WrapKeyValue
with_bytes namespace name retired key = walk_done (wrap_key namespace name key retired)

abbrev pub one_raw : {P : Type 0} → List ℕ → List ℕ → List ℕ → ℕ → Bool → Walk P (Forest P)
one_raw namespace name text place retired m = then_walk (raw_leaf place namespace name text retired m) as_raw

raw_regrouped : {P : Type 0} (namespace name : List ℕ) (retired : Bool) (left : Result (List ℕ × Met P) FileRefusal)
    → then_walk (then_walk left (with_bytes namespace name retired)) as_raw ≡ then_walk left (λ key. as_raw (wrap_key namespace name key retired))
raw_regrouped namespace name retired (Ok x) = refl
raw_regrouped namespace name retired (Err refusal) = refl

pub raw_is : {P : Type 0} (namespace name text : List ℕ) (place : ℕ) (retired : Bool) (m : Met P)
    → one_raw namespace name text place retired m ≡ then_walk (raw_key place namespace name text m) (λ key. as_raw (wrap_key namespace name key retired))
unfolding raw_leaf
raw_is namespace name text place retired m = raw_regrouped namespace name retired (raw_key place namespace name text m)

module _ {P : Type 0} (retire : Option ℕ) (namespace name text : List ℕ) (retired : Bool) where
  raw_renewed : (place : ℕ) (left : Result (List ℕ × Met P) FileRefusal)
      → then_walk left (λ key. walk_done (RawThen (wrap_key namespace name key (is_at place retire || retired)) Nil))
      ≡ renewed retire place (then_walk left (λ key. walk_done (RawThen (wrap_key namespace name key retired) Nil)))
  raw_renewed place (Ok x) = ap (λ w. Ok (RawThen w Nil, x.1)) (retired_key (is_at place retire) retired namespace name x.0)
  raw_renewed place (Err refusal) = refl

  raw_kept : {Q : Type 0} (s : Met Q) (m : Met P) (x : List ℕ × Met Q) → raw_key (s.nodes + 1) namespace name text (with_node s) ≡ Ok x → s.nodes ≡ m.nodes
      → AreKept retire (one_raw namespace name text (m.nodes + 1) retired (with_node m)) (one_raw namespace name text (m.nodes + 1) (is_at (m.nodes + 1) retire || retired) (with_node m)) m x.1
  raw_kept s m x is same =
      let key = raw_key (m.nodes + 1) namespace name text (with_node m) in
      let whole = raw_is namespace name text (m.nodes + 1) retired (with_node m) in
      let met = (key_read (s.nodes + 1) namespace name text (with_node s) x is).new in
      record {
        trees = raw_is namespace name text (m.nodes + 1) (is_at (m.nodes + 1) retire || retired) (with_node m) ∙ raw_renewed (m.nodes + 1) key ∙ ap (renewed retire (m.nodes + 1)) (sym whole);
        nodes = λ z so.
            let w = went key (λ key. walk_done (RawThen (wrap_key namespace name key retired) Nil)) z (sym whole ∙ so) in
            let here = (key_read (m.nodes + 1) namespace name text (with_node m) w.value w.is).new in
            ap (λ p. p.1.nodes) (sym (result_is (RawThen (wrap_key namespace name w.value.0 retired) Nil, w.value.1) z w.rest)) ∙ omega (arith, ap (λ m. m.nodes) here, ap (λ m. m.nodes) met, same);
      }

module _ {P : Type 0} (retire : Option ℕ) (wraps : P → ℕ) (name : List ℕ) where
  -- a keyring that is handed over, as a tree
  abbrev one_plug : Walk P (Forest P)
  one_plug m = then_walk (plug_leaf wraps name m) (λ keyring. walk_done (HandedThen keyring Nil))

  plug_renewed : (place : ℕ) (left : Result (P × Met P) FileRefusal)
      → then_walk left (λ keyring. walk_done (HandedThen keyring Nil)) ≡ renewed retire place (then_walk left (λ keyring. walk_done (HandedThen keyring Nil)))
  plug_renewed place (Ok x) = refl
  plug_renewed place (Err refusal) = refl

  plug_nodes : (m : Met P) (x : P × Met P) → plug_leaf wraps name m ≡ Ok x → x.1.nodes ≡ m.nodes
  unfolding plug_leaf
  plug_nodes m x e =
      let a = used_on name _ m x e in
      let b = counted_on (wraps a.keyring) _ (with_plugs a.left m) x a.rest in
      ap (λ p. p.1.nodes) (sym (result_is (a.keyring, with_leaves (wraps a.keyring) (with_plugs a.left m)) x b.rest))

  plug_kept : {Q : Type 0} (s : Met Q) (m : Met P) → s.nodes ≡ m.nodes → AreKept retire (one_plug (with_node m)) (one_plug (with_node m)) m (with_leaves 1 (with_node s))
  plug_kept s m same = record {
    trees = plug_renewed (m.nodes + 1) (plug_leaf wraps name (with_node m));
    nodes = λ z so.
        let w = went (plug_leaf wraps name (with_node m)) (λ keyring. walk_done (HandedThen keyring Nil)) z so in
        ap (λ p. p.1.nodes) (sym (result_is (HandedThen w.value.0 Nil, w.value.1) z w.rest)) ∙ omega (arith, plug_nodes (with_node m) w.value w.is, same);
  }

-- ---- nodes

kept_as : {P Q : Type 0} (retire : Option ℕ) (old new one two : Result (Forest P × Met P) FileRefusal) (before : Met P) (after : Met Q) → AreKept retire old new before after → one ≡ old → two ≡ new
    → AreKept retire one two before after
kept_as retire old new one two before after kept a b =
    record { trees = b ∙ kept.trees ∙ sym (ap (renewed retire (before.nodes + 1)) a); nodes = λ z is. kept.nodes z (sym a ∙ is) }

pub tree_shaped : {P : Type 0} (wraps : P → ℕ) (version : Version) (levels : ℕ) (d : Data) (m : Met P) (form : Form) → form_of version d ≡ Some form
    → tree wraps version (suc levels) d m ≡ formed wraps (tree wraps version levels) (m.nodes + 1) form (with_node m)
unfolding tree
tree_shaped wraps version levels d m form is = rw is refl

tree_numbers : {P : Type 0} (wraps : P → ℕ) (version : Version) (levels : ℕ) → Numbers (tree wraps version levels)
tree_numbers wraps version levels d m z is = (tree_read wraps version levels d m z is).read.nodes

module _ {P Q : Type 0} (retire : Option ℕ) (wraps : P → ℕ) (version : Version) (levels : ℕ) (keeps : Keeps {P = P} {Q = Q} retire (tree wraps version levels) (tree wraps Two levels) (migrated retire version levels)) where
  abbrev Kept : Data → (y : (Data × Bool) × Met Q) → Met P → Type 0
  Kept d y m = AreKept retire (tree wraps version (suc levels) d m) (tree wraps Two (suc levels) y.0.0 m) m y.1

  raw_node_kept : (d : Data) (namespace name text : List ℕ) (retired : Bool) (s : Met Q) (y : (Data × Bool) × Met Q) (m : Met P) → form_of version d ≡ Some (RawForm namespace name text retired)
      → migrated_form retire (migrated retire version levels) (s.nodes + 1) (lists_children d) (RawForm namespace name text retired) (with_node s) ≡ Ok y → s.nodes ≡ m.nodes → Kept d y m
  raw_node_kept d namespace name text retired s y m is e same =
      let a = went (raw_key (s.nodes + 1) namespace name text (with_node s)) _ y e in
      let place : s.nodes + 1 ≡ m.nodes + 1 = omega (arith, same) in
      let at = is_at (m.nodes + 1) retire || retired in
      let fit = form_fit version d (RawForm namespace name text retired) is in
      let node = raw_node namespace name text at in
      let made : ((node, is_at (m.nodes + 1) retire), a.value.1) ≡ y =
      ap (λ n. ((raw_node namespace name text (is_at n retire || retired), is_at n retire), a.value.1)) (sym place)
      ∙ result_is ((raw_node namespace name text (is_at (s.nodes + 1) retire || retired), is_at (s.nodes + 1) retire), a.value.1) y a.rest in
      subst (λ y. Kept d y m) made
      (kept_as retire (one_raw namespace name text (m.nodes + 1) retired (with_node m)) (one_raw namespace name text (m.nodes + 1) at (with_node m))
      (tree wraps version (suc levels) d m) (tree wraps Two (suc levels) node m) m a.value.1 (raw_kept retire namespace name text retired s m a.value a.is same)
      (tree_shaped wraps version levels d m (RawForm namespace name text retired) is)
      (tree_shaped wraps Two levels node m (RawForm namespace name text at) (raw_again namespace name text at fit.0 fit.1)))

  plug_node_kept : (d : Data) (name : List ℕ) (s : Met Q) (y : (Data × Bool) × Met Q) (m : Met P) → form_of version d ≡ Some (PlugForm name)
      → migrated_form retire (migrated retire version levels) (s.nodes + 1) (lists_children d) (PlugForm name) (with_node s) ≡ Ok y → s.nodes ≡ m.nodes → Kept d y m
  plug_node_kept d name s y m is e same =
      let a = counted_on 1 _ (with_node s) y e in
      subst (λ y. Kept d y m) (result_is ((plug_node name, false), with_leaves 1 (with_node s)) y a.rest)
      (kept_as retire (one_plug retire wraps name (with_node m)) (one_plug retire wraps name (with_node m)) (tree wraps version (suc levels) d m) (tree wraps Two (suc levels) (plug_node name) m) m
      (with_leaves 1 (with_node s)) (plug_kept retire wraps name s m same) (tree_shaped wraps version levels d m (PlugForm name) is)
      (tree_shaped wraps Two levels (plug_node name) m (PlugForm name) (plug_again name)))

  multi_node_kept : (d : Data) (o : Option Data) (ds : Items) (s : Met Q) (y : (Data × Bool) × Met Q) (m : Met P) → form_of version d ≡ Some (MultiForm o ds)
      → migrated_form retire (migrated retire version levels) (s.nodes + 1) (lists_children d) (MultiForm o ds) (with_node s) ≡ Ok y → s.nodes ≡ m.nodes → Kept d y m
  unfolding migrated_multi
  multi_node_kept d o ds s y m is e same =
      let made = migrated retire version levels in
      let old = tree wraps version levels in
      let new = tree wraps Two levels in
      let a = went (migrated_optional made o (with_node s)) _ y e in
      let b = went (migrated_row made ds a.value.1) _ y a.rest in
      let numbers = tree_numbers wraps version levels in
      let node = multi_node a.value.0.0 (list_if (lists_children d) b.value.0.0) in
      let has : has_node a.value.0.0 b.value.0.0 ≡ true =
      has_again a.value.0.0 o b.value.0.0 ds (optional_there retire old new made keeps numbers o (with_node s) a.value a.is) (row_there retire old new made keeps numbers ds a.value.1 b.value b.is)
      (form_fit version d (MultiForm o ds) is) in
      let form = multi_again a.value.0.0 b.value.0.0 (lists_children d) has
      (λ none. emptied b.value.0.0 (row_there retire old new made keeps numbers ds a.value.1 b.value b.is ∙ ap is_empty (listed_form version d o ds is none))) in
      subst (λ y. Kept d y m) (result_is ((node, a.value.0.1 || b.value.0.1), b.value.1) y b.rest)
      (kept_as retire (one_multi old o ds (with_node m)) (one_multi new a.value.0.0 b.value.0.0 (with_node m))
      (tree wraps version (suc levels) d m) (tree wraps Two (suc levels) node m) m b.value.1
      (multi_kept retire old new made keeps numbers o ds s m a.value b.value a.is b.is same)
      (tree_shaped wraps version levels d m (MultiForm o ds) is) (tree_shaped wraps Two levels node m (MultiForm a.value.0.0 b.value.0.0) form))
    where
      emptied : (ds : Items) → is_empty ds ≡ true → ds ≡ no_items
      emptied no_items none = refl
      emptied (item d ds) none = absurd cc

      has_again : (p o : Option Data) (es ds : Items) → is_some p ≡ is_some o → is_empty es ≡ is_empty ds → has_node o ds ≡ true → has_node p es ≡ true
      has_again p o es ds one two has = rw (one, two) has

  form_kept : (d : Data) (form : Form) (s : Met Q) (y : (Data × Bool) × Met Q) (m : Met P) → form_of version d ≡ Some form
      → migrated_form retire (migrated retire version levels) (s.nodes + 1) (lists_children d) form (with_node s) ≡ Ok y → s.nodes ≡ m.nodes → Kept d y m
  form_kept d (RawForm namespace name text retired) s y m is e same = raw_node_kept d namespace name text retired s y m is e same
  form_kept d (PlugForm name) s y m is e same = plug_node_kept d name s y m is e same
  form_kept d (MultiForm generator children) s y m is e same = multi_node_kept d generator children s y m is e same

fails_so : {A : Type 0} (y : A) → Err TooDeep ≡ Ok y → ⊥
fails_so y e = absurd cc

-- a node that is written anew has the tree that it had
pub tree_kept : {P Q : Type 0} (retire : Option ℕ) (wraps : P → ℕ) (version : Version) (levels : ℕ)
    → Keeps {P = P} {Q = Q} retire (tree wraps version levels) (tree wraps Two levels) (migrated retire version levels)
unfolding migrated
tree_kept retire wraps version zero d s y m e same = let a = got (BadShape (s.nodes + 1)) (form_of version d) _ (with_node s) y e in absurd (fails_so _ a.rest)
tree_kept retire wraps version (suc levels) d s y m e same =
    let a = got (BadShape (s.nodes + 1)) (form_of version d) _ (with_node s) y e in
    form_kept retire wraps version levels (tree_kept retire wraps version levels) d a.value s y m a.is a.rest same
