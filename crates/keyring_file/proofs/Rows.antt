-- Reading the nodes of a row, one after the other.
use Rattle.std.proofs.Common.{◌≡◌, ◌≢◌, ◌<◌, ◌+◌, ◌-◌, ℕ, zero, suc, List, [], ◌∷◌, ◌++◌, length, drop, get_or, refl, sym, ap, subst, ◌∙◌, arith}
use Rattle.std.specs.Prelude.{Some, None, Result, Ok, Err}
use Rattle.std.proofs.lemmas.List.{drop_all, drop_more}
use Rattle.serde_json.specs.declared.value.Value.{Value}
use Rattle.serde_json.specs.Data.{Data}
use Rattle.serde_json.specs.View.{view, items_view}
use Rattle.esdk_fields.specs.declared.refusals.FileRefusal.{FileRefusal}
use Rattle.esdk_fields.specs.declared.refusals.FileRefusal.TheVariants.{BadShape, TooDeep}
use Rattle.multi_keyring.specs.declared.tree.Node.{Node}
use Rattle.multi_keyring.specs.Forest.{Forest, Nil}
use Rattle.multi_keyring.specs.Nodes.{forest}
use Rattle.json_values.specs.declared.errors.ReadError.{ReadError}
use Rattle.json_values.specs.declared.errors.ReadError.TheVariants.{File, Memory}
use Rattle.keyring_file.specs.declared.walk.Walk as walk
use Rattle.keyring_file.specs.declared.form.Version.{Version}
use Rattle.keyring_file.specs.Found.{WalkGives}
use Rattle.keyring_file.specs.Form.{Form, form_of}
use Rattle.keyring_file.specs.Walk.{Met, Walk, then_walk, walk_done}
use Rattle.keyring_file.specs.Tree.{rows_beside, row, formed, tree}
use Rattle.keyring_file.proofs.Beside.{forest_beside, beside_nil, beside_assoc}
use Rattle.keyring_file.proofs.Steps.{with_node}

-- these trees, and behind them those that are left
abbrev pub behind_these : {P : Type 0} → Forest P → Result (Forest P × Met P) FileRefusal → Result (Forest P × Met P) FileRefusal
behind_these trees left = then_walk left (λ others. walk_done (rows_beside trees others))

pub behind_none : {P : Type 0} (left : Result (Forest P × Met P) FileRefusal) → left ≡ behind_these Nil left
behind_none (Ok x) = refl
behind_none (Err refusal) = refl

regrouped : {P : Type 0} (a b : Forest P) (left : Result (Forest P × Met P) FileRefusal) → behind_these a (behind_these b left) ≡ behind_these (rows_beside a b) left
regrouped a b (Ok x) = ap (λ trees. Ok (trees, x.1)) (beside_assoc a b x.0)
regrouped a b (Err refusal) = refl

module _ {P : Type 0} (below : Data → Walk P (Forest P)) (nodes : List Value) (i : ℕ) (node : Value) (lt : i < length nodes) (is : node ≡ get_or nodes i node) where
  -- the node at the index, and those behind it
  left_from : drop i nodes ≡ node ∷ drop (i + 1) nodes
  left_from = drop_more nodes i node lt ∙ ap (λ x. x ∷ drop (i + 1) nodes) (sym is)

  first_read : (old new : Met P) (tree : Forest P) → below (view node) old ≡ Ok (tree, new)
      → row below (items_view (node ∷ drop (i + 1) nodes)) old ≡ behind_these tree (row below (items_view (drop (i + 1) nodes)) new)
  unfolding row
  first_read old new tree read = rw read refl

  first_fails : (old : Met P) (refusal : FileRefusal) → below (view node) old ≡ Err refusal → row below (items_view (node ∷ drop (i + 1) nodes)) old ≡ Err refusal
  unfolding row
  first_fails old refusal read = rw read refl

  pub row_more : (trees : List (Node P)) (tree : Node P) (old new : Met P) → below (view node) old ≡ Ok (forest (tree ∷ []), new)
      → behind_these (forest trees) (row below (items_view (drop i nodes)) old)
      ≡ behind_these (forest (trees ++ tree ∷ [])) (row below (items_view (drop (i + 1) nodes)) new)
  row_more trees tree old new read =
      ap (λ left. behind_these (forest trees) (row below (items_view left) old)) left_from
      ∙ ap (behind_these (forest trees)) (first_read old new (forest (tree ∷ [])) read)
      ∙ regrouped (forest trees) (forest (tree ∷ [])) (row below (items_view (drop (i + 1) nodes)) new)
      ∙ ap (λ front. behind_these front (row below (items_view (drop (i + 1) nodes)) new)) (sym (forest_beside trees (tree ∷ [])))

  pub row_fails : (trees : Forest P) (old : Met P) (refusal : FileRefusal) → below (view node) old ≡ Err refusal
      → behind_these trees (row below (items_view (drop i nodes)) old) ≡ Err refusal
  row_fails trees old refusal read =
      ap (λ left. behind_these trees (row below (items_view left) old)) left_from ∙ ap (behind_these trees) (first_fails old refusal read)

row_none : {P : Type 0} (below : Data → Walk P (Forest P)) (met : Met P) → row below (items_view []) met ≡ Ok (Nil, met)
unfolding row
row_none below met = refl

pub row_done : {P : Type 0} (below : Data → Walk P (Forest P)) (nodes : List Value) (i : ℕ) (trees : Forest P) (met : Met P) → i ≡ length nodes
    → behind_these trees (row below (items_view (drop i nodes)) met) ≡ Ok (trees, met)
row_done below nodes i trees met is =
    ap (λ left. behind_these trees (row below (items_view left) met)) (drop_all i nodes (omega (arith, is)))
    ∙ ap (behind_these trees) (row_none below met)
    ∙ ap (λ trees. Ok (trees, met)) (beside_nil trees)

-- ---- one node

pub tree_unshaped : {P : Type 0} (wraps : P → ℕ) (version : Version) (levels : ℕ) (d : Data) (met : Met P) → form_of version d ≡ None → tree wraps version levels d met ≡ Err (BadShape (met.nodes + 1))
unfolding tree
tree_unshaped wraps version zero d met none = rw none refl
tree_unshaped wraps version (suc levels) d met none = rw none refl

pub tree_bottom : {P : Type 0} (wraps : P → ℕ) (version : Version) (levels : ℕ) (d : Data) (met : Met P) (form : Form) → form_of version d ≡ Some form → levels ≡ 0 → tree wraps version levels d met ≡ Err TooDeep
unfolding tree
tree_bottom wraps version zero d met form is none = rw is refl
tree_bottom wraps version (suc levels) d met form is none = absurd (omega (arith, none))

pub tree_formed : {P : Type 0} (wraps : P → ℕ) (version : Version) (levels : ℕ) (d : Data) (met : Met P) (form : Form) → form_of version d ≡ Some form → levels ≢ 0
    → tree wraps version levels d met ≡ formed wraps (tree wraps version (levels - 1)) (met.nodes + 1) form (with_node met)
unfolding tree
tree_formed wraps version zero d met form is some = absurd (some refl)
tree_formed wraps version (suc levels) d met form is some =
    let less : suc levels - 1 ≡ levels = omega arith in
    rw (is, less) refl

-- ---- where the walk stops

-- where a part of a walk stops, the whole stops
pub stops : {P A B C D : Type 0} (one : A → B) (two : C → D) (r : Result C ReadError) (e : ReadError) (now : walk.Walk P)
    (part : Result (B × Met P) FileRefusal) (whole : Result (D × Met P) FileRefusal) → r ≡ Err e → ((refusal : FileRefusal) → part ≡ Err refusal → whole ≡ Err refusal)
    → WalkGives one (Err e) now part → WalkGives two r now whole
stops one two r (File refusal) now part whole is so g = subst (λ r. WalkGives two r now whole) (sym is) (so refusal g)
stops one two r Memory now part whole is so g = subst (λ r. WalkGives two r now whole) (sym is) tt
