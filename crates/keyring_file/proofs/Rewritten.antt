-- Writing the nodes of a row anew, one after the other.
use Rattle.std.proofs.Common.{◌≡◌, ◌≢◌, ◌<◌, ◌+◌, ◌-◌, ℕ, zero, suc, Bool, true, false, List, [], ◌∷◌, ◌++◌, length, drop, get_or, refl, sym, ap, ap₂, ◌∙◌, arith}
use Rattle.std.specs.Prelude.{◌||◌, Option, Some, None, Result, Ok, Err}
use Rattle.std.proofs.lemmas.List.{drop_all, drop_more}
use Rattle.serde_json.specs.declared.value.Value.{Value}
use Rattle.serde_json.specs.Data.{Data, Items, no_items, item}
use Rattle.serde_json.specs.View.{view, items_view}
use Rattle.esdk_fields.specs.declared.refusals.FileRefusal.{FileRefusal}
use Rattle.esdk_fields.specs.declared.refusals.FileRefusal.TheVariants.{BadShape, TooDeep}
use Rattle.keyring_file.specs.declared.form.Version.{Version}
use Rattle.keyring_file.specs.Form.{Form, form_of, lists_children}
use Rattle.keyring_file.specs.Walk.{Met, Walk, then_walk, walk_done}
use Rattle.keyring_file.specs.Migrate.{migrated, migrated_form, migrated_row}
use Rattle.keyring_file.proofs.Steps.{with_node}

-- these nodes, and others behind them
abbrev pub items_before : List Value → Items → Items
items_before [] others = others
items_before (v ∷ vs) others = item (view v) (items_before vs others)

none_behind : (vs : List Value) → items_before vs no_items ≡ items_view vs
none_behind [] = refl
none_behind (v ∷ vs) = ap (item (view v)) (none_behind vs)

-- these nodes, and behind them those that are left
abbrev pub behind_made : {P : Type 0} → List Value → Bool → Result ((Items × Bool) × Met P) FileRefusal → Result ((Items × Bool) × Met P) FileRefusal
behind_made made found left = then_walk left (λ others. walk_done (items_before made others.0, found || others.1))

pub none_made : {P : Type 0} (left : Result ((Items × Bool) × Met P) FileRefusal) → left ≡ behind_made [] false left
none_made (Ok x) = refl
none_made (Err refusal) = refl

one_behind : (made : List Value) (v : Value) (others : Items) → items_before made (item (view v) others) ≡ items_before (made ++ v ∷ []) others
one_behind [] v others = refl
one_behind (w ∷ made) v others = ap (item (view w)) (one_behind made v others)

or_assoc : (a b c : Bool) → (a || (b || c)) ≡ ((a || b) || c)
or_assoc true b c = refl
or_assoc false b c = refl

-- one node, and those behind it
abbrev with_first : {P : Type 0} → Value → Bool → Result ((Items × Bool) × Met P) FileRefusal → Result ((Items × Bool) × Met P) FileRefusal
with_first v here left = then_walk left (λ others. walk_done (item (view v) others.0, here || others.1))

one_made : {P : Type 0} (made : List Value) (found : Bool) (v : Value) (here : Bool) (left : Result ((Items × Bool) × Met P) FileRefusal)
    → behind_made made found (with_first v here left) ≡ behind_made (made ++ v ∷ []) (found || here) left
one_made made found v here (Ok x) = ap₂ (λ ds b. Ok ((ds, b), x.1)) (one_behind made v x.0.0) (or_assoc found here x.0.1)
one_made made found v here (Err refusal) = refl

module _ {P : Type 0} (below : Data → Walk P (Data × Bool)) (nodes : List Value) (i : ℕ) (node : Value) (lt : i < length nodes) (is : node ≡ get_or nodes i node) where
  left_from : drop i nodes ≡ node ∷ drop (i + 1) nodes
  left_from = drop_more nodes i node lt ∙ ap (λ x. x ∷ drop (i + 1) nodes) (sym is)

  first_made : (old new : Met P) (v : Value) (here : Bool) → below (view node) old ≡ Ok ((view v, here), new)
      → migrated_row below (items_view (node ∷ drop (i + 1) nodes)) old ≡ with_first v here (migrated_row below (items_view (drop (i + 1) nodes)) new)
  unfolding migrated_row
  first_made old new v here read = rw read refl

  first_fails : (old : Met P) (refusal : FileRefusal) → below (view node) old ≡ Err refusal → migrated_row below (items_view (node ∷ drop (i + 1) nodes)) old ≡ Err refusal
  unfolding migrated_row
  first_fails old refusal read = rw read refl

  pub made_more : (made : List Value) (found : Bool) (v : Value) (here : Bool) (old new : Met P) → below (view node) old ≡ Ok ((view v, here), new)
      → behind_made made found (migrated_row below (items_view (drop i nodes)) old)
      ≡ behind_made (made ++ v ∷ []) (found || here) (migrated_row below (items_view (drop (i + 1) nodes)) new)
  made_more made found v here old new read =
      ap (λ left. behind_made made found (migrated_row below (items_view left) old)) left_from
      ∙ ap (behind_made made found) (first_made old new v here read)
      ∙ one_made made found v here (migrated_row below (items_view (drop (i + 1) nodes)) new)

  pub made_fails : (made : List Value) (found : Bool) (old : Met P) (refusal : FileRefusal) → below (view node) old ≡ Err refusal
      → behind_made made found (migrated_row below (items_view (drop i nodes)) old) ≡ Err refusal
  made_fails made found old refusal read =
      ap (λ left. behind_made made found (migrated_row below (items_view left) old)) left_from ∙ ap (behind_made made found) (first_fails old refusal read)

none_left : {P : Type 0} (below : Data → Walk P (Data × Bool)) (met : Met P) → migrated_row below (items_view []) met ≡ Ok ((no_items, false), met)
unfolding migrated_row
none_left below met = refl

or_none : (b : Bool) → (b || false) ≡ b
or_none true = refl
or_none false = refl

pub made_done : {P : Type 0} (below : Data → Walk P (Data × Bool)) (nodes : List Value) (i : ℕ) (made : List Value) (found : Bool) (met : Met P) → i ≡ length nodes
    → behind_made made found (migrated_row below (items_view (drop i nodes)) met) ≡ Ok ((items_view made, found), met)
made_done below nodes i made found met is =
    ap (λ left. behind_made made found (migrated_row below (items_view left) met)) (drop_all i nodes (omega (arith, is)))
    ∙ ap (behind_made made found) (none_left below met)
    ∙ ap₂ (λ ds b. Ok ((ds, b), met)) (none_behind made) (or_none found)

-- ---- one node

pub made_unshaped : {P : Type 0} (retire : Option ℕ) (version : Version) (levels : ℕ) (d : Data) (met : Met P) → form_of version d ≡ None
    → migrated retire version levels d met ≡ Err (BadShape (met.nodes + 1))
unfolding migrated
made_unshaped retire version zero d met none = rw none refl
made_unshaped retire version (suc levels) d met none = rw none refl

pub made_bottom : {P : Type 0} (retire : Option ℕ) (version : Version) (levels : ℕ) (d : Data) (met : Met P) (form : Form) → form_of version d ≡ Some form → levels ≡ 0
    → migrated retire version levels d met ≡ Err TooDeep
unfolding migrated
made_bottom retire version zero d met form is none = rw is refl
made_bottom retire version (suc levels) d met form is none = absurd (omega (arith, none))

pub made_formed : {P : Type 0} (retire : Option ℕ) (version : Version) (levels : ℕ) (d : Data) (met : Met P) (form : Form) → form_of version d ≡ Some form → levels ≢ 0
    → migrated retire version levels d met ≡ migrated_form retire (migrated retire version (levels - 1)) (met.nodes + 1) (lists_children d) form (with_node met)
unfolding migrated
made_formed retire version zero d met form is some = absurd (some refl)
made_formed retire version (suc levels) d met form is some =
    let less : suc levels - 1 ≡ levels = omega arith in
    rw (is, less) refl
