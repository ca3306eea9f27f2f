-- A tree that is read with no plugs is of raw keys alone: it never fails, and tells its keys.
use Rattle.std.proofs.Common.{◌≡◌, ◌∙◌, ◌+◌, ◌≤◌, ℕ, zero, suc, nat_lt, Bool, true, false, List, [], ◌∷◌, ◌++◌, length, refl, sym, ap, subst, arith}
use Rattle.std.specs.Prelude.{⊤, Option, Some, None, Result, Ok, Err, if◌then◌else◌, is_some}
use Rattle.std.proofs.lemmas.Bool.{le-ltb}
use Rattle.serde_json.specs.Data.{Data, Items, no_items, item}
use Rattle.esdk_fields.specs.declared.refusals.FileRefusal.{FileRefusal}
use Rattle.esdk_fields.specs.declared.refusals.FileRefusal.TheVariants.{BadShape, TooDeep}
use Rattle.esdk_base.specs.Streams.{ShelfState}
use Rattle.esdk_args.specs.declared.request.ResealWords.{ResealWords}
use Rattle.keyring_trait.specs.Keyring.{KeyringMeaning}
use Rattle.keyring_trait.specs.Wrapping.{WrapKeyValue}
use Rattle.multi_keyring.specs.declared.tree.Node.{Node}
use Rattle.multi_keyring.specs.Forest.{Forest, Nil, RawThen, HandedThen, MultiThen}
use Rattle.multi_keyring.specs.Tree.{all_faults, all_keys, all_steady, all_wraps, both_keys, meanings}
use Rattle.multi_keyring.proofs.Going.{first_true}
use Rattle.json_values.specs.Values.{json_value}
use Rattle.keyring_file.specs.declared.plugs.Plug.{Plug}
use Rattle.keyring_file.specs.Counts.{leaves_of}
use Rattle.keyring_file.specs.Form.{Form, RawForm, PlugForm, MultiForm, form_of, ring_of}
use Rattle.keyring_file.specs.Found.{wraps_of}
use Rattle.keyring_file.specs.KeyFile.{is_json, json_tree, line_tree, node_tree, only_tree, nothing_met, tree_of}
use Rattle.keyring_file.specs.KeyLine.{key_line}
use Rattle.keyring_file.specs.Leaves.{plug_leaf, raw_key, raw_leaf, wrap_key}
use Rattle.keyring_file.specs.Tree.{rows_beside, formed, multi, optional, row, tree}
use Rattle.keyring_file.specs.Walk.{Met, Walk}
use Rattle.keyring_file.proofs.Files.{file_is_low}
use Rattle.keyring_file.proofs.RawKeys.{key_read, result_is}
use Rattle.keyring_file.proofs.Steps.{got, used_on, went, with_node}
use Rattle.esdk_run.specs.Reseal.{HasSecond}
use Rattle.esdk_run.specs.Trees.{IsLawful, TreeIs, means, reading, trees_of}

-- ---- no keyring stands in it that was handed over

-- these trees are of raw keys alone
abbrev IsRaw : {P : Type 0} → Forest P → Type 0
IsRaw Nil = ⊤
IsRaw (RawThen key trees) = IsRaw trees
IsRaw (HandedThen keyring trees) = ⊥
IsRaw (MultiThen has members trees) = IsRaw members × IsRaw trees

raw_beside : {P : Type 0} (a b : Forest P) → IsRaw a → IsRaw b → IsRaw (rows_beside a b)
raw_beside Nil b one two = two
raw_beside (RawThen key trees) b one two = raw_beside trees b one two
raw_beside (HandedThen keyring trees) b one two = absurd one
raw_beside (MultiThen has members trees) b one two = (one.0, raw_beside trees b one.1 two)

-- These trees were read with no plugs left, and none are left.
record AreRaw {P : Type 0} (trees : Forest P) (new : Met P) : Type 0 where
  none : new.plugs ≡ []
  raw : IsRaw trees

-- whatever these read with no plugs left is raw
abbrev ReadsRaw : {P : Type 0} → (Data → Walk P (Forest P)) → Type 0
ReadsRaw {P = P} read = (d : Data) (old : Met P) (y : Forest P × Met P) → old.plugs ≡ [] → read d old ≡ Ok y → AreRaw y.0 y.1

leaf_none : {P : Type 0} (place : ℕ) (namespace name text : List ℕ) (retired : Bool) (old : Met P) (y : WrapKeyValue × Met P) → old.plugs ≡ []
    → raw_leaf place namespace name text retired old ≡ Ok y → y.1.plugs ≡ []
unfolding raw_leaf
leaf_none {P = P} place namespace name text retired old y none e =
    let k = went (raw_key place namespace name text old) _ y e in
    let r = key_read place namespace name text old k.value k.is in
    subst (λ (y : WrapKeyValue × Met P). y.1.plugs ≡ []) (result_is (wrap_key namespace name k.value.0 retired, k.value.1) y k.rest)
    (sym (ap (λ (m : Met P). m.plugs) r.new) ∙ none)

plug_none : {P : Type 0} (wraps : P → ℕ) (name : List ℕ) (old : Met P) (y : P × Met P) → old.plugs ≡ [] → plug_leaf wraps name old ≡ Ok y → ⊥
unfolding plug_leaf
plug_none wraps name old y none e =
    let a = used_on name _ old y e in
    omega (arith, a.fewer, ap length none)

module _ {P : Type 0} (below : Data → Walk P (Forest P)) (reads : ReadsRaw below) where
  row_raw : (ds : Items) (old : Met P) (y : Forest P × Met P) → old.plugs ≡ [] → row below ds old ≡ Ok y → AreRaw y.0 y.1
  unfolding row
  row_raw no_items old y none e = subst (λ (y : Forest P × Met P). AreRaw y.0 y.1) (result_is (Nil, old) y e) (record { none = none; raw = tt })
  row_raw (item d ds) old y none e =
      let a = went (below d old) _ y e in
      let b = went (row below ds a.value.1) _ y a.rest in
      let one = reads d old a.value none a.is in
      let two = row_raw ds a.value.1 b.value one.none b.is in
      subst (λ (y : Forest P × Met P). AreRaw y.0 y.1) (result_is (rows_beside a.value.0 b.value.0, b.value.1) y b.rest)
      (record { none = two.none; raw = raw_beside a.value.0 b.value.0 one.raw two.raw })

  optional_raw : (o : Option Data) (old : Met P) (y : Forest P × Met P) → old.plugs ≡ [] → optional below o old ≡ Ok y → AreRaw y.0 y.1
  optional_raw (Some d) old y none e = reads d old y none e
  optional_raw None old y none e = subst (λ (y : Forest P × Met P). AreRaw y.0 y.1) (result_is (Nil, old) y e) (record { none = none; raw = tt })

  multi_raw : (generator : Option Data) (children : Items) (old : Met P) (y : (Bool × Forest P) × Met P) → old.plugs ≡ [] → multi below generator children old ≡ Ok y → AreRaw y.0.1 y.1
  unfolding multi
  multi_raw generator children old y none e =
      let a = went (optional below generator old) _ y e in
      let b = went (row below children a.value.1) _ y a.rest in
      let one = optional_raw generator old a.value none a.is in
      let two = row_raw children a.value.1 b.value one.none b.is in
      subst (λ (y : (Bool × Forest P) × Met P). AreRaw y.0.1 y.1) (result_is ((is_some generator, rows_beside a.value.0 b.value.0), b.value.1) y b.rest)
      (record { none = two.none; raw = raw_beside a.value.0 b.value.0 one.raw two.raw })

  formed_raw : (wraps : P → ℕ) (place : ℕ) (form : Form) (old : Met P) (y : Forest P × Met P) → old.plugs ≡ [] → formed wraps below place form old ≡ Ok y → AreRaw y.0 y.1
  formed_raw wraps place (RawForm namespace name text retired) old y none e =
      let a = went (raw_leaf place namespace name text retired old) _ y e in
      subst (λ (y : Forest P × Met P). AreRaw y.0 y.1) (result_is (RawThen a.value.0 Nil, a.value.1) y a.rest)
      (record { none = leaf_none place namespace name text retired old a.value none a.is; raw = tt })
  formed_raw wraps place (PlugForm name) old y none e =
      let a = went (plug_leaf wraps name old) _ y e in
      absurd (plug_none wraps name old a.value none a.is)
  formed_raw wraps place (MultiForm generator children) old y none e =
      let a = went (multi below generator children old) _ y e in
      let m = multi_raw generator children old a.value none a.is in
      subst (λ (y : Forest P × Met P). AreRaw y.0 y.1) (result_is (MultiThen a.value.0.0 a.value.0.1 Nil, a.value.1) y a.rest)
      (record { none = m.none; raw = (m.raw, tt) })

fails_so : {A : Type 0} (y : A) → Err TooDeep ≡ Ok y → ⊥
fails_so y e = absurd cc

tree_raw : {P : Type 0} (wraps : P → ℕ) (version : _) (levels : ℕ) → ReadsRaw (tree wraps version levels)
unfolding tree
tree_raw wraps version zero d old y none e = let a = got (BadShape (old.nodes + 1)) (form_of version d) _ (with_node old) y e in absurd (fails_so _ a.rest)
tree_raw wraps version (suc levels) d old y none e =
    let a = got (BadShape (old.nodes + 1)) (form_of version d) _ (with_node old) y e in
    formed_raw (tree wraps version levels) (tree_raw wraps version levels) wraps (old.nodes + 1) a.value (with_node old) y none a.rest

module _ {P : Type 0} (wraps : P → ℕ) (trees : Forest P) where
  of_key : (key : Result WrapKeyValue FileRefusal) → line_tree key ≡ Ok trees → IsRaw trees
  of_key (Ok w) e = let same : RawThen w Nil ≡ trees = cc in subst IsRaw same tt
  of_key (Err refusal) e = absurd cc

  of_walk : (version : _) (node : Data) (r : Result (Forest P × Met P) FileRefusal) → tree wraps version 8 node (nothing_met []) ≡ r → only_tree r ≡ Ok trees → IsRaw trees
  of_walk version node (Ok y) is e = let same : y.0 ≡ trees = cc in subst IsRaw same (tree_raw wraps version 8 node (nothing_met []) y refl is).raw
  of_walk version node (Err refusal) is e = absurd cc

  of_ring : (ring : _) → node_tree wraps [] ring ≡ Ok trees → IsRaw trees
  of_ring (Some (version, node)) e = of_walk version node (tree wraps version 8 node (nothing_met [])) refl e
  of_ring None e = absurd cc

  of_json : (file : Option Data) → json_tree wraps [] file ≡ Ok trees → IsRaw trees
  of_json (Some file) e = of_ring (ring_of file) e
  of_json None e = absurd cc

  of_either : (bytes : List ℕ) (json : Bool) → (if json then json_tree wraps [] (json_value bytes) else line_tree (key_line bytes)) ≡ Ok trees → IsRaw trees
  of_either bytes true e = of_json (json_value bytes) e
  of_either bytes false e = of_key (key_line bytes) e

  of_file : (bytes : List ℕ) → tree_of wraps bytes [] ≡ Ok trees → IsRaw trees
  unfolding tree_of
  of_file bytes e = of_either bytes (is_json bytes) e

-- ---- what raw keys mean

-- These keyrings make at most so many entries, tell their keys, never failed, and never will.
record AreSettled (most : ℕ) (rings : List KeyringMeaning) : Type 0 where
  few : all_wraps rings ≤ most
  keys : List WrapKeyValue
  told : all_keys rings ≡ Some keys
  steady : all_steady rings ≡ true
  unfailed : all_faults rings ≡ 0

one_or_none : (retired : Bool) → (if retired then 0 else 1) ≤ 1
one_or_none true = omega arith
one_or_none false = omega arith

raw_settled : {P : Type 0} (wraps : P → ℕ) (leaf : P → KeyringMeaning) (trees : Forest P) → IsRaw trees → leaves_of wraps trees ≤ 64 → AreSettled (leaves_of wraps trees) (meanings leaf trees)
raw_settled wraps leaf Nil raw few = record { few = omega arith; keys = []; told = refl; steady = refl; unfailed = refl }
raw_settled wraps leaf (RawThen key trees) raw few =
    let s = raw_settled wraps leaf trees raw (omega (arith, few)) in
    record { few = omega (arith, s.few, one_or_none key.retired); keys = key ∷ s.keys; told = rw s.told refl; steady = s.steady; unfailed = omega (arith, s.unfailed) }
raw_settled wraps leaf (HandedThen keyring trees) raw few = absurd raw
raw_settled wraps leaf (MultiThen has members trees) raw few =
    let m = raw_settled wraps leaf members raw.0 (omega (arith, few)) in
    let s = raw_settled wraps leaf trees raw.1 (omega (arith, few)) in
    let narrow : nat_lt 64 (all_wraps (meanings leaf members)) ≡ false = le-ltb 64 (all_wraps (meanings leaf members)) (omega (arith, m.few, few)) in
    record {
      few = omega (arith, m.few, s.few);
      keys = m.keys ++ s.keys;
      told = rw (narrow, m.told, s.told) refl;
      steady = rw (m.steady, m.unfailed, s.steady) refl;
      unfailed = omega (arith, m.unfailed, s.unfailed);
    }

-- ---- the second tree

-- a keyring of a row that tells its keys tells its own
first_told : (first others : Option (List WrapKeyValue)) (keys : List WrapKeyValue) → both_keys first others ≡ Some keys → (own : List WrapKeyValue) × (first ≡ Some own)
first_told None others keys is = absurd cc
first_told (Some own) others keys is = (own, refl)

module _ {P : Type 0} (meaning : P → KeyringMeaning) (bytes : List ℕ) (read : KeyringMeaning) where
  one_settled : (r : Result (Forest P) FileRefusal) → tree_of (wraps_of meaning) bytes [] ≡ r → means meaning r ≡ Ok (read ∷ []) → (most : ℕ) × AreSettled most (read ∷ [])
  one_settled (Ok trees) is e =
      let wraps = wraps_of meaning in
      let same : meanings meaning trees ≡ read ∷ [] = cc in
      let low = file_is_low wraps bytes [] trees (omega arith) is in
      (leaves_of wraps trees, subst (AreSettled (leaves_of wraps trees)) same (raw_settled wraps meaning trees (of_file wraps trees bytes is) low.1))
  one_settled (Err refusal) is e = absurd cc

-- the second file of `reseal`, read with no plugs
pub second_read : {P : Type 0} (meaning : P → KeyringMeaning) (plugs : List (Plug P)) (left : Option (Node P)) (asked : ResealWords) (between new : ShelfState) (second : KeyringMeaning)
    → TreeIs (reading meaning []) between new asked.to_keyring second → IsLawful second → HasSecond (trees_of meaning plugs left) asked between new second
second_read meaning plugs left asked between new second file lawful =
    let s = (one_settled meaning file.bytes second (tree_of (wraps_of meaning) file.bytes []) refl file.is).1 in
    let own = first_told second.keys (Some []) s.keys s.told in
    record { file = file; lawful = lawful; steady = first_true second.steady true s.steady; keys = own.0; told = own.1 }
