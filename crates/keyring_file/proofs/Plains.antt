-- What is written anew can be read back: it has no floats, and nests at most three deep on each level.
use Rattle.std.proofs.Common.{◌≡◌, ◌≤◌, ◌+◌, ◌*◌, ℕ, zero, suc, Bool, true, false, List, refl, sym, subst, arith}
use Rattle.std.specs.Prelude.{◌||◌, Option, Some, None, Ok, Err}
use Rattle.json.specs.Tree.{ItemsHaveNumbers}
use Rattle.json.proofs.Printed.Decimals.{IsNumber-decimal}
use Rattle.serde_json.specs.Data.{Data, Items, no_items, item, items_depth}
use Rattle.serde_json.specs.Written.{items_have_float, items_outline}
use Rattle.esdk_fields.specs.declared.refusals.FileRefusal.TheVariants.{BadShape, TooDeep}
use Rattle.keyring_file.specs.declared.form.Version.{Version}
use Rattle.keyring_file.specs.Form.{Form, RawForm, PlugForm, MultiForm, form_of, lists_children}
use Rattle.keyring_file.specs.Leaves.{raw_key}
use Rattle.keyring_file.specs.Walk.{Met, Walk, count_leaves}
use Rattle.keyring_file.specs.Plain.{IsPlain, IsPlainObject}
use Rattle.keyring_file.specs.Migrate.{raw_node, plug_node, multi_node, version_2_file, file_with, is_at, list_if, migrated, migrated_form, migrated_multi, migrated_optional, migrated_row}
use Rattle.keyring_file.proofs.RawKeys.{result_is}
use Rattle.keyring_file.proofs.Steps.{went, got, with_node}

-- a list of such values
record ArePlain (most : ℕ) (ds : Items) : Type 0 where
  whole : items_have_float ds ≡ false
  numbers : ItemsHaveNumbers (items_outline ds)
  shallow : items_depth ds ≤ most

-- such a value, if there is one
abbrev IsPlainIf : ℕ → Option Data → Type 0
IsPlainIf most (Some d) = IsPlain most d
IsPlainIf most None = Unit {0}

pub deeper : (a b : ℕ) (d : Data) → IsPlain a d → a ≤ b → IsPlain b d
deeper a b d p le = record { whole = p.whole; numbers = p.numbers; shallow = omega (arith, p.shallow, le) }

pub raw_plain : (namespace name text : List ℕ) (retired : Bool) → IsPlain 3 (raw_node namespace name text retired)
raw_plain namespace name text true = record { whole = refl; numbers = ((tt, (tt, (tt, (tt, tt)))), tt); shallow = omega arith }
raw_plain namespace name text false = record { whole = refl; numbers = ((tt, (tt, (tt, tt))), tt); shallow = omega arith }

plug_plain : (name : List ℕ) → IsPlain 3 (plug_node name)
plug_plain name = record { whole = refl; numbers = (tt, tt); shallow = omega arith }

either : (a b : Bool) → a ≡ false → b ≡ false → (a || b) ≡ false
either true b one two = absurd cc
either false b one two = two

listed_plain : (n : ℕ) (listed : Bool) (ds : Items) → ArePlain n ds → IsPlainIf (n + 1) (list_if listed ds)
listed_plain n true ds p = record { whole = p.whole; numbers = p.numbers; shallow = omega (arith, p.shallow) }
listed_plain n false ds p = tt

multi_plain : (n : ℕ) (generator children : Option Data) → IsPlainIf n generator → IsPlainIf (n + 1) children → IsPlain (n + 3) (multi_node generator children)
multi_plain n None None g c = record { whole = refl; numbers = (tt, tt); shallow = omega arith }
multi_plain n (Some a) None g c =
    record { whole = either _ _ (either _ _ g.whole refl) refl; numbers = ((g.numbers, tt), tt); shallow = omega (arith, g.shallow) }
multi_plain n None (Some b) g c =
    record { whole = either _ _ (either _ _ c.whole refl) refl; numbers = ((c.numbers, tt), tt); shallow = omega (arith, c.shallow) }
multi_plain n (Some a) (Some b) g c =
    record { whole = either _ _ (either _ _ c.whole (either _ _ g.whole refl)) refl; numbers = ((c.numbers, (g.numbers, tt)), tt); shallow = omega (arith, g.shallow, c.shallow) }

pub file_plain : (n : ℕ) (node : Data) → IsPlain n node → IsPlain (n + 1) (version_2_file node)
file_plain n node p =
    record { whole = either _ _ p.whole refl; numbers = (p.numbers, (IsNumber-decimal 2 (omega arith), tt)); shallow = omega (arith, p.shallow) }

module _ {P : Type 0} (n : ℕ) (below : Data → Walk P (Data × Bool)) (plain : (d : Data) (old : Met P) (y : (Data × Bool) × Met P) → below d old ≡ Ok y → IsPlain n y.0.0) where
  row_plain : (ds : Items) (old : Met P) (y : (Items × Bool) × Met P) → migrated_row below ds old ≡ Ok y → ArePlain n y.0.0
  unfolding migrated_row
  row_plain no_items old y e = subst (λ y. ArePlain n y.0.0) (result_is ((no_items, false), old) y e) (record { whole = refl; numbers = tt; shallow = omega arith })
  row_plain (item d ds) old y e =
      let a = went (below d old) _ y e in
      let b = went (migrated_row below ds a.value.1) _ y a.rest in
      let one = plain d old a.value a.is in
      let two = row_plain ds a.value.1 b.value b.is in
      subst (λ y. ArePlain n y.0.0) (result_is ((item a.value.0.0 b.value.0.0, a.value.0.1 || b.value.0.1), b.value.1) y b.rest)
      (record { whole = either _ _ one.whole two.whole; numbers = (one.numbers, two.numbers); shallow = omega (arith, one.shallow, two.shallow) })

  optional_plain : (o : Option Data) (old : Met P) (y : (Option Data × Bool) × Met P) → migrated_optional below o old ≡ Ok y → IsPlainIf n y.0.0
  optional_plain (Some d) old y e =
      let a = went (below d old) _ y e in
      subst (λ y. IsPlainIf n y.0.0) (result_is ((Some a.value.0.0, a.value.0.1), a.value.1) y a.rest) (plain d old a.value a.is)
  optional_plain None old y e = subst (λ y. IsPlainIf n y.0.0) (result_is ((None, false), old) y e) tt

  form_plain : (retire : Option ℕ) (place : ℕ) (listed : Bool) (form : Form) (old : Met P) (y : (Data × Bool) × Met P) → migrated_form retire below place listed form old ≡ Ok y → IsPlain (n + 3) y.0.0
  unfolding migrated_multi
  form_plain retire place listed (RawForm namespace name text retired) old y e =
      let a = went (raw_key place namespace name text old) _ y e in
      let node = raw_node namespace name text (is_at place retire || retired) in
      subst (λ y. IsPlain (n + 3) y.0.0) (result_is ((node, is_at place retire), a.value.1) y a.rest)
      (deeper 3 (n + 3) node (raw_plain namespace name text (is_at place retire || retired)) (omega arith))
  form_plain retire place listed (PlugForm name) old y e =
      let a = went (count_leaves 1 old) _ y e in
      subst (λ y. IsPlain (n + 3) y.0.0) (result_is ((plug_node name, false), a.value.1) y a.rest) (deeper 3 (n + 3) (plug_node name) (plug_plain name) (omega arith))
  form_plain retire place listed (MultiForm generator children) old y e =
      let a = went (migrated_optional below generator old) _ y e in
      let b = went (migrated_row below children a.value.1) _ y a.rest in
      let node = multi_node a.value.0.0 (list_if listed b.value.0.0) in
      subst (λ y. IsPlain (n + 3) y.0.0) (result_is ((node, a.value.0.1 || b.value.0.1), b.value.1) y b.rest)
      (multi_plain n a.value.0.0 (list_if listed b.value.0.0) (optional_plain generator old a.value a.is) (listed_plain n listed b.value.0.0 (row_plain children a.value.1 b.value b.is)))

fails_so : {A : Type 0} (y : A) → Err TooDeep ≡ Ok y → ⊥
fails_so y e = absurd cc

pub migrated_plain : {P : Type 0} (retire : Option ℕ) (version : Version) (levels : ℕ) (d : Data) (old : Met P) (y : (Data × Bool) × Met P) → migrated retire version levels d old ≡ Ok y
    → IsPlain (3 * levels) y.0.0
unfolding migrated
migrated_plain retire version zero d old y e = let a = got (BadShape (old.nodes + 1)) (form_of version d) _ (with_node old) y e in absurd (fails_so _ a.rest)
migrated_plain retire version (suc levels) d old y e =
    let a = got (BadShape (old.nodes + 1)) (form_of version d) _ (with_node old) y e in
    deeper (3 * levels + 3) (3 * suc levels) y.0.0
    (form_plain (3 * levels) (migrated retire version levels) (migrated_plain retire version levels) retire (old.nodes + 1) (lists_children d) a.value (with_node old) y a.rest) (omega arith)

-- the file of a node that can be written
pub file_made : (node file : Data) → IsPlain 126 node → file ≡ version_2_file node → IsPlainObject file
file_made node file p is = subst IsPlainObject (sym is) (record { plain = file_plain 126 node p; object = refl })

-- the raw key that is to be retired was found, or none is
pub file_found : (retire : Option ℕ) (n : ℕ) (node file : Data) (found : Bool) → retire ≡ Some n → found ≡ true → file ≡ version_2_file node → file_with retire node found ≡ Ok file
file_found retire n node file found is there same = rw (is, there, same) refl

pub file_unasked : (retire : Option ℕ) (node file : Data) (found : Bool) → retire ≡ None → file ≡ version_2_file node → file_with retire node found ≡ Ok file
file_unasked retire node file found is same = rw (is, same) refl
