-- What the form of a node keeps.
use Rattle.std.proofs.Common.{◌≡◌, ◌≤◌, ◌+◌, ℕ, Bool, true, false, List, length, refl, sym, ap, subst, ◌∙◌}
use Rattle.std.specs.Prelude.{◌==◌, nat_le, codes, is_some, Option, Some, None, option_map, option_and_then}
use Rattle.std.proofs.lemmas.Bool.{leb-true, le-leb}
use Rattle.serde_json.specs.Data.{Data, Items, no_items}
use Rattle.serde_json.specs.Find.{get, as_str}
use Rattle.json_values.specs.Values.{provided, member_count, text_at, count}
use Rattle.keyring_file.specs.declared.form.Version.{Version}
use Rattle.keyring_file.specs.declared.form.Version.TheVariants.{Two}
use Rattle.keyring_file.specs.Form.{Form, RawForm, PlugForm, MultiForm, IsFit, short, short_text_at, raw_form, multi_form, only_form, form_of, has_node, children_of, retired_member, is_retired, lists_children}
use Rattle.keyring_file.specs.Migrate.{raw_node, plug_node, multi_node, list_if}

-- something was found, and in it this
record Found {A B : Type 0} (found : Option A) (next : A → Option B) (y : B) : Type 0 where
  value : A
  is : found ≡ Some value
  rest : next value ≡ Some y

found_in : {A B : Type 0} (found : Option A) (next : A → Option B) (y : B) → option_and_then next found ≡ Some y → Found found next y
found_in (Some x) next y e = record { value = x; is = refl; rest = e }
found_in None next y e = absurd cc

holds : (test : Bool) (x : Unit {0}) → provided test ≡ Some x → test ≡ true
holds true x e = refl
holds false x e = absurd cc

same : {A : Type 0} (x y : A) → Some x ≡ Some y → x ≡ y
same x y e = cc

short_is : (text t : List ℕ) → short text ≡ Some t → length t ≤ 1024
short_is text t e =
    let f = found_in (provided (nat_le (length text) 1024)) (λ _. Some text) t e in
    subst (λ t. length t ≤ 1024) (same text t f.rest) (leb-true (length text) 1024 (holds _ f.value f.is))

short_at : (name : List ℕ) (d : Data) (t : List ℕ) → short_text_at name d ≡ Some t → length t ≤ 1024
unfolding short_text_at
short_at name d t e = let f = found_in (text_at name d) short t e in short_is f.value t f.rest

raw_fit : (version : Version) (d : Data) (form : Form) → raw_form version d ≡ Some form → IsFit form
unfolding raw_form
raw_fit version d form e =
    let a = found_in (provided (member_count d == 3 + count (retired_member version d))) _ form e in
    let b = found_in (short_text_at (codes "namespace") d) _ form a.rest in
    let c = found_in (short_text_at (codes "name") d) _ form b.rest in
    let k = found_in (text_at (codes "key") d) _ form c.rest in
    let r = found_in (is_retired (retired_member version d)) _ form k.rest in
    subst IsFit (same (RawForm b.value c.value k.value r.value) form r.rest) (short_at (codes "namespace") d b.value b.is, short_at (codes "name") d c.value c.is)

plug_fit : (text : Option (List ℕ)) (form : Form) → option_map PlugForm text ≡ Some form → IsFit form
plug_fit (Some name) form e = subst IsFit (same (PlugForm name) form e) tt
plug_fit None form e = absurd cc

multi_fit : (d : Data) (form : Form) → multi_form d ≡ Some form → IsFit form
unfolding multi_form
multi_fit d form e =
    let generator = get (codes "generator") d in
    let a = found_in (provided (member_count d == count generator + count (get (codes "children") d))) _ form e in
    let b = found_in (children_of (get (codes "children") d)) _ form a.rest in
    let c = found_in (provided (has_node generator b.value)) _ form b.rest in
    subst IsFit (same (MultiForm generator b.value) form c.rest) (holds _ c.value c.is)

only_fit : (version : Version) (raw plug multi : Option Data) (form : Form) → only_form version raw plug multi ≡ Some form → IsFit form
only_fit version (Some raw) plug multi form e = raw_fit version raw form e
only_fit version None (Some plug) multi form e = plug_fit (as_str plug) form e
only_fit version None None (Some multi) form e = multi_fit multi form e
only_fit version None None None form e = absurd cc

pub form_fit : (version : Version) (d : Data) (form : Form) → form_of version d ≡ Some form → IsFit form
unfolding form_of
form_fit version d form e =
    let a = found_in (provided (member_count d == 1)) _ form e in
    only_fit version (get (codes "raw") d) (get (codes "plug") d) (get (codes "multi") d) form a.rest

-- ---- nodes that are written anew

-- a raw key has the form that it was written from
pub raw_again : (namespace name text : List ℕ) (retired : Bool) → length namespace ≤ 1024 → length name ≤ 1024
    → form_of Two (raw_node namespace name text retired) ≡ Some (RawForm namespace name text retired)
unfolding form_of raw_form short_text_at text_at member_count
raw_again namespace name text true one two = rw (le-leb (length namespace) 1024 one, le-leb (length name) 1024 two) refl
raw_again namespace name text false one two = rw (le-leb (length namespace) 1024 one, le-leb (length name) 1024 two) refl

pub plug_again : (name : List ℕ) → form_of Two (plug_node name) ≡ Some (PlugForm name)
unfolding form_of member_count
plug_again name = refl

pub multi_again : (o : Option Data) (ds : Items) (listed : Bool) → has_node o ds ≡ true → (listed ≡ false → ds ≡ no_items)
    → form_of Two (multi_node o (list_if listed ds)) ≡ Some (MultiForm o ds)
unfolding form_of multi_form member_count
multi_again (Some generator) ds true has none = refl
multi_again None ds true has none = rw has refl
multi_again (Some generator) ds false has none = ap (λ ds. Some (MultiForm (Some generator) ds)) (sym (none refl))
multi_again None ds false has none = absurd (no_node (subst (λ ds. has_node None ds ≡ true) (none refl) has))
  where
    no_node : has_node None no_items ≡ true → ⊥
    no_node e = cc

-- a form that is no multi-keyring's
abbrev IsOther : Form → Type 0
IsOther (RawForm namespace name key retired) = Unit {0}
IsOther (PlugForm name) = Unit {0}
IsOther (MultiForm generator children) = ⊥

not_multi : (form : Form) (o : Option Data) (ds : Items) → IsOther form → Some form ≡ Some (MultiForm o ds) → ⊥
not_multi (RawForm namespace name key retired) o ds other e = cc
not_multi (PlugForm name) o ds other e = cc
not_multi (MultiForm p es) o ds other e = absurd other

raw_other : (version : Version) (d : Data) (o : Option Data) (ds : Items) → raw_form version d ≡ Some (MultiForm o ds) → ⊥
unfolding raw_form
raw_other version d o ds e =
    let form = MultiForm o ds in
    let a = found_in (provided (member_count d == 3 + count (retired_member version d))) _ form e in
    let b = found_in (short_text_at (codes "namespace") d) _ form a.rest in
    let c = found_in (short_text_at (codes "name") d) _ form b.rest in
    let k = found_in (text_at (codes "key") d) _ form c.rest in
    let r = found_in (is_retired (retired_member version d)) _ form k.rest in
    not_multi (RawForm b.value c.value k.value r.value) o ds tt r.rest

plug_other : (text : Option (List ℕ)) (o : Option Data) (ds : Items) → option_map PlugForm text ≡ Some (MultiForm o ds) → ⊥
plug_other (Some name) o ds e = not_multi (PlugForm name) o ds tt e
plug_other None o ds e = cc

none_listed : (listed : Option Data) (ds : Items) → is_some listed ≡ false → children_of listed ≡ Some ds → ds ≡ no_items
none_listed (Some list) ds none e = absurd cc
none_listed None ds none e = same_items no_items ds e
  where
    same_items : (a b : Items) → Some a ≡ Some b → b ≡ a
    same_items a b e = cc

unlisted : (d : Data) (o : Option Data) (ds : Items) → multi_form d ≡ Some (MultiForm o ds) → is_some (get (codes "children") d) ≡ false → ds ≡ no_items
unfolding multi_form
unlisted d o ds e none =
    let generator = get (codes "generator") d in
    let a = found_in (provided (member_count d == count generator + count (get (codes "children") d))) _ (MultiForm o ds) e in
    let b = found_in (children_of (get (codes "children") d)) _ (MultiForm o ds) a.rest in
    let c = found_in (provided (has_node generator b.value)) _ (MultiForm o ds) b.rest in
    sym (same_children generator o b.value ds c.rest) ∙ none_listed (get (codes "children") d) b.value none b.is
  where
    same_children : (p o : Option Data) (es ds : Items) → Some (MultiForm p es) ≡ Some (MultiForm o ds) → es ≡ ds
    same_children p o es ds e = cc

only_unlisted : (version : Version) (raw plug multi : Option Data) (o : Option Data) (ds : Items) → only_form version raw plug multi ≡ Some (MultiForm o ds)
    → is_some (option_and_then (get (codes "children")) multi) ≡ false → ds ≡ no_items
only_unlisted version (Some raw) plug multi o ds e none = absurd (raw_other version raw o ds e)
only_unlisted version None (Some plug) multi o ds e none = absurd (plug_other (as_str plug) o ds e)
only_unlisted version None None (Some multi) o ds e none = unlisted multi o ds e none
only_unlisted version None None None o ds e none = absurd cc

-- a multi-keyring without a list of children has none
pub listed_form : (version : Version) (d : Data) (o : Option Data) (ds : Items) → form_of version d ≡ Some (MultiForm o ds) → lists_children d ≡ false → ds ≡ no_items
unfolding form_of
listed_form version d o ds e none =
    let a = found_in (provided (member_count d == 1)) _ (MultiForm o ds) e in
    only_unlisted version (get (codes "raw") d) (get (codes "plug") d) (get (codes "multi") d) o ds a.rest none
