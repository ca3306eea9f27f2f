-- The numbers of the nodes that are written anew fit 32 bits: each node has a leaf below it or is one, and there are at most 64 leaves.
use Rattle.std.proofs.Common.{◌≡◌, ◌≤◌, ◌+◌, ◌*◌, ℕ, zero, suc, Bool, true, false, refl, subst, arith}
use Rattle.std.specs.Prelude.{◌||◌, is_some, Option, Some, None, Ok, Err}
use Rattle.serde_json.specs.Data.{Data, Items, no_items, item}
use Rattle.esdk_fields.specs.declared.refusals.FileRefusal.TheVariants.{BadShape, TooDeep}
use Rattle.keyring_file.specs.declared.form.Version.{Version}
use Rattle.keyring_file.specs.Form.{Form, RawForm, PlugForm, MultiForm, form_of, has_node, is_empty, IsFit, lists_children}
use Rattle.keyring_file.specs.Leaves.{raw_key, wrap_key}
use Rattle.keyring_file.specs.Walk.{Met, Walk}
use Rattle.keyring_file.specs.Room.{HasSpace}
use Rattle.keyring_file.specs.Migrate.{raw_node, plug_node, multi_node, is_at, list_if, migrated, migrated_form, migrated_multi, migrated_optional, migrated_row}
use Rattle.keyring_file.proofs.Forms.{form_fit}
use Rattle.keyring_file.proofs.RawKeys.{key_read, result_is}
use Rattle.keyring_file.proofs.Steps.{went, got, counted_on, with_key, with_leaves, with_node}

-- no node is open
pub record IsClosed {P : Type 0} (met : Met P) : Type 0 where
  pub leaves : met.leaves ≤ 64
  pub nodes : met.nodes ≤ 8 * met.leaves

closed_space : {P : Type 0} (levels : ℕ) (met : Met P) → levels ≤ 8 → IsClosed met → HasSpace levels met
closed_space levels met few c = record { few = few; leaves = c.leaves; nodes = omega (arith, c.nodes, few) }

-- whatever these read leaves no node open
abbrev pub Closes : {P : Type 0} → ℕ → (Data → Walk P (Data × Bool)) → Type 0
Closes {P = P} levels below = (d : Data) (old : Met P) (y : (Data × Bool) × Met P) → below d old ≡ Ok y → HasSpace levels old → IsClosed y.1

module _ {P : Type 0} (levels : ℕ) (below : Data → Walk P (Data × Bool)) (closes : Closes levels below) where
  row_closes : (ds : Items) (old : Met P) (y : (Items × Bool) × Met P) → migrated_row below ds old ≡ Ok y → HasSpace levels old
      → HasSpace levels y.1 × (is_empty ds ≡ false → IsClosed y.1)
  unfolding migrated_row
  row_closes no_items old y e h = (subst (λ y. HasSpace levels y.1) (result_is ((no_items, false), old) y e) h, λ some. absurd cc)
  row_closes (item d ds) old y e h =
      let a = went (below d old) _ y e in
      let b = went (migrated_row below ds a.value.1) _ y a.rest in
      let one = closes d old a.value a.is h in
      let two = row_closes ds a.value.1 b.value b.is (closed_space levels a.value.1 h.few one) in
      let same = result_is ((item a.value.0.0 b.value.0.0, a.value.0.1 || b.value.0.1), b.value.1) y b.rest in
      let closed = subst (λ y. IsClosed y.1) same (closed_by ds a.value.1 b.value b.is one two.1) in
      (closed_space levels y.1 h.few closed, λ some. closed)
    where
      closed_by : (ds : Items) (mid : Met P) (y : (Items × Bool) × Met P) → migrated_row below ds mid ≡ Ok y → IsClosed mid → (is_empty ds ≡ false → IsClosed y.1) → IsClosed y.1
      closed_by no_items mid y e c some = subst (λ y. IsClosed y.1) (result_is ((no_items, false), mid) y e) c
      closed_by (item d ds) mid y e c some = some refl

  pub optional_closes : (o : Option Data) (old : Met P) (y : (Option Data × Bool) × Met P) → migrated_optional below o old ≡ Ok y → HasSpace levels old
      → HasSpace levels y.1 × (is_some o ≡ true → IsClosed y.1)
  optional_closes (Some d) old y e h =
      let a = went (below d old) _ y e in
      let closed = subst (λ y. IsClosed y.1) (result_is ((Some a.value.0.0, a.value.0.1), a.value.1) y a.rest) (closes d old a.value a.is h) in
      (closed_space levels y.1 h.few closed, λ some. closed)
  optional_closes None old y e h = (subst (λ y. HasSpace levels y.1) (result_is ((None, false), old) y e) h, λ some. absurd cc)

  multi_closes : (generator : Option Data) (children : Items) (old : Met P) (a : (Option Data × Bool) × Met P) (b : (Items × Bool) × Met P) → has_node generator children ≡ true
      → migrated_optional below generator old ≡ Ok a → migrated_row below children a.1 ≡ Ok b → HasSpace levels old → IsClosed b.1
  unfolding migrated_row
  multi_closes generator (item d ds) old a b has one two h = (row_closes (item d ds) a.1 b two (optional_closes generator old a one h).0).1 refl
  multi_closes (Some d) no_items old a b has one two h = subst (λ y. IsClosed y.1) (result_is ((no_items, false), a.1) b two) ((optional_closes (Some d) old a one h).1 refl)
  multi_closes None no_items old a b has one two h = absurd cc

  form_closes : (retire : Option ℕ) (place : ℕ) (listed : Bool) (form : Form) (old : Met P) (y : (Data × Bool) × Met P) → IsFit form
      → migrated_form retire below place listed form (with_node old) ≡ Ok y → HasSpace (suc levels) old → IsClosed y.1
  unfolding migrated_multi
  form_closes retire place listed (RawForm namespace name text retired) old y fit e h =
      let a = went (raw_key place namespace name text (with_node old)) _ y e in
      let k = key_read place namespace name text (with_node old) a.value a.is in
      let w = wrap_key namespace name a.value.0 false in
      let closed : IsClosed (with_leaves 1 (with_key w (with_node old))) = record { leaves = k.most; nodes = omega (arith, h.nodes) } in
      subst (λ y. IsClosed y.1) (result_is ((raw_node namespace name text (is_at place retire || retired), is_at place retire), a.value.1) y a.rest)
      (subst IsClosed k.new closed)
  form_closes retire place listed (PlugForm name) old y fit e h =
      let a = counted_on 1 _ (with_node old) y e in
      let closed : IsClosed (with_leaves 1 (with_node old)) = record { leaves = a.most; nodes = omega (arith, h.nodes) } in
      subst (λ y. IsClosed y.1) (result_is ((plug_node name, false), with_leaves 1 (with_node old)) y a.rest) closed
  form_closes retire place listed (MultiForm generator children) old y fit e h =
      let a = went (migrated_optional below generator (with_node old)) _ y e in
      let b = went (migrated_row below children a.value.1) _ y a.rest in
      let space : HasSpace levels (with_node old) = record { few = omega (arith, h.few); leaves = h.leaves; nodes = omega (arith, h.nodes) } in
      subst (λ y. IsClosed y.1) (result_is ((multi_node a.value.0.0 (list_if listed b.value.0.0), a.value.0.1 || b.value.0.1), b.value.1) y b.rest)
      (multi_closes generator children (with_node old) a.value b.value fit a.is b.is space)

fails_so : {A : Type 0} (y : A) → Err TooDeep ≡ Ok y → ⊥
fails_so y e = absurd cc

migrated_closes : {P : Type 0} (retire : Option ℕ) (version : Version) (levels : ℕ) → Closes {P = P} levels (migrated retire version levels)
unfolding migrated
migrated_closes retire version zero d old y e h = let a = got (BadShape (old.nodes + 1)) (form_of version d) _ (with_node old) y e in absurd (fails_so _ a.rest)
migrated_closes retire version (suc levels) d old y e h =
    let a = got (BadShape (old.nodes + 1)) (form_of version d) _ (with_node old) y e in
    form_closes levels (migrated retire version levels) (migrated_closes retire version levels) retire (old.nodes + 1) (lists_children d) a.value old y (form_fit version d a.value a.is) a.rest h

-- there is space for further nodes on this level, behind a node and behind one that may be absent
pub space_after : {P : Type 0} (retire : Option ℕ) (version : Version) (levels : ℕ) (d : Data) (old : Met P) (y : (Data × Bool) × Met P) → migrated retire version levels d old ≡ Ok y
    → HasSpace levels old → HasSpace levels y.1
space_after retire version levels d old y e h = closed_space levels y.1 h.few (migrated_closes retire version levels d old y e h)

pub space_behind : {P : Type 0} (retire : Option ℕ) (version : Version) (levels : ℕ) (o : Option Data) (old : Met P) (y : (Option Data × Bool) × Met P)
    → migrated_optional (migrated retire version levels) o old ≡ Ok y → HasSpace levels old → HasSpace levels y.1
space_behind retire version levels o old y e h = (optional_closes levels (migrated retire version levels) (migrated_closes retire version levels) o old y e h).0
