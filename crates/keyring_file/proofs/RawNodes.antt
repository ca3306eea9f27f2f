-- A node is retired exactly where it is a raw key.
use Rattle.std.proofs.Common.{◌≡◌, ◌+◌, ◌-◌, ℕ, zero, suc, Bool, true, false, List, [], ◌∷◌, ◌++◌, length, slice_index_or, refl, sym, ap, subst, ◌∙◌, arith, length-append}
use Rattle.std.specs.Prelude.{◌||◌, ◌==◌, nat_lt, Option, Some, None, Result, Ok, Err, if◌then◌else◌}
use Rattle.std.proofs.lemmas.Bool.{eq-eqb, ne_eqb}
use Rattle.serde_json.specs.Data.{Data, Items, no_items, item}
use Rattle.esdk_fields.specs.declared.refusals.FileRefusal.{FileRefusal}
use Rattle.esdk_fields.specs.declared.refusals.FileRefusal.TheVariants.{BadShape, TooDeep, TooManyLeaves}
use Rattle.keyring_trait.specs.Wrapping.{WrapKeyValue}
use Rattle.base64.specs.GeneralPurpose.{encode_of}
use Rattle.base64.specs.Engines.{standard}
use Rattle.json_values.specs.Values.{json_value}
use Rattle.keyring_file.specs.declared.form.Version.{Version}
use Rattle.keyring_file.specs.KeyLine.{key_line}
use Rattle.keyring_file.specs.KeyFile.{is_json, nothing_met}
use Rattle.keyring_file.specs.Form.{Form, RawForm, PlugForm, MultiForm, form_of, ring_of, lists_children}
use Rattle.keyring_file.specs.Walk.{Met, Walk, then_walk, walk_or_refuse, count_leaves}
use Rattle.keyring_file.specs.Leaves.{raw_key}
use Rattle.keyring_file.specs.Migrate.{raw_node, plug_node, multi_node, version_2_file, is_at, list_if, migrated, migrated_form, migrated_multi, migrated_optional, migrated_row, file_with, file_walked, ring_migration, json_migration, line_migration, migration}
use Rattle.keyring_file.specs.RawNodes.{row_nodes, optional_nodes, form_nodes, node_nodes, ring_nodes, json_nodes, file_nodes, is_raw}
use Rattle.keyring_file.specs.Laws.{RetiresIf, RetiresAs}
use Rattle.keyring_file.proofs.RawKeys.{key_read}
use Rattle.keyring_file.proofs.Steps.{with_leaves, with_node}

-- ---- numbers

-- the node of this number is a raw key, where the first of these nodes has the number after the other
abbrev pub raw_from : ℕ → ℕ → List Bool → Bool
raw_from number before [] = false
raw_from number before (true ∷ nodes) = (before + 1 == number) || raw_from number (before + 1) nodes
raw_from number before (false ∷ nodes) = raw_from number (before + 1) nodes

or_false : (b : Bool) → (b || false) ≡ b
or_false true = refl
or_false false = refl

or_assoc : (a b c : Bool) → (a || (b || c)) ≡ ((a || b) || c)
or_assoc true b c = refl
or_assoc false b c = refl

raw_from-append : (number before : ℕ) (one two : List Bool) → raw_from number before (one ++ two) ≡ (raw_from number before one || raw_from number (before + length one) two)
raw_from-append number before [] two = ap (λ n. raw_from number n two) (omega arith)
raw_from-append number before (true ∷ one) two =
    let last : raw_from number (before + 1 + length one) two ≡ raw_from number (before + length (true ∷ one)) two = ap (λ n. raw_from number n two) (omega arith) in
    ap (λ b. (before + 1 == number) || b) (raw_from-append number (before + 1) one two ∙ ap (λ b. raw_from number (before + 1) one || b) last)
    ∙ or_assoc (before + 1 == number) (raw_from number (before + 1) one) (raw_from number (before + length (true ∷ one)) two)
raw_from-append number before (false ∷ one) two =
    let last : raw_from number (before + 1 + length one) two ≡ raw_from number (before + length (false ∷ one)) two = ap (λ n. raw_from number n two) (omega arith) in
    raw_from-append number (before + 1) one two ∙ ap (λ b. raw_from number (before + 1) one || b) last

-- none has a number that was passed
passed_none : (nodes : List Bool) (number before : ℕ) → number - before ≡ 0 → raw_from number before nodes ≡ false
passed_none [] number before is = refl
passed_none (true ∷ nodes) number before is = rw (ne_eqb (before + 1) number (λ e. omega (arith, is, e))) (passed_none nodes number (before + 1) (omega (arith, is)))
passed_none (false ∷ nodes) number before is = passed_none nodes number (before + 1) (omega (arith, is))

raw_index : (nodes : List Bool) (number before k : ℕ) → number - before ≡ k + 1 → raw_from number before nodes ≡ slice_index_or nodes k false
raw_index [] number before k is = refl
raw_index (true ∷ nodes) number before zero is = rw (eq-eqb (before + 1) number (omega (arith, is))) refl
raw_index (false ∷ nodes) number before zero is = passed_none nodes number (before + 1) (omega (arith, is))
raw_index (true ∷ nodes) number before (suc k) is = rw (ne_eqb (before + 1) number (λ e. omega (arith, is, e))) (raw_index nodes number (before + 1) k (omega (arith, is)))
raw_index (false ∷ nodes) number before (suc k) is = raw_index nodes number (before + 1) k (omega (arith, is))

raw_number : (nodes : List Bool) (number : ℕ) → raw_from number 0 nodes ≡ is_raw number nodes
raw_number nodes zero = passed_none nodes 0 0 (omega arith)
raw_number nodes (suc k) = raw_index nodes (suc k) 0 k (omega arith)

-- ---- two walks

-- both give values, after which as much was met
pub record AreBoth {P A B : Type 0} (Rel : A → B → Met P → Type 0) (one : A × Met P) (two : Result (B × Met P) FileRefusal) : Type 0 where
  pub value : B
  pub is : two ≡ Ok (value, one.1)
  pub related : Rel one.0 value one.1

-- one walk comes to a value where the other does, and to a refusal where the other does
abbrev pub Alongside : {P A B : Type 0} → (A → B → Met P → Type 0) → Result (A × Met P) FileRefusal → Result (B × Met P) FileRefusal → Type 0
Alongside Rel (Ok one) two = AreBoth Rel one two
Alongside Rel (Err refusal) two = two ≡ Err refusal

along_then : {P A B C D : Type 0} (Rel : A → B → Met P → Type 0) (Next : C → D → Met P → Type 0) (one : Result (A × Met P) FileRefusal) (two : Result (B × Met P) FileRefusal)
    (f : A → Walk P C) (g : B → Walk P D) → Alongside Rel one two → ((a : A) (b : B) (m : Met P) → Rel a b m → Alongside Next (f a m) (g b m)) → Alongside Next (then_walk one f) (then_walk two g)
along_then Rel Next (Ok x) two f g both next = subst (λ r. Alongside Next (f x.0 x.1) (then_walk r g)) (sym both.is) (next x.0 both.value x.1 both.related)
along_then Rel Next (Err refusal) two f g both next = ap (λ r. then_walk r g) both

along_same : {P A : Type 0} (Rel : A → A → Met P → Type 0) (r : Result (A × Met P) FileRefusal) → ((x : A × Met P) → r ≡ Ok x → Rel x.0 x.0 x.1) → Alongside Rel r r
along_same Rel (Ok x) holds = record { value = x.0; is = refl; related = holds x refl }
along_same Rel (Err refusal) holds = refl

counted_nodes : {P : Type 0} (test : Bool) (n : ℕ) (m : Met P) (x : Unit {0} × Met P) → (if test then Err TooManyLeaves else Ok (tt, with_leaves n m)) ≡ Ok x → x.1.nodes ≡ m.nodes
counted_nodes true n m x e = absurd cc
counted_nodes false n m x e = let same : (tt, with_leaves n m) ≡ x = cc in sym (ap (λ p. p.1.nodes) same)

found_join : (number before middle last : ℕ) (front back : List Bool) (a b : Bool) → a ≡ raw_from number before front → middle ≡ before + length front → b ≡ raw_from number middle back → last ≡ middle + length back
    → ((a || b) ≡ raw_from number before (front ++ back)) × (last ≡ before + length (front ++ back))
found_join number before middle last front back a b is at then_is then_at =
    (rw (is, then_is, at) (sym (raw_from-append number before front back)), omega (arith, at, then_at, length-append front back))

module _ {P : Type 0} (number : ℕ) where
  -- the second found the node that is to be retired exactly where it is a raw key of these; these were met
  abbrev pub IsFound : {A : Type 0} → ℕ → List Bool → A × Bool → A × Bool → Met P → Type 0
  IsFound before nodes one two m = (two.1 ≡ raw_from number before nodes) × (m.nodes ≡ before + length nodes)

  abbrev AllAlong : (Data → List Bool) → (one two : Data → Walk P (Data × Bool)) → Type 0
  AllAlong below one two = (d : Data) (s : Met P) → Alongside (IsFound s.nodes (below d)) (one d s) (two d s)

  module _ (below : Data → List Bool) (one two : Data → Walk P (Data × Bool)) (along : AllAlong below one two) where
    optional_along : (o : Option Data) (s : Met P) → Alongside (IsFound s.nodes (optional_nodes below o)) (migrated_optional one o s) (migrated_optional two o s)
    optional_along (Some d) s =
        along_then (IsFound s.nodes (below d)) (IsFound s.nodes (below d)) (one d s) (two d s) _ _ (along d s) (λ a b m r. record { value = (Some b.0, b.1); is = refl; related = r })
    optional_along None s = record { value = (None, false); is = refl; related = (refl, omega arith) }

    row_along : (ds : Items) (s : Met P) → Alongside (IsFound s.nodes (row_nodes below ds)) (migrated_row one ds s) (migrated_row two ds s)
    unfolding migrated_row
    row_along no_items s = record { value = (no_items, false); is = refl; related = (refl, omega arith) }
    row_along (item d ds) s =
        along_then (IsFound s.nodes (below d)) (IsFound s.nodes (below d ++ row_nodes below ds)) (one d s) (two d s) _ _ (along d s) (λ a b m r.
        along_then (IsFound m.nodes (row_nodes below ds)) (IsFound s.nodes (below d ++ row_nodes below ds)) (migrated_row one ds m) (migrated_row two ds m) _ _ (row_along ds m) (λ c e n q.
        record {
          value = (item b.0 e.0, b.1 || e.1);
          is = refl;
          related = found_join number s.nodes m.nodes n.nodes (below d) (row_nodes below ds) b.1 e.1 r.0 r.1 q.0 q.1;
        }))

    multi_along : (listed : Bool) (o : Option Data) (ds : Items) (s : Met P)
        → Alongside (IsFound s.nodes (optional_nodes below o ++ row_nodes below ds)) (migrated_multi one listed o ds s) (migrated_multi two listed o ds s)
    unfolding migrated_multi
    multi_along listed o ds s =
        along_then (IsFound s.nodes (optional_nodes below o)) (IsFound s.nodes (optional_nodes below o ++ row_nodes below ds)) (migrated_optional one o s) (migrated_optional two o s) _ _
        (optional_along o s) (λ a b m r.
        along_then (IsFound m.nodes (row_nodes below ds)) (IsFound s.nodes (optional_nodes below o ++ row_nodes below ds)) (migrated_row one ds m) (migrated_row two ds m) _ _
        (row_along ds m) (λ c e n q. record {
          value = (multi_node b.0 (list_if listed e.0), b.1 || e.1);
          is = refl;
          related = found_join number s.nodes m.nodes n.nodes (optional_nodes below o) (row_nodes below ds) b.1 e.1 r.0 r.1 q.0 q.1;
        }))

    raw_along : (listed : Bool) (namespace name text : List ℕ) (retired : Bool) (s : Met P)
        → Alongside (IsFound s.nodes (true ∷ [])) (migrated_form None one (s.nodes + 1) listed (RawForm namespace name text retired) (with_node s))
        (migrated_form (Some number) two (s.nodes + 1) listed (RawForm namespace name text retired) (with_node s))
    raw_along listed namespace name text retired s =
        let key = raw_key (s.nodes + 1) namespace name text (with_node s) in
        along_then (λ a b m. m.nodes ≡ s.nodes + 1) (IsFound s.nodes (true ∷ [])) key key _ _
        (along_same (λ a b m. m.nodes ≡ s.nodes + 1) key (λ x is. sym (ap (λ m. m.nodes) (key_read (s.nodes + 1) namespace name text (with_node s) x is).new)))
        (λ a b m at. record {
          value = (raw_node namespace name text (is_at (s.nodes + 1) (Some number) || retired), is_at (s.nodes + 1) (Some number));
          is = refl;
          related = (sym (or_false (s.nodes + 1 == number)), omega (arith, at));
        })

    plug_along : (listed : Bool) (name : List ℕ) (s : Met P)
        → Alongside (IsFound s.nodes (false ∷ [])) (migrated_form None one (s.nodes + 1) listed (PlugForm name) (with_node s))
        (migrated_form (Some number) two (s.nodes + 1) listed (PlugForm name) (with_node s))
    unfolding count_leaves
    plug_along listed name s =
        along_then (λ a b m. m.nodes ≡ s.nodes + 1) (IsFound s.nodes (false ∷ [])) (count_leaves 1 (with_node s)) (count_leaves 1 (with_node s)) _ _
        (along_same (λ a b m. m.nodes ≡ s.nodes + 1) (count_leaves 1 (with_node s)) (λ x is. counted_nodes (nat_lt 64 (s.leaves + 1)) 1 (with_node s) x is))
        (λ a b m at. record { value = (plug_node name, false); is = refl; related = (refl, omega (arith, at)) })

    under_along : (listed : Bool) (o : Option Data) (ds : Items) (s : Met P)
        → Alongside (IsFound s.nodes (false ∷ (optional_nodes below o ++ row_nodes below ds))) (migrated_form None one (s.nodes + 1) listed (MultiForm o ds) (with_node s))
        (migrated_form (Some number) two (s.nodes + 1) listed (MultiForm o ds) (with_node s))
    under_along listed o ds s =
        numbered_on (migrated_multi one listed o ds (with_node s)) (migrated_multi two listed o ds (with_node s)) (multi_along listed o ds (with_node s))
      where
        numbered_on : (x y : Result ((Data × Bool) × Met P) FileRefusal) → Alongside (IsFound (s.nodes + 1) (optional_nodes below o ++ row_nodes below ds)) x y
            → Alongside (IsFound s.nodes (false ∷ (optional_nodes below o ++ row_nodes below ds))) x y
        numbered_on (Ok x) y both = record { value = both.value; is = both.is; related = (both.related.0, omega (arith, both.related.1)) }
        numbered_on (Err refusal) y both = both

    form_along : (listed : Bool) (found : Option Form) (s : Met P)
        → Alongside (IsFound s.nodes (form_nodes below found)) (then_walk (walk_or_refuse (BadShape (s.nodes + 1)) found (with_node s)) (migrated_form None one (s.nodes + 1) listed))
        (then_walk (walk_or_refuse (BadShape (s.nodes + 1)) found (with_node s)) (migrated_form (Some number) two (s.nodes + 1) listed))
    form_along listed (Some (RawForm namespace name text retired)) s = raw_along listed namespace name text retired s
    form_along listed (Some (PlugForm name)) s = plug_along listed name s
    form_along listed (Some (MultiForm o ds)) s = under_along listed o ds s
    form_along listed None s = refl

  none_along : (found : Option Form) (nodes : List Bool) (refusal : FileRefusal) (s m : Met P)
      → Alongside (IsFound {A = Data} s.nodes nodes) (then_walk (walk_or_refuse refusal found m) (λ form. walk_or_refuse TooDeep None)) (then_walk (walk_or_refuse refusal found m) (λ form. walk_or_refuse TooDeep None))
  none_along (Some form) nodes refusal s m = refl
  none_along None nodes refusal s m = refl

  pub node_along : (version : Version) (levels : ℕ) → AllAlong (node_nodes version levels) (migrated None version levels) (migrated (Some number) version levels)
  unfolding migrated node_nodes
  node_along version zero d s = none_along (form_of version d) [] (BadShape (s.nodes + 1)) s (with_node s)
  node_along version (suc levels) d s =
      form_along (node_nodes version levels) (migrated None version levels) (migrated (Some number) version levels) (node_along version levels) (lists_children d) (form_of version d) s

-- ---- the whole file

module _ (number : ℕ) where
  retires : (raw found : Bool) (node : Data) → found ≡ raw → RetiresIf number raw (file_with (Some number) node found)
  retires raw found node is = subst (λ b. RetiresIf number b (file_with (Some number) node found)) is (by found)
    where
      by : (found : Bool) → RetiresIf number found (file_with (Some number) node found)
      by true = (version_2_file node, refl)
      by false = refl

  walked_retires : (nodes : List Bool) (one two : Result ((Data × Bool) × Met (Unit {0})) FileRefusal) → Alongside (IsFound number 0 nodes) one two
      → RetiresAs number nodes (file_walked None one) (file_walked (Some number) two)
  walked_retires nodes (Ok x) two both =
      rw both.is (retires (is_raw number nodes) both.value.1 both.value.0 (both.related.0 ∙ raw_number nodes number))
  walked_retires nodes (Err refusal) two both = ap (file_walked (Some number)) both

  ring_retires : (ring : Option (Version × Data)) → RetiresAs number (ring_nodes ring) (ring_migration None ring) (ring_migration (Some number) ring)
  ring_retires (Some (version, node)) =
      walked_retires (node_nodes version 8 node) (migrated None version 8 node (nothing_met {P = Unit {0}} [])) (migrated (Some number) version 8 node (nothing_met {P = Unit {0}} []))
      (node_along number version 8 node (nothing_met {P = Unit {0}} []))
  ring_retires None = refl

  json_retires : (file : Option Data) → RetiresAs number (json_nodes file) (json_migration None file) (json_migration (Some number) file)
  json_retires (Some file) = ring_retires (ring_of file)
  json_retires None = refl

  line_retires : (key : Result WrapKeyValue FileRefusal) → RetiresAs number (true ∷ []) (line_migration None key) (line_migration (Some number) key)
  line_retires (Ok w) =
      retires (is_raw number (true ∷ [])) (is_at 1 (Some number)) (raw_node w.namespace w.name (encode_of standard w.key) (is_at 1 (Some number)))
      (sym (or_false (1 == number)) ∙ raw_number (true ∷ []) number)
  line_retires (Err refusal) = refl

  pub file_retires : (bytes : List ℕ) → RetiresAs number (file_nodes bytes) (migration None bytes) (migration (Some number) bytes)
  unfolding migration file_nodes
  file_retires bytes = either (is_json bytes)
    where
      either : (json : Bool) → RetiresAs number (if json then json_nodes (json_value bytes) else true ∷ [])
          (if json then json_migration None (json_value bytes) else line_migration None (key_line bytes))
          (if json then json_migration (Some number) (json_value bytes) else line_migration (Some number) (key_line bytes))
      either true = json_retires (json_value bytes)
      either false = line_retires (key_line bytes)
