-- The rows of a memory shelf as maps from their names.
use Rattle.std.proofs.Common.{◌≡◌, ◌∙◌, ℕ, ◌<◌, List, [], ◌∷◌, ◌++◌, Bool, true, false, cond, length, get_or, set, refl, sym, ap, subst, arith}
use Rattle.std.specs.Prelude.{bytes_eq}
use Rattle.std.specs.declared.option.Option.{Option}
use Rattle.std.specs.declared.option.Option.TheVariants.{None, Some}
use Rattle.std.specs.Option.{option_and_then, option_or}
use Rattle.std.specs.Cmp.Lexicographic.{slice_cmp, nat_list_cmp_total, texts_ties, bytes_decides}
use Rattle.std.specs.List.{find, slice_get}
use Rattle.std.specs.Ordering.{nat_cmp}
use Rattle.std.specs.FinMap.{get, get-empty, get-insert, get-remove, same_map}
use Rattle.std.proofs.lemmas.Map.Lookups.{exact_bytes}
use Rattle.std.proofs.lemmas.List.Folds.{find-set, find_past, find-append, find_at}
use Rattle.std.proofs.lemmas.List.Sums.{passes_at_first}
use Rattle.std.proofs.lemmas.Option.{slice_get-get_or, slice_get_past}
use Rattle.esdk_memory.specs.MemFile.{MemFileState}
use Rattle.esdk_memory.specs.MemFiles.{ByName, is_named, place_of, with_value, map_of_rows}

-- the first row of a name has that name
pub named_there : (name : List ℕ) (rows : List MemFileState) (i : ℕ) (d : MemFileState) → i ≡ place_of name rows → i < length rows → (get_or rows i d).name ≡ name
named_there name rows i d first inside =
    let passes : is_named name (get_or rows i d) ≡ true = subst (λ k. is_named name (get_or rows k d) ≡ true) (sym first) (passes_at_first (is_named name) rows d (subst (λ k. k < length rows) first inside)) in
    sym ((bytes_decides name _).0 passes)

changed_by : (b : Bool) (q name : List ℕ) (rows : List MemFileState) (i : ℕ) (row : MemFileState) → bytes_eq q name ≡ b → i ≡ place_of name rows → i < length rows → row.name ≡ name → find (is_named q) (set rows i row) ≡ cond b (Some row) (find (is_named q) rows)
changed_by true q name rows i row e first inside kept =
    let same : q ≡ name = (bytes_decides q name).0 e in
    find-set (is_named q) rows i row (subst (λ n. i ≡ place_of n rows) (sym same) first) inside (ap (bytes_eq q) kept ∙ e)
changed_by false q name rows i row e first inside kept =
    find_past (is_named q) rows i row row (ap (bytes_eq q) (named_there name rows i row first inside) ∙ e) (ap (bytes_eq q) kept ∙ e)

-- a row that is changed, of a name that it keeps
find_changed : (q name : List ℕ) (rows : List MemFileState) (i : ℕ) (row : MemFileState) → i ≡ place_of name rows → i < length rows → row.name ≡ name → find (is_named q) (set rows i row) ≡ cond (bytes_eq q name) (Some row) (find (is_named q) rows)
find_changed q name rows i row = changed_by (bytes_eq q name) q name rows i row refl

-- a name of no row
find_none : (name : List ℕ) (rows : List MemFileState) → place_of name rows ≡ length rows → find (is_named name) rows ≡ None
find_none name rows absent = find_at (is_named name) rows ∙ slice_get_past rows _ (omega arith)

pushed_by : (b : Bool) (q : List ℕ) (rows : List MemFileState) (row : MemFileState) → bytes_eq q row.name ≡ b → place_of row.name rows ≡ length rows → option_or (find (is_named q) rows) (cond b (Some row) None) ≡ cond b (Some row) (find (is_named q) rows)
pushed_by true q rows row e new =
    let absent : find (is_named q) rows ≡ None = subst (λ n. find (is_named n) rows ≡ None) (sym ((bytes_decides q row.name).0 e)) (find_none row.name rows new) in
    ap (λ o. option_or o (Some row)) absent
pushed_by false q rows row e new = elim (find (is_named q) rows) as (λ o. option_or o None ≡ o) [ None ↦ refl | Some x ↦ refl ]

-- a row that is pushed, of a name that is new
find_pushed : (q : List ℕ) (rows : List MemFileState) (row : MemFileState) → place_of row.name rows ≡ length rows → find (is_named q) (rows ++ row ∷ []) ≡ cond (bytes_eq q row.name) (Some row) (find (is_named q) rows)
find_pushed q rows row new = find-append (is_named q) rows (row ∷ []) ∙ pushed_by (bytes_eq q row.name) q rows row refl new

module _ {V : Type 0} where
  -- maps that answer alike are equal
  same_values : (m n : ByName V) → ((q : List ℕ) → get m q ≡ get n q) → m ≡ n
  same_values m n alike = same_map nat_list_cmp_total exact_bytes m n alike

  pub get-with_value : (m : ByName V) (k : List ℕ) (v : Option V) (q : List ℕ) → get (with_value m k v) q ≡ cond (bytes_eq q k) v (get m q)
  get-with_value m k None q = get-remove nat_list_cmp_total m k q ∙ ap (λ b. cond b None (get m q)) (sym (texts_ties q k))
  get-with_value m k (Some v) q = get-insert nat_list_cmp_total m k v q ∙ ap (λ b. cond b (Some v) (get m q)) (sym (texts_ties q k))

  picked : (f : MemFileState → Option V) (b : Bool) (row : MemFileState) (rest : Option MemFileState) → cond b (f row) (option_and_then f rest) ≡ option_and_then f (cond b (Some row) rest)
  picked f true row rest = refl
  picked f false row rest = refl

  -- the map of the rows gives what the first row of a name has
  get-values_of : (f : MemFileState → Option V) (rows : List MemFileState) (q : List ℕ) → get (map_of_rows f rows) q ≡ option_and_then f (find (is_named q) rows)
  unfolding map_of_rows
  get-values_of f [] q = get-empty (slice_cmp nat_cmp) q
  get-values_of f (row ∷ rows) q =
      get-with_value (map_of_rows f rows) row.name (f row) q
      ∙ ap (cond (bytes_eq q row.name) (f row)) (get-values_of f rows q)
      ∙ picked f (bytes_eq q row.name) row (find (is_named q) rows)

  -- rows of which one name's first row is this, and the others stay
  one_value : (f : MemFileState → Option V) (rows others : List MemFileState) (name : List ℕ) (row : MemFileState) → ((q : List ℕ) → find (is_named q) rows ≡ cond (bytes_eq q name) (Some row) (find (is_named q) others)) → map_of_rows f rows ≡ with_value (map_of_rows f others) name (f row)
  one_value f rows others name row finds =
      same_values _ _ (λ q.
      get-values_of f rows q
      ∙ ap (option_and_then f) (finds q)
      ∙ sym (picked f (bytes_eq q name) row (find (is_named q) others))
      ∙ ap (cond (bytes_eq q name) (f row)) (sym (get-values_of f others q))
      ∙ sym (get-with_value (map_of_rows f others) name (f row) q))

  -- a row that is changed, of a name that it keeps
  pub values_of-set : (f : MemFileState → Option V) (rows : List MemFileState) (name : List ℕ) (i : ℕ) (row : MemFileState) → i ≡ place_of name rows → i < length rows → row.name ≡ name → map_of_rows f (set rows i row) ≡ with_value (map_of_rows f rows) name (f row)
  values_of-set f rows name i row first inside kept = one_value f (set rows i row) rows name row (λ q. find_changed q name rows i row first inside kept)

  -- a row that is pushed, of a name that is new
  pub values_of_push : (f : MemFileState → Option V) (rows : List MemFileState) (row : MemFileState) → place_of row.name rows ≡ length rows → map_of_rows f (rows ++ row ∷ []) ≡ with_value (map_of_rows f rows) row.name (f row)
  values_of_push f rows row new = one_value f (rows ++ row ∷ []) rows row.name row (λ q. find_pushed q rows row new)

  -- what the map gives at the first row of a name
  pub get-values_of_at : (f : MemFileState → Option V) (rows : List MemFileState) (name : List ℕ) (i : ℕ) (d : MemFileState) → i ≡ place_of name rows → i < length rows → get (map_of_rows f rows) name ≡ f (get_or rows i d)
  get-values_of_at f rows name i d first inside =
      get-values_of f rows name
      ∙ ap (option_and_then f) (find_at (is_named name) rows ∙ ap (slice_get rows) (sym first) ∙ slice_get-get_or rows i d inside)

  -- and at a name of no row
  pub get-values_of_none : (f : MemFileState → Option V) (rows : List MemFileState) (name : List ℕ) → place_of name rows ≡ length rows → get (map_of_rows f rows) name ≡ None
  get-values_of_none f rows name absent = get-values_of f rows name ∙ ap (option_and_then f) (find_none name rows absent)

  kept_by : (m : ByName V) (k : List ℕ) (v : Option V) (q : List ℕ) (b : Bool) → bytes_eq q k ≡ b → get m k ≡ v → cond b v (get m q) ≡ get m q
  kept_by m k v q true e same = sym same ∙ ap (get m) (sym ((bytes_decides q k).0 e))
  kept_by m k v q false e same = refl

  -- to give a name what it has changes nothing
  pub with_value_same : (m : ByName V) (k : List ℕ) (v : Option V) → get m k ≡ v → with_value m k v ≡ m
  with_value_same m k v same = same_values _ _ (λ q. get-with_value m k v q ∙ kept_by m k v q (bytes_eq q k) refl same)

  shadowed : (b : Bool) (v w o : Option V) → cond b w (cond b v o) ≡ cond b w o
  shadowed true v w o = refl
  shadowed false v w o = refl

  -- what a name was given before is forgotten
  pub with_value_again : (m : ByName V) (k : List ℕ) (v w : Option V) → with_value (with_value m k v) k w ≡ with_value m k w
  with_value_again m k v w =
      same_values _ _ (λ q.
      get-with_value (with_value m k v) k w q
      ∙ ap (cond (bytes_eq q k) w) (get-with_value m k v q)
      ∙ shadowed (bytes_eq q k) v w (get m q)
      ∙ sym (get-with_value m k w q))

  -- what a name was given it has
  pub get-with_value_same : (m : ByName V) (k : List ℕ) (v : Option V) → get (with_value m k v) k ≡ v
  get-with_value_same m k v = get-with_value m k v k ∙ ap (λ b. cond b v (get m k)) ((bytes_decides k k).1 refl)
