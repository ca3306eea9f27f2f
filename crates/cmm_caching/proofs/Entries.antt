-- Entries under names: what is found, what moves to the front, and what `lru` makes of it.
use Rattle.std.proofs.Common.{◌≡◌, ℕ, zero, suc, ◌-◌, Bool, true, false, cond, List, [], ◌∷◌, take, Option, Some, None, option_map, refl, sym, subst}
use Rattle.std.specs.List.{AllByRecursion}
use Rattle.std.specs.Map.{lookup, lookup_entry, remove_entry, set_value}
use Rattle.std.specs.Option.{option_map_or}
use Rattle.lru.specs.LruCache.{LruCache, promoted, put_entries}
use Rattle.lru.proofs.CallerLemmas.{Contains-lookup_entry}
use Rattle.cmm_caching.specs.Names.{NameValue, name_eq}
use Rattle.cmm_caching.specs.NameLaws.{name_same}
use Rattle.cmm_caching.specs.Ask.{moved, put_first}

-- ---- what holds of all

module _ {X : Type 0} where
  pub all_weaker : (P Q : X → Type 0) → ((x : X) → P x → Q x) → (xs : List X) → AllByRecursion P xs → AllByRecursion Q xs
  all_weaker P Q f [] h = tt
  all_weaker P Q f (x ∷ xs) h = (f x h.0, all_weaker P Q f xs h.1)

  pub all_from : (P : X → Type 0) → ((x : X) → P x) → (xs : List X) → AllByRecursion P xs
  all_from P f [] = tt
  all_from P f (x ∷ xs) = (f x, all_from P f xs)

  pub all_take : (P : X → Type 0) (n : ℕ) (xs : List X) → AllByRecursion P xs → AllByRecursion P (take n xs)
  all_take P zero xs h = tt
  all_take P (suc n) [] h = tt
  all_take P (suc n) (x ∷ xs) h = (h.0, all_take P n xs h.1)

module _ {X : Type 0} (P : NameValue × X → Type 0) (name : NameValue) where
  pub all_removed : (es : List (NameValue × X)) → AllByRecursion P es → AllByRecursion P (remove_entry (name_eq name) es)
  all_removed [] h = tt
  all_removed (e ∷ es) h = by_test (name_eq name e.0) (all_removed es h.1)
    where
      by_test : (b : Bool) → AllByRecursion P (remove_entry (name_eq name) es) → AllByRecursion P (cond b es (e ∷ remove_entry (name_eq name) es))
      by_test true rest = h.1
      by_test false rest = (h.0, rest)

  -- what is found under the name is an entry of that very name
  pub all_found : (es : List (NameValue × X)) (x : X) → AllByRecursion P es → lookup (name_eq name) es ≡ Some x → P (name, x)
  all_found [] x h e = absurd cc
  all_found (f ∷ es) x h e = by_test (name_eq name f.0) refl e (all_found es x h.1)
    where
      by_test : (b : Bool) → name_eq name f.0 ≡ b → cond b (Some f.1) (lookup (name_eq name) es) ≡ Some x
          → (lookup (name_eq name) es ≡ Some x → P (name, x)) → P (name, x)
      by_test true same e' rest =
          let value : f.1 ≡ x = cc in
          let key : f.0 ≡ name = sym (name_same name f.0 same) in
          subst P (λ i. (key i, value i)) h.0
      by_test false other e' rest = rest e'

  pub all_moved : (x : X) (es : List (NameValue × X)) → P (name, x) → AllByRecursion P es → AllByRecursion P (moved name x es)
  all_moved x es p h = (p, all_removed es h)

  pub all_put : (capacity : ℕ) (x : X) (es : List (NameValue × X)) → P (name, x) → AllByRecursion P es → AllByRecursion P (put_first capacity name x es)
  all_put capacity x es p h = by_found (lookup (name_eq name) es)
    where
      by_found : (o : Option X) → AllByRecursion P (option_map_or (λ _. moved name x es) o ((name, x) ∷ take (capacity - 1) es))
      by_found None = (p, all_take P (capacity - 1) es h)
      by_found (Some y) = all_moved x es p h

-- ---- what `lru` makes of the entries

module _ {X : Type 0} (name : NameValue) where
  lookup_of : (es : List (NameValue × X)) → lookup (name_eq name) es ≡ option_map (λ e. e.1) (lookup_entry (name_eq name) es)
  lookup_of [] = refl
  lookup_of (e ∷ es) = by_test (name_eq name e.0) (lookup_of es)
    where
      by_test : (b : Bool) → lookup (name_eq name) es ≡ option_map (λ f. f.1) (lookup_entry (name_eq name) es)
          → cond b (Some e.1) (lookup (name_eq name) es) ≡ option_map (λ f. f.1) (cond b (Some e) (lookup_entry (name_eq name) es))
      by_test true rest = refl
      by_test false rest = rest

  named_so : (es : List (NameValue × X)) (e : NameValue × X) → lookup_entry (name_eq name) es ≡ Some e → e.0 ≡ name
  named_so es e h = sym (name_same name e.0 (Contains-lookup_entry (name_eq name) es e h).1)

  -- what is put stands first
  pub put_is : (c : LruCache NameValue X) (x : X) → put_entries name_eq c name x ≡ put_first c.cap name x c.entries
  put_is c x = by_entry (lookup_entry (name_eq name) c.entries) refl (lookup (name_eq name) c.entries) (lookup_of c.entries)
    where
      by_entry : (o : Option (NameValue × X)) → lookup_entry (name_eq name) c.entries ≡ o → (v : Option X) → v ≡ option_map (λ e. e.1) (lookup_entry (name_eq name) c.entries)
          → option_map_or (λ e. (e.0, x) ∷ remove_entry (name_eq name) c.entries) o ((name, x) ∷ take (c.cap - 1) c.entries)
          ≡ option_map_or (λ _. moved name x c.entries) v ((name, x) ∷ take (c.cap - 1) c.entries)
      by_entry None is v vs = let none : v ≡ None = rw is at vs in rw none refl
      by_entry (Some e) is v vs =
          let some : v ≡ Some e.1 = rw is at vs in
          let key : e.0 ≡ name = named_so c.entries e is in
          rw some (λ i. (key i, x) ∷ remove_entry (name_eq name) c.entries)

  -- what is found, goes to the front and is written there stands first
  pub set_is : (es : List (NameValue × X)) (k x : X) → lookup (name_eq name) es ≡ Some k → set_value (name_eq name) (promoted (name_eq name) es) x ≡ moved name x es
  set_is es k x found = by_entry (lookup_entry (name_eq name) es) refl
    where
      by_entry : (o : Option (NameValue × X)) → lookup_entry (name_eq name) es ≡ o
          → set_value (name_eq name) (option_map_or (λ e. e ∷ remove_entry (name_eq name) es) o es) x ≡ moved name x es
      by_entry None is = let e : lookup (name_eq name) es ≡ option_map (λ e. e.1) (lookup_entry (name_eq name) es) = lookup_of es in
          let none : lookup (name_eq name) es ≡ None = rw is at e in absurd cc
      by_entry (Some e) is =
          let same : name_eq name e.0 ≡ true = (Contains-lookup_entry (name_eq name) es e is).1 in
          let key : e.0 ≡ name = named_so es e is in
          rw same (λ i. (key i, x) ∷ remove_entry (name_eq name) es)
