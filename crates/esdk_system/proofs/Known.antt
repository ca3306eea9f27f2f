-- Files that are known, by their keys in a set.
use Rattle.std.proofs.Common.{◌≡◌, ◌⊎◌, ℕ, Bool, true, false, cond, refl, sym, ap, ◌∙◌, inl, inr, Contains, IsTrue, ◌↔◌, nat_cmp}
use Rattle.std.specs.declared.cmp.Ordering.{Ordering}
use Rattle.std.specs.declared.cmp.Ordering.TheVariants.{Less, Equal, Greater}
use Rattle.std.specs.BTreeSet.{BTreeSet, contains, Updates}
use Rattle.std.specs.Ordering.{ordering_then, is_eq}
use Rattle.std.specs.Cmp.{IsTotalOrder}
use Rattle.std.proofs.lemmas.Bool.{false≢true}
use Rattle.std.proofs.lemmas.Cmp.{nat_cmp_total, on_total, then_total, tied_itself}
use Rattle.std.proofs.lemmas.Map.Lookups.{CmpEqualImpliesEq, exact_pairs, exact_unsigned}
use Rattle.std.proofs.lemmas.Map.Views.{btree_set_contains_iff}
use Rattle.esdk_system.specs.declared.identity.Identity.{Identity}

-- the order of the keys
abbrev key_cmp : ℕ × ℕ → ℕ × ℕ → Ordering
key_cmp x y = ordering_then (nat_cmp x.0 y.0) (nat_cmp x.1 y.1)

abbrev key : Identity → ℕ × ℕ
key file = (file.device, file.inode)

ordered : IsTotalOrder key_cmp
ordered = then_total (on_total (λ (x : ℕ × ℕ). x.0) nat_cmp_total) (on_total (λ (x : ℕ × ℕ). x.1) nat_cmp_total)

exact : CmpEqualImpliesEq key_cmp
exact = exact_pairs nat_cmp nat_cmp exact_unsigned exact_unsigned

-- the set has the key exactly if it is among the keys
has_key : (files : BTreeSet (ℕ × ℕ)) (file : Identity) → IsTrue (contains key_cmp files (key file)) ↔ Contains files.keys (key file)
has_key files file = btree_set_contains_iff ordered exact files (key file)

-- what a look-up answers
pub looked_up : (files : BTreeSet (ℕ × ℕ)) (file : Identity) (found : Bool) → found ≡ contains key_cmp files (key file) → IsTrue found ↔ Contains files.keys (key file)
looked_up files file found is = (λ there. (has_key files file).0 (sym is ∙ there), λ among. is ∙ (has_key files file).1 among)

equal_of : (order : Ordering) → is_eq order ≡ true → order ≡ Equal
equal_of Less e = absurd (false≢true e)
equal_of Equal e = refl
equal_of Greater e = absurd (false≢true e)

same_file : (file other : Identity) → is_eq (key_cmp (key file) (key other)) ≡ true → other ≡ file
same_file file other e = ap (λ (k : ℕ × ℕ). record { device = k.0; inode = k.1 }) (sym (exact (key file) (key other) (equal_of _ e)))

itself : (file : Identity) → is_eq (key_cmp (key file) (key file)) ≡ true
itself file = ap is_eq (tied_itself ordered (key file))

-- with one file more in the set, that one and those before are known
pub known_after : (old new : BTreeSet (ℕ × ℕ)) (file : Identity) → Updates key_cmp old new (key file) true → (other : Identity)
    → Contains new.keys (key other) ↔ (Contains old.keys (key other) ⊎ (other ≡ file))
known_after old new file updates other = (fore, back)
  where
    is_there : (same : Bool) → is_eq (key_cmp (key file) (key other)) ≡ same → cond same true (contains key_cmp old (key other)) ≡ true → Contains old.keys (key other) ⊎ (other ≡ file)
    is_there true e h = inr (same_file file other e)
    is_there false e h = inl ((has_key old other).0 h)

    fore : Contains new.keys (key other) → Contains old.keys (key other) ⊎ (other ≡ file)
    fore h = is_there (is_eq (key_cmp (key file) (key other))) refl (sym (updates.0 (key other)) ∙ (has_key new other).1 h)

    stays : (same : Bool) → contains key_cmp old (key other) ≡ true → cond same true (contains key_cmp old (key other)) ≡ true
    stays true e = refl
    stays false e = e

    back : Contains old.keys (key other) ⊎ (other ≡ file) → Contains new.keys (key other)
    back (inl h) = (has_key new other).0 (updates.0 (key other) ∙ stays _ ((has_key old other).1 h))
    back (inr e) =
        (has_key new other).0 (updates.0 (key other) ∙ ap (λ (one : Identity). cond (is_eq (key_cmp (key file) (key one))) true (contains key_cmp old (key other))) e
        ∙ ap (λ same. cond same true (contains key_cmp old (key other))) (itself file))
