-- What stands in the bytes, where pair and count were read.
use Rattle.std.proofs.Common.{◌≡◌, ℕ, zero, suc, Bool, true, false, cond, eqb, List, [], ◌∷◌, ◌++◌, length, Some, None, refl, sym, ap, subst, ◌∙◌, arith, inl, inr}
use Rattle.std.specs.List.{flat_map}
use Rattle.std.specs.Int.{w16}
use Rattle.std.proofs.lemmas.Bool.{eqb-true}
use Rattle.std.proofs.lemmas.List.{append-nil, nil_from_length}
use Rattle.std.proofs.lemmas.List.Concat.{flat_map-cons}
use Rattle.esdk_fields.specs.Bytes.{AreBytes}
use Rattle.esdk_fields.specs.Place.{Place, start}
use Rattle.esdk_fields.specs.Numbers.{to_big_endian}
use Rattle.esdk_fields.specs.Reading.{Reading, Read, Refused, Wanting, ◌>>=◌, done, number, repeat}
use Rattle.esdk_fields.specs.Sized.{sized, sized_bytes}
use Rattle.esdk_fields.proofs.Inverse.{read_same, then_is_read}
use Rattle.esdk_fields.proofs.Taken.{IsTaken, IsTaken-then, number16_taken}
use Rattle.esdk_fields.proofs.Sized.{sized_taken}
use Rattle.context_codec.specs.Context.{KeyValue, pair_text, pairs_text}
use Rattle.context_codec.specs.Split.{pair, counted_pairs, whole, split}
use Rattle.context_codec.specs.Spelling.{IsSpelling}

pair_taken : (p : Place) (x : KeyValue) (next : Place) → AreBytes p.left → pair p ≡ Read x next → IsTaken p (pair_text x) next
unfolding pair pair_text
pair_taken p x next fits e =
    let a = then_is_read (sized_bytes p) (λ key. sized_bytes >>= λ value. done (key, value)) x next e in
    let b = then_is_read (sized_bytes a.next) (λ value. done (a.value, value)) x next a.second in
    let first = sized_taken p a.value a.next fits a.first in
    let second = sized_taken a.next b.value b.next first.0.rest b.first in
    let same = read_same (a.value, b.value) x b.next next b.second in
    let both = IsTaken-then p (sized a.value) a.next (sized b.value) b.next first.0 second.0 in
    subst (λ (q : Place). IsTaken p (sized x.0 ++ sized x.1) q) same.1 (subst (λ (y : KeyValue). IsTaken p (sized y.0 ++ sized y.1) b.next) same.0 both)

repeat_taken : (n : ℕ) (p : Place) (xs : List KeyValue) (next : Place) → AreBytes p.left → repeat pair n p ≡ Read xs next → IsTaken p (flat_map pair_text xs) next × (length xs ≡ n)
unfolding repeat
repeat_taken zero p xs next fits e =
    let same = read_same [] xs p next e in
    let none : IsTaken p [] p = record { front = refl; end = omega arith; rest = fits } in
    subst (λ (q : Place). IsTaken p (flat_map pair_text xs) q × (length xs ≡ 0)) same.1
    (subst (λ (ys : List KeyValue). IsTaken p (flat_map pair_text ys) p × (length ys ≡ 0)) same.0 (none, refl))
repeat_taken (suc n) p xs next fits e =
    let a = then_is_read (pair p) (λ first. repeat pair n >>= λ others. done (first ∷ others)) xs next e in
    let b = then_is_read (repeat pair n a.next) (λ others. done (a.value ∷ others)) xs next a.second in
    let first = pair_taken p a.value a.next fits a.first in
    let second = repeat_taken n a.next b.value b.next first.rest b.first in
    let same = read_same (a.value ∷ b.value) xs b.next next b.second in
    let both = IsTaken-then p (pair_text a.value) a.next (flat_map pair_text b.value) b.next first second.0 in
    let made : IsTaken p (flat_map pair_text (a.value ∷ b.value)) b.next × (length (a.value ∷ b.value) ≡ suc n) = (rw flat_map-cons both, ap suc second.1) in
    subst (λ (q : Place). IsTaken p (flat_map pair_text xs) q × (length xs ≡ suc n)) same.1
    (subst (λ (ys : List KeyValue). IsTaken p (flat_map pair_text ys) b.next × (length ys ≡ suc n)) same.0 made)

counted_taken : (p : Place) (xs : List KeyValue) (next : Place) → AreBytes p.left → counted_pairs p ≡ Read xs next → IsTaken p (pairs_text xs) next
unfolding counted_pairs pairs_text
counted_taken p xs next fits e =
    let t = then_is_read (number w16 p) (repeat pair) xs next e in
    let first = number16_taken p t.value t.next fits t.first in
    let second = repeat_taken t.value t.next xs next first.0.rest t.second in
    subst (λ (k : ℕ). IsTaken p (to_big_endian w16 k ++ flat_map pair_text xs) next) (sym second.1) (IsTaken-then p (to_big_endian w16 t.value) t.next (flat_map pair_text xs) next first.0 second.0)

-- all of the bytes were read
pub record WholeRead {A : Type 0} (r : Reading A) (x : A) : Type 0 where
  pub next : Place
  pub is : r ≡ Read x next
  pub none : next.left ≡ []

test_some : {A : Type 0} (b : Bool) (x y : A) → cond b (Some x) None ≡ Some y → (b ≡ true) × (x ≡ y)
test_some true x y e = (refl, cc)
test_some false x y e = absurd cc

whole_read : {A : Type 0} (r : Reading A) (x : A) → whole r ≡ Some x → WholeRead r x
whole_read (Read y next) x e =
    let parts = test_some (eqb (length next.left) 0) y x e in
    record { next = next; is = ap (λ z. Read z next) parts.1; none = nil_from_length next.left (eqb-true _ _ parts.0) }
whole_read (Refused fault at) x e = absurd cc
whole_read Wanting x e = absurd cc

-- What is split is the count and the pairs one after another, or no bytes at all.
pub split_spelled : (b : List ℕ) (xs : List KeyValue) → AreBytes b → split b ≡ Some xs → IsSpelling b xs
unfolding split
split_spelled [] xs fits e = inr (refl, cc)
split_spelled (b ∷ bs) xs fits e =
    let w = whole_read (counted_pairs (start (b ∷ bs))) xs e in
    let t = counted_taken (start (b ∷ bs)) xs w.next fits w.is in
    inl (t.front ∙ ap (λ (x : List ℕ). pairs_text xs ++ x) w.none ∙ append-nil (pairs_text xs))
