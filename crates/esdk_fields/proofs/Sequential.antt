-- Each way to combine readers gives a sequential reader again.
use Rattle.std.proofs.Common.{◌≡◌, ℕ, zero, suc, ◌+◌, ◌-◌, ◌<◌, ◌≤◌, Bool, true, false, cond, ltb, List, [], ◌∷◌, length, take, drop, Option, Some, None, refl, sym, ap, ◌∙◌, arith, inl, inr}
use Rattle.std.specs.Int.{Width, byte_len}
use Rattle.std.proofs.Math.Dec.{leb}
use Rattle.std.proofs.lemmas.Bool.{cases_lt, le-ltb, lt-ltb, le-leb, lt-leb}
use Rattle.std.proofs.lemmas.List.{take-take, drop-take, drop-drop, length-take}
use Rattle.esdk_fields.specs.declared.faults.Fault.{Fault}
use Rattle.esdk_fields.specs.Place.{Place, past, cut}
use Rattle.esdk_fields.specs.Numbers.{from_big_endian}
use Rattle.esdk_fields.specs.Reading.{Reading, Read, Refused, Wanting, FieldReader, then_read, ◌>>=◌, ◌>>◌, done, field, bytes, number, here, refuse_if, judge, repeat}
use Rattle.esdk_fields.specs.Sequential.{cut_reading, EndsFrom, KeepsRest, IsSequential}

-- ---- what only looks at the offset

pub IsSequential-done : {A : Type 0} (x : A) → IsSequential (done x)
IsSequential-done x = record {
  onward = λ p. omega arith;
  cuts = λ n p h. rw (le-leb p.at n h) refl;
  rest = λ p. let e : p.at - p.at ≡ 0 = omega arith in rw e refl;
}

pub IsSequential-here : IsSequential here
IsSequential-here = record {
  onward = λ p. omega arith;
  cuts = λ n p h. rw (le-leb p.at n h) refl;
  rest = λ p. let e : p.at - p.at ≡ 0 = omega arith in rw e refl;
}

pub IsSequential-refuse_if : (b : Bool) (fault : Fault) → IsSequential (refuse_if b fault)
IsSequential-refuse_if true fault = record {
  onward = λ p. omega arith;
  cuts = λ n p h. rw (le-leb p.at n h) refl;
  rest = λ p. tt;
}
IsSequential-refuse_if false fault = record {
  onward = λ p. omega arith;
  cuts = λ n p h. rw (le-leb p.at n h) refl;
  rest = λ p. let e : p.at - p.at ≡ 0 = omega arith in rw e refl;
}

pub IsSequential-judge : (o : Option Fault) → IsSequential (judge o)
IsSequential-judge (Some fault) = record {
  onward = λ p. omega arith;
  cuts = λ n p h. rw (le-leb p.at n h) refl;
  rest = λ p. tt;
}
IsSequential-judge None = record {
  onward = λ p. omega arith;
  cuts = λ n p h. rw (le-leb p.at n h) refl;
  rest = λ p. let e : p.at - p.at ≡ 0 = omega arith in rw e refl;
}

-- ---- a field

field-onward : {A : Type 0} (b : Bool) (x : A) (n : ℕ) (p : Place) → EndsFrom p.at (cond b Wanting (Read x (past n p)))
field-onward true x n p = tt
field-onward false x n p = omega arith

field-rest : {A : Type 0} (b : Bool) (x : A) (n : ℕ) (p : Place) → KeepsRest p (cond b Wanting (Read x (past n p)))
field-rest true x n p = tt
field-rest false x n p = let e : (p.at + n) - p.at ≡ n = omega arith in rw e refl

-- what was cut off lies behind the field
field-whole : {A : Type 0} (means : List ℕ → A) (k n : ℕ) (p : Place) → p.at + k ≤ n → k ≤ length p.left
    → Read (means (take k (take (n - p.at) p.left))) (past k (cut n p)) ≡ Read (means (take k p.left)) (cut n (past k p))
field-whole means k n p inside long =
    let m : k ≤ n - p.at = omega arith in
    let split : n - p.at ≡ k + (n - (p.at + k)) = omega arith in
    let rest : drop k (take (n - p.at) p.left) ≡ take (n - (p.at + k)) (drop k p.left) = rw split (drop-take k (n - (p.at + k)) p.left) in
    rw (take-take k (n - p.at) p.left m, rest) refl

field-cuts : {A : Type 0} (means : List ℕ → A) (k n : ℕ) (p : Place) → p.at ≤ n → field means k (cut n p) ≡ cut_reading n (field means k p)
field-cuts means k n p h =
    let seen : length (take (n - p.at) p.left) ≤ length p.left = omega (arith, length-take (n - p.at) p.left) in
    elim (cases_lt (length p.left) k) [
      | inl short ↦ rw (lt-ltb (length p.left) k short, lt-ltb (length (take (n - p.at) p.left)) k (omega arith)) refl
      | inr long ↦ elim (cases_lt n (p.at + k)) [
        | inl before ↦ rw (le-ltb (length p.left) k long, lt-leb (p.at + k) n before, lt-ltb (length (take (n - p.at) p.left)) k (omega (arith, length-take (n - p.at) p.left))) refl
        | inr inside ↦ rw (le-ltb (length p.left) k long, le-leb (p.at + k) n inside, le-ltb (length (take (n - p.at) p.left)) k (omega (arith, length-take (n - p.at) p.left))) (field-whole means k n p inside long)
      ]
    ]

pub IsSequential-field : {A : Type 0} (means : List ℕ → A) (n : ℕ) → IsSequential (field means n)
IsSequential-field means n = record {
  onward = λ p. field-onward (ltb (length p.left) n) (means (take n p.left)) n p;
  cuts = field-cuts means n;
  rest = λ p. field-rest (ltb (length p.left) n) (means (take n p.left)) n p;
}

pub IsSequential-bytes : (n : ℕ) → IsSequential (bytes n)
IsSequential-bytes n = IsSequential-field (λ b. b) n

pub IsSequential-number : (w : Width) → IsSequential (number w)
IsSequential-number w = IsSequential-field (from_big_endian w) (byte_len w)

-- ---- one after the other

EndsFrom-earlier : {A : Type 0} (at from : ℕ) (r : Reading A) → at ≤ from → EndsFrom from r → EndsFrom at r
EndsFrom-earlier at from (Read x next) h e = omega arith
EndsFrom-earlier at from (Refused fault end) h e = omega arith
EndsFrom-earlier at from Wanting h e = tt

-- what ends behind the cut isn't known
pub cut_reading-late : {A : Type 0} (n at : ℕ) (r : Reading A) → n < at → EndsFrom at r → cut_reading n r ≡ Wanting
cut_reading-late n at (Read x next) h e = rw (lt-leb next.at n (omega arith)) refl
cut_reading-late n at (Refused fault end) h e = rw (lt-leb end n (omega arith)) refl
cut_reading-late n at Wanting h e = refl

then-onward : {A B : Type 0} (r : Reading A) (f : A → FieldReader B) (at : ℕ) → EndsFrom at r → ((x : A) → IsSequential (f x)) → EndsFrom at (then_read r f)
then-onward (Read x next) f at e s = EndsFrom-earlier at next.at (f x next) e ((s x).onward next)
then-onward (Refused fault end) f at e s = e
then-onward Wanting f at e s = tt

then-refused : {B A : Type 0} (b : Bool) (fault : Fault) (at : ℕ) (f : A → FieldReader B) → then_read (cond b (Refused fault at) Wanting) f ≡ cond b (Refused fault at) Wanting
then-refused true fault at f = refl
then-refused false fault at f = refl

then-cuts : {A B : Type 0} (r : Reading A) (f : A → FieldReader B) (n : ℕ) → ((x : A) → IsSequential (f x)) → then_read (cut_reading n r) f ≡ cut_reading n (then_read r f)
then-cuts (Read x next) f n s =
    elim (cases_lt n next.at) [
      | inl before ↦ rw (lt-leb next.at n before) (sym (cut_reading-late n next.at (f x next) before ((s x).onward next)))
      | inr inside ↦ rw (le-leb next.at n inside) ((s x).cuts n next inside)
    ]
then-cuts (Refused fault at) f n s = then-refused (leb at n) fault at f
then-cuts Wanting f n s = refl

KeepsRest-later : {A : Type 0} (p next : Place) (r : Reading A) → p.at ≤ next.at → next.left ≡ drop (next.at - p.at) p.left → EndsFrom next.at r → KeepsRest next r → KeepsRest p r
KeepsRest-later p next (Read x end) h left e k =
    let sum : (next.at - p.at) + (end.at - next.at) ≡ end.at - p.at = omega arith in
    k ∙ ap (drop (end.at - next.at)) left ∙ drop-drop (end.at - next.at) (next.at - p.at) p.left ∙ ap (λ (n : ℕ). drop n p.left) sum
KeepsRest-later p next (Refused fault at) h left e k = tt
KeepsRest-later p next Wanting h left e k = tt

then-rest : {A B : Type 0} (r : Reading A) (f : A → FieldReader B) (p : Place) → EndsFrom p.at r → KeepsRest p r → ((x : A) → IsSequential (f x)) → KeepsRest p (then_read r f)
then-rest (Read x next) f p e k s = KeepsRest-later p next (f x next) e k ((s x).onward next) ((s x).rest next)
then-rest (Refused fault at) f p e k s = tt
then-rest Wanting f p e k s = tt

pub IsSequential-bind : {A B : Type 0} (m : FieldReader A) (f : A → FieldReader B) → IsSequential m → ((x : A) → IsSequential (f x)) → IsSequential (m >>= f)
IsSequential-bind m f first others = record {
  onward = λ p. then-onward (m p) f p.at (first.onward p) others;
  cuts = λ n p h. ap (λ r. then_read r f) (first.cuts n p h) ∙ then-cuts (m p) f n others;
  rest = λ p. then-rest (m p) f p (first.onward p) (first.rest p) others;
}

pub IsSequential-then : {A B : Type 0} (m : FieldReader A) (k : FieldReader B) → IsSequential m → IsSequential k → IsSequential (m >> k)
IsSequential-then m k first second = IsSequential-bind m (λ _. k) first (λ _. second)

-- ---- a choice of readers, and a count of them

pub IsSequential-if : {A : Type 0} (b : Bool) (m k : FieldReader A) → IsSequential m → IsSequential k → IsSequential (cond b m k)
IsSequential-if true m k first second = first
IsSequential-if false m k first second = second

pub IsSequential-repeat : {A : Type 0} (m : FieldReader A) → IsSequential m → (n : ℕ) → IsSequential (repeat m n)
unfolding repeat
IsSequential-repeat m each zero = IsSequential-done []
IsSequential-repeat m each (suc n) =
    IsSequential-bind m (λ first. repeat m n >>= λ others. done (first ∷ others)) each
    (λ first. IsSequential-bind (repeat m n) (λ others. done (first ∷ others)) (IsSequential-repeat m each n) (λ others. IsSequential-done (first ∷ others)))
