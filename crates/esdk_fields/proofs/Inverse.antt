-- What stood there, where a reader read a value, refused or wanted more.
use Rattle.std.proofs.Common.{◌≡◌, ℕ, ◌≤◌, Bool, true, false, cond, ltb, List, length, take, Option, Some, None, refl, inl, inr, ◌⊎◌}
use Rattle.std.specs.Int.{w16, w32, w64}
use Rattle.std.proofs.lemmas.Bool.{ltb-false}
use Rattle.std.proofs.lemmas.Nat.{be_bytes_2, be_bytes_4, be_bytes_8}
use Rattle.esdk_fields.specs.declared.faults.Fault.{Fault}
use Rattle.esdk_fields.specs.Bytes.{AreBytes}
use Rattle.esdk_fields.specs.Place.{Place, past}
use Rattle.esdk_fields.specs.Numbers.{from_big_endian, to_big_endian}
use Rattle.esdk_fields.specs.Reading.{Reading, Read, Refused, Wanting, FieldReader, then_read, field, refuse_if, judge}
use Rattle.esdk_fields.proofs.Bytes.{byte_at}

pub read_same : {A : Type 0} (x y : A) (p q : Place) → Read x p ≡ Read y q → (x ≡ y) × (p ≡ q)
read_same x y p q e = (cc, cc)

-- ---- one after the other

-- both were read
pub record ThenRead {A B : Type 0} (r : Reading A) (f : A → FieldReader B) (y : B) (end : Place) : Type 0 where
  pub value : A
  pub next : Place
  pub first : r ≡ Read value next
  pub second : f value next ≡ Read y end

pub then_is_read : {A B : Type 0} (r : Reading A) (f : A → FieldReader B) (y : B) (end : Place) → then_read r f ≡ Read y end → ThenRead r f y end
then_is_read (Read x next) f y end e = record { value = x; next = next; first = refl; second = e }
then_is_read (Refused fault at) f y end e = absurd cc
then_is_read Wanting f y end e = absurd cc

-- the second was refused
pub record ThenRefused {A B : Type 0} (r : Reading A) (f : A → FieldReader B) (fault : Fault) (at : ℕ) : Type 0 where
  pub value : A
  pub next : Place
  pub first : r ≡ Read value next
  pub second : f value next ≡ Refused fault at

-- a refusal, with the type of the value that it stands for
abbrev refusal : (A : Type 0) → Fault → ℕ → Reading A
refusal A fault at = Refused fault at

refusal_again : (A B : Type 0) (other fault : Fault) (end at : ℕ) → refusal B other end ≡ refusal B fault at → refusal A other end ≡ refusal A fault at
refusal_again A B other fault end at e = cc

pub then_is_refused : {A B : Type 0} (r : Reading A) (f : A → FieldReader B) (fault : Fault) (at : ℕ) → then_read r f ≡ Refused fault at → (r ≡ Refused fault at) ⊎ ThenRefused r f fault at
then_is_refused (Read x next) f fault at e = inr (record { value = x; next = next; first = refl; second = e })
then_is_refused {A} {B} (Refused other end) f fault at e = inl (refusal_again A B other fault end at e)
then_is_refused Wanting f fault at e = absurd cc

-- ---- single readers

-- the field was there
pub record FieldRead {A : Type 0} (means : List ℕ → A) (n : ℕ) (p : Place) (x : A) (next : Place) : Type 0 where
  pub long : n ≤ length p.left
  pub value : means (take n p.left) ≡ x
  pub after : past n p ≡ next

test_read : {A : Type 0} (b : Bool) (x y : A) (p q : Place) → cond b Wanting (Read x p) ≡ Read y q → (b ≡ false) × (x ≡ y) × (p ≡ q)
test_read true x y p q e = absurd cc
test_read false x y p q e = (refl, cc, cc)

pub field_is_read : {A : Type 0} (means : List ℕ → A) (n : ℕ) (p : Place) (x : A) (next : Place) → field means n p ≡ Read x next → FieldRead means n p x next
field_is_read means n p x next e =
    let parts = test_read (ltb (length p.left) n) (means (take n p.left)) x (past n p) next e in
    record { long = ltb-false _ _ parts.0; value = parts.1; after = parts.2 }

test_not_refused : {A : Type 0} (b : Bool) (x : A) (p : Place) (fault : Fault) (at : ℕ) → cond b Wanting (Read x p) ≡ Refused fault at → ⊥
test_not_refused true x p fault at e = cc
test_not_refused false x p fault at e = cc

-- a field has no fault of its own
pub field_not_refused : {A : Type 0} (means : List ℕ → A) (n : ℕ) (p : Place) (fault : Fault) (at : ℕ) → field means n p ≡ Refused fault at → ⊥
field_not_refused means n p fault at e = test_not_refused (ltb (length p.left) n) (means (take n p.left)) (past n p) fault at e

pub refuse_if_is_read : (b : Bool) (fault : Fault) (p : Place) (x : Unit {0}) (next : Place) → refuse_if b fault p ≡ Read x next → (b ≡ false) × (p ≡ next)
refuse_if_is_read true fault p x next e = absurd cc
refuse_if_is_read false fault p x next e = (refl, cc)

pub judge_is_read : (o : Option Fault) (p : Place) (x : Unit {0}) (next : Place) → judge o p ≡ Read x next → (o ≡ None) × (p ≡ next)
judge_is_read (Some fault) p x next e = absurd cc
judge_is_read None p x next e = (refl, cc)

-- ---- numbers

pub to-from_big_endian16 : (bytes : List ℕ) → length bytes ≡ 2 → AreBytes bytes → to_big_endian w16 (from_big_endian w16 bytes) ≡ bytes
unfolding from_big_endian to_big_endian
to-from_big_endian16 bytes len fits = be_bytes_2 bytes _ len (byte_at bytes fits) refl

pub to-from_big_endian32 : (bytes : List ℕ) → length bytes ≡ 4 → AreBytes bytes → to_big_endian w32 (from_big_endian w32 bytes) ≡ bytes
unfolding from_big_endian to_big_endian
to-from_big_endian32 bytes len fits = be_bytes_4 bytes _ len (byte_at bytes fits) refl

pub to-from_big_endian64 : (bytes : List ℕ) → length bytes ≡ 8 → AreBytes bytes → to_big_endian w64 (from_big_endian w64 bytes) ≡ bytes
unfolding from_big_endian to_big_endian
to-from_big_endian64 bytes len fits = be_bytes_8 bytes _ len (byte_at bytes fits) refl
