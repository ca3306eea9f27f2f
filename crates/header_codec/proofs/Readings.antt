-- What a reader makes of a text that stands at a place, whatever follows.
use Rattle.std.proofs.Common.{◌≡◌, ℕ, ◌+◌, Bool, true, false, List, ◌++◌, length, Option, Some, None, refl, ap, ◌∙◌, append_assoc, arith, inl, inr, ◌⊎◌}
use Rattle.std.proofs.lemmas.List.{length-append}
use Rattle.esdk_fields.specs.declared.faults.Fault.{Fault}
use Rattle.esdk_fields.specs.Place.{Place}
use Rattle.esdk_fields.specs.Reading.{Read, Refused, FieldReader, then_read, ◌>>=◌, ◌>>◌, refuse_if, judge}

abbrev pub place : ℕ → List ℕ → Place
place at left = record { at = at; left = left }

-- the text is read as this value
pub record Reads {A : Type 0} (m : FieldReader A) (at : ℕ) (text : List ℕ) (x : A) : Type 0 where
  pub again : (rest : List ℕ) → m (place at (text ++ rest)) ≡ Read x (place (at + length text) rest)

-- the text is refused at its last byte
pub record Refuses {A : Type 0} (m : FieldReader A) (at : ℕ) (text : List ℕ) (fault : Fault) : Type 0 where
  pub again : (rest : List ℕ) → m (place at (text ++ rest)) ≡ Refused fault (at + length text)

end_of_both : (at : ℕ) (a b : List ℕ) → at + length a + length b ≡ at + length (a ++ b)
end_of_both at a b = omega (arith, length-append a b)

pub Reads-bind : {A B : Type 0} (m : FieldReader A) (f : A → FieldReader B) (at : ℕ) (a b : List ℕ) (x : A) (y : B) → Reads m at a x → Reads (f x) (at + length a) b y → Reads (m >>= f) at (a ++ b) y
Reads-bind m f at a b x y first second = record {
  again = λ rest.
      ap (λ (l : List ℕ). then_read (m (place at l)) f) (append_assoc a b rest)
      ∙ ap (λ r. then_read r f) (first.again (b ++ rest))
      ∙ second.again rest
      ∙ ap (λ (n : ℕ). Read y (place n rest)) (end_of_both at a b);
}

-- what is read decides at once
pub Reads-after : {A B : Type 0} (m : FieldReader A) (f : A → FieldReader B) (at : ℕ) (a : List ℕ) (x : A) (y : B) → Reads m at a x → ((p : Place) → f x p ≡ Read y p) → Reads (m >>= f) at a y
Reads-after m f at a x y first second = record { again = λ rest. ap (λ r. then_read r f) (first.again rest) ∙ second (place (at + length a) rest) }

pub Refuses-bind : {A B : Type 0} (m : FieldReader A) (f : A → FieldReader B) (at : ℕ) (a b : List ℕ) (x : A) (fault : Fault) → Reads m at a x → Refuses (f x) (at + length a) b fault → Refuses (m >>= f) at (a ++ b) fault
Refuses-bind m f at a b x fault first second = record {
  again = λ rest.
      ap (λ (l : List ℕ). then_read (m (place at l)) f) (append_assoc a b rest)
      ∙ ap (λ r. then_read r f) (first.again (b ++ rest))
      ∙ second.again rest
      ∙ ap (λ (n : ℕ). Refused fault n) (end_of_both at a b);
}

pub Refuses-first : {A B : Type 0} (m : FieldReader A) (f : A → FieldReader B) (at : ℕ) (a : List ℕ) (fault : Fault) → Refuses m at a fault → Refuses (m >>= f) at a fault
Refuses-first m f at a fault first = record { again = λ rest. ap (λ r. then_read r f) (first.again rest) }

pub Refuses-after : {A B : Type 0} (m : FieldReader A) (f : A → FieldReader B) (at : ℕ) (a : List ℕ) (x : A) (fault : Fault) → Reads m at a x
    → ((rest : List ℕ) → f x (place (at + length a) rest) ≡ Refused fault (at + length a)) → Refuses (m >>= f) at a fault
Refuses-after m f at a x fault first second = record { again = λ rest. ap (λ r. then_read r f) (first.again rest) ∙ second rest }

-- ---- tests

pub guard_passes : {A : Type 0} (b : Bool) (fault : Fault) (k : FieldReader A) (p : Place) → b ≡ false → (refuse_if b fault >> k) p ≡ k p
guard_passes true fault k p e = absurd cc
guard_passes false fault k p e = refl

pub guard_refuses : {A : Type 0} (b : Bool) (fault : Fault) (k : FieldReader A) (p : Place) → b ≡ true → (refuse_if b fault >> k) p ≡ Refused fault p.at
guard_refuses true fault k p e = refl
guard_refuses false fault k p e = absurd cc

pub judge_passes : {A : Type 0} (o : Option Fault) (k : FieldReader A) (p : Place) → o ≡ None → (judge o >> k) p ≡ k p
judge_passes (Some fault) k p e = absurd cc
judge_passes None k p e = refl

pub judge_refuses : {A : Type 0} (o : Option Fault) (fault : Fault) (k : FieldReader A) (p : Place) → o ≡ Some fault → (judge o >> k) p ≡ Refused fault p.at
judge_refuses (Some other) fault k p e = ap (λ f. Refused f p.at) (same other fault e)
  where
    same : (f g : Fault) → Some f ≡ Some g → f ≡ g
    same f g e = cc
judge_refuses None fault k p e = absurd cc

pub guard_read : {A : Type 0} (b : Bool) (fault : Fault) (k : FieldReader A) (p : Place) (x : A) (q : Place) → (refuse_if b fault >> k) p ≡ Read x q → (b ≡ false) × (k p ≡ Read x q)
guard_read true fault k p x q e = absurd cc
guard_read false fault k p x q e = (refl, e)

pub judge_read : {A : Type 0} (o : Option Fault) (k : FieldReader A) (p : Place) (x : A) (q : Place) → (judge o >> k) p ≡ Read x q → (o ≡ None) × (k p ≡ Read x q)
judge_read (Some fault) k p x q e = absurd cc
judge_read None k p x q e = (refl, e)

-- refused by the test, or behind it
pub record Tested (b : Bool) (own : Fault) (p : Place) (fault : Fault) (at : ℕ) : Type 0 where
  pub test : b ≡ true
  pub fault_is : fault ≡ own
  pub end : at ≡ p.at

pub guard_refused : {A : Type 0} (b : Bool) (own : Fault) (k : FieldReader A) (p : Place) (fault : Fault) (at : ℕ) → (refuse_if b own >> k) p ≡ Refused fault at
    → (Tested b own p fault at) ⊎ ((b ≡ false) × (k p ≡ Refused fault at))
guard_refused true own k p fault at e = inl (record { test = refl; fault_is = cc; end = cc })
guard_refused false own k p fault at e = inr (refl, e)

pub judge_refused : {A : Type 0} (o : Option Fault) (k : FieldReader A) (p : Place) (fault : Fault) (at : ℕ) → (judge o >> k) p ≡ Refused fault at
    → ((o ≡ Some fault) × (at ≡ p.at)) ⊎ ((o ≡ None) × (k p ≡ Refused fault at))
judge_refused (Some own) k p fault at e = inl (cc, cc)
judge_refused None k p fault at e = inr (refl, e)

-- ---- a test alone

pub refuse_passes : (b : Bool) (fault : Fault) (p : Place) → b ≡ false → refuse_if b fault p ≡ Read tt p
refuse_passes true fault p e = absurd cc
refuse_passes false fault p e = refl

pub refuse_refuses : (b : Bool) (fault : Fault) (p : Place) → b ≡ true → refuse_if b fault p ≡ Refused fault p.at
refuse_refuses true fault p e = refl
refuse_refuses false fault p e = absurd cc

pub refuse_read : (b : Bool) (fault : Fault) (p : Place) (x : Unit {0}) (q : Place) → refuse_if b fault p ≡ Read x q → (b ≡ false) × (p ≡ q)
refuse_read true fault p x q e = absurd cc
refuse_read false fault p x q e = (refl, cc)

pub refuse_refused : (b : Bool) (own : Fault) (p : Place) (fault : Fault) (at : ℕ) → refuse_if b own p ≡ Refused fault at → Tested b own p fault at
refuse_refused true own p fault at e = record { test = refl; fault_is = cc; end = cc }
refuse_refused false own p fault at e = absurd cc

-- what was read isn't refused
pub read_not_refused : {A : Type 0} (x : A) (p : Place) (fault : Fault) (at : ℕ) → Read x p ≡ Refused fault at → ⊥
read_not_refused x p fault at e = cc
