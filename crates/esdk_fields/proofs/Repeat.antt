-- Reading a count of things one after the other, as a loop does.
use Rattle.std.proofs.Common.{◌≡◌, ℕ, suc, ◌+◌, ◌-◌, ◌<◌, ◌≤◌, List, [], ◌∷◌, ◌++◌, refl, sym, ap, ◌∙◌, append_assoc, arith}
use Rattle.std.proofs.lemmas.List.{append-nil}
use Rattle.esdk_fields.specs.declared.faults.Fault.{Fault}
use Rattle.esdk_fields.specs.declared.stops.Stop.{Stop}
use Rattle.esdk_fields.specs.declared.stops.Stop.TheVariants as stops
use Rattle.esdk_fields.specs.Place.{Place}
use Rattle.esdk_fields.specs.Reading.{Reading, Read, Refused, Wanting, FieldReader, then_read, done, repeat}
use Rattle.esdk_fields.specs.Gives.{StopsAt}

-- what was read before, and what is still read
abbrev pub with_front : {A : Type 0} → List A → Reading (List A) → Reading (List A)
with_front front reading = then_read reading (λ others. done (front ++ others))

with_front-nil : {A : Type 0} (r : Reading (List A)) → with_front [] r ≡ r
with_front-nil (Read xs next) = refl
with_front-nil (Refused fault at) = refl
with_front-nil Wanting = refl

regroup : {A : Type 0} (front : List A) (x : A) (r : Reading (List A)) → with_front front (then_read r (λ others. done (x ∷ others))) ≡ with_front (front ++ x ∷ []) r
regroup front x (Read xs next) = ap (λ all. Read all next) (sym (append_assoc front (x ∷ []) xs))
regroup front x (Refused fault at) = refl
regroup front x Wanting = refl

-- The loop's invariant: what was read so far, followed by what is still read from here, is the whole.
pub record Goes {A : Type 0} (m : FieldReader A) (front : List A) (count i : ℕ) (p : Place) (total : Reading (List A)) : Type 0 where
  pub so_far : with_front front (repeat m (count - i) p) ≡ total

pub begins : {A : Type 0} (m : FieldReader A) (count : ℕ) (p : Place) → Goes m [] count 0 p (repeat m count p)
begins m count p = record { so_far = let e : count - 0 ≡ count = omega arith in rw e (with_front-nil (repeat m count p)) }

-- one more was read
pub goes_on : {A : Type 0} (m : FieldReader A) (front : List A) (count i : ℕ) (p : Place) (x : A) (next : Place) (total : Reading (List A)) → i < count → m p ≡ Read x next
    → Goes m front count i p total → Goes m (front ++ x ∷ []) count (i + 1) next total
unfolding repeat
goes_on m front count i p x next total lt h goes =
    let k : count - i ≡ suc (count - (i + 1)) = omega arith in
    let one : with_front front (repeat m (count - i) p) ≡ with_front (front ++ x ∷ []) (repeat m (count - (i + 1)) next) = rw (k, h) (regroup front x (repeat m (count - (i + 1)) next)) in
    record { so_far = sym one ∙ goes.so_far }

-- the next one has a fault
pub refused : {A : Type 0} (m : FieldReader A) (front : List A) (count i : ℕ) (p : Place) (fault : Fault) (at : ℕ) (total : Reading (List A)) → i < count → m p ≡ Refused fault at
    → Goes m front count i p total → total ≡ Refused fault at
unfolding repeat
refused m front count i p fault at total lt h goes =
    let k : count - i ≡ suc (count - (i + 1)) = omega arith in
    let one : with_front front (repeat m (count - i) p) ≡ Refused fault at = rw (k, h) refl in
    sym goes.so_far ∙ one

-- more bytes are wanted for the next one
pub wanting : {A : Type 0} (m : FieldReader A) (front : List A) (count i : ℕ) (p : Place) (total : Reading (List A)) → i < count → m p ≡ Wanting
    → Goes m front count i p total → total ≡ Wanting
unfolding repeat
wanting m front count i p total lt h goes =
    let k : count - i ≡ suc (count - (i + 1)) = omega arith in
    let one : with_front front (repeat m (count - i) p) ≡ Wanting = rw (k, h) refl in
    sym goes.so_far ∙ one

-- the reader of the next one stopped, for any reason
pub stops_at : {A : Type 0} (m : FieldReader A) (stop : Stop) (front : List A) (count i : ℕ) (p : Place) (total : Reading (List A)) → i < count → StopsAt stop (m p)
    → Goes m front count i p total → StopsAt stop total
stops_at m stops.Memory front count i p total lt h goes = tt
stops_at m stops.Wanting front count i p total lt h goes = wanting m front count i p total lt h goes
stops_at m (stops.Fault fault at) front count i p total lt h goes = refused m front count i p fault at total lt h goes

-- all of them were read
pub is_done : {A : Type 0} (m : FieldReader A) (front : List A) (count i : ℕ) (p : Place) (total : Reading (List A)) → count ≤ i → Goes m front count i p total → total ≡ Read front p
unfolding repeat
is_done m front count i p total le goes =
    let k : count - i ≡ 0 = omega arith in
    let one : with_front front (repeat m (count - i) p) ≡ Read front p = rw k (ap (λ all. Read all p) (append-nil front)) in
    sym goes.so_far ∙ one
