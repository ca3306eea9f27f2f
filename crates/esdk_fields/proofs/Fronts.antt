-- What a sequential reader says of the front of some bytes, and of the same bytes when more follow.
use Rattle.std.proofs.Common.{◌≡◌, ℕ, ◌+◌, ◌-◌, ◌<◌, ◌≤◌, Bool, true, false, cond, List, ◌++◌, length, take, drop, refl, sym, ap, subst, ◌∙◌, arith}
use Rattle.std.proofs.Math.Dec.{leb}
use Rattle.std.proofs.Math.Seq.{take-length}
use Rattle.std.proofs.lemmas.Bool.{le-leb, lt-leb, leb-true, leb-false}
use Rattle.std.proofs.lemmas.List.{take_at, drop-append-le, length-drop}
use Rattle.esdk_fields.specs.declared.faults.Fault.{Fault}
use Rattle.esdk_fields.specs.Place.{Place, start, cut, followed}
use Rattle.esdk_fields.specs.Reading.{Reading, Read, Refused, Wanting, FieldReader}
use Rattle.esdk_fields.specs.Sequential.{cut_reading, EndsFrom, KeepsRest, IsSequential}
use Rattle.esdk_fields.specs.Laws.{JudgesInOrder}

-- ---- the front of what came

cut-start : (n : ℕ) (b : List ℕ) → cut n (start b) ≡ start (take n b)
cut-start n b = let e : n - 0 ≡ n = omega arith in ap (λ (k : ℕ). start (take k b)) e

of_front : {A : Type 0} (m : FieldReader A) (n : ℕ) (b : List ℕ) (r : Reading A) → IsSequential m → m (start b) ≡ r → m (start (take n b)) ≡ cut_reading n r
of_front m n b r s e = ap m (sym (cut-start n b)) ∙ s.cuts n (start b) (omega arith) ∙ ap (cut_reading n) e

-- the fault comes as soon as its field has come
pub fault_from : {A : Type 0} (m : FieldReader A) (b : List ℕ) (fault : Fault) (at n : ℕ) → IsSequential m → m (start b) ≡ Refused fault at → at ≤ n → m (start (take n b)) ≡ Refused fault at
fault_from m b fault at n s e h = of_front m n b (Refused fault at) s e ∙ rw (le-leb at n h) refl

-- and no earlier
pub wanting_before : {A : Type 0} (m : FieldReader A) (b : List ℕ) (fault : Fault) (at n : ℕ) → IsSequential m → m (start b) ≡ Refused fault at → n < at → m (start (take n b)) ≡ Wanting
wanting_before m b fault at n s e h = of_front m n b (Refused fault at) s e ∙ rw (lt-leb at n h) refl

-- the value comes as soon as its last field has come
pub value_from : {A : Type 0} (m : FieldReader A) (b : List ℕ) (x : A) (next : Place) (n : ℕ) → IsSequential m → m (start b) ≡ Read x next → next.at ≤ n → m (start (take n b)) ≡ Read x (cut n next)
value_from m b x next n s e h = of_front m n b (Read x next) s e ∙ rw (le-leb next.at n h) refl

-- and no earlier
pub wanting_before_value : {A : Type 0} (m : FieldReader A) (b : List ℕ) (x : A) (next : Place) (n : ℕ) → IsSequential m → m (start b) ≡ Read x next → n < next.at → m (start (take n b)) ≡ Wanting
wanting_before_value m b x next n s e h = of_front m n b (Read x next) s e ∙ rw (lt-leb next.at n h) refl

-- ---- when more bytes follow

-- the offset of the end of what has come
abbrev pub end_of : Place → ℕ
end_of p = p.at + length p.left

cut-followed : (p : Place) (more : List ℕ) → cut (end_of p) (followed p more) ≡ p
cut-followed p more =
    let e : (p.at + length p.left) - p.at ≡ length p.left = omega arith in
    ap (λ (left : List ℕ). record { at = p.at; left = left }) (ap (λ (k : ℕ). take k (p.left ++ more)) e ∙ take_at p.left more (length p.left) refl)

cut-end : (p : Place) → cut (end_of p) p ≡ p
cut-end p =
    let e : (p.at + length p.left) - p.at ≡ length p.left = omega arith in
    ap (λ (left : List ℕ). record { at = p.at; left = left }) (ap (λ (k : ℕ). take k p.left) e ∙ take-length p.left)

of_followed : {A : Type 0} (m : FieldReader A) (p : Place) (more : List ℕ) → IsSequential m → m p ≡ cut_reading (end_of p) (m (followed p more))
of_followed m p more s = ap m (sym (cut-followed p more)) ∙ s.cuts (end_of p) (followed p more) (omega arith)

-- a refusal, with the type of the value that it stands for
abbrev refusal : (A : Type 0) → Fault → ℕ → Reading A
refusal A fault at = Refused fault at

refused-cond : {A : Type 0} (b : Bool) (fault f : Fault) (at a : ℕ) → cond b (refusal A fault at) Wanting ≡ Refused f a → refusal A fault at ≡ Refused f a
refused-cond true fault f at a e = e
refused-cond false fault f at a e = absurd cc

not-refused : {A : Type 0} (b : Bool) (x : A) (next : Place) (f : Fault) (a : ℕ) → cond b (Read x next) Wanting ≡ Refused f a → ⊥
not-refused true x next f a e = cc
not-refused false x next f a e = cc

uncut_refused : {A : Type 0} (n : ℕ) (r : Reading A) (f : Fault) (a : ℕ) → cut_reading n r ≡ Refused f a → r ≡ Refused f a
uncut_refused n (Read x next) f a e = absurd (not-refused (leb next.at n) x (cut n next) f a e)
uncut_refused n (Refused fault at) f a e = refused-cond (leb at n) fault f at a e
uncut_refused n Wanting f a e = absurd cc

-- a fault stays, whatever follows
pub fault_stays_at : {A : Type 0} (m : FieldReader A) (p : Place) (more : List ℕ) (fault : Fault) (at : ℕ) → IsSequential m → m p ≡ Refused fault at → m (followed p more) ≡ Refused fault at
fault_stays_at m p more fault at s e = uncut_refused (end_of p) (m (followed p more)) fault at (sym (of_followed m p more s) ∙ e)

pub fault_stays : {A : Type 0} (m : FieldReader A) (b more : List ℕ) (fault : Fault) (at : ℕ) → IsSequential m → m (start b) ≡ Refused fault at → m (start (b ++ more)) ≡ Refused fault at
fault_stays m b more fault at s e = fault_stays_at m (start b) more fault at s e

-- what a cut says of a value
record Uncut {A : Type 0} (n : ℕ) (r : Reading A) (x : A) (next : Place) : Type 0 where
  end : Place
  is : r ≡ Read x end
  inside : end.at ≤ n
  cut_is : cut n end ≡ next

read_is : {A : Type 0} (b : Bool) (x y : A) (p q : Place) → cond b (Read x p) Wanting ≡ Read y q → (b ≡ true) × (x ≡ y) × (p ≡ q)
read_is true x y p q e = (refl, cc, cc)
read_is false x y p q e = absurd cc

not-read : {A : Type 0} (b : Bool) (fault : Fault) (at : ℕ) (x : A) (next : Place) → cond b (Refused fault at) Wanting ≡ Read x next → ⊥
not-read true fault at x next e = cc
not-read false fault at x next e = cc

uncut_read : {A : Type 0} (n : ℕ) (r : Reading A) (x : A) (next : Place) → cut_reading n r ≡ Read x next → Uncut n r x next
uncut_read n (Read y end) x next e =
    let parts = read_is (leb end.at n) y x (cut n end) next e in
    record { end = end; is = ap (λ z. Read z end) parts.1; inside = leb-true end.at n parts.0; cut_is = parts.2 }
uncut_read n (Refused fault at) x next e = absurd (not-read (leb at n) fault at x next e)
uncut_read n Wanting x next e = absurd cc

-- what is read ends within what has come
pub read_within_at : {A : Type 0} (m : FieldReader A) (p : Place) (x : A) (next : Place) → IsSequential m → m p ≡ Read x next → next.at ≤ end_of p
read_within_at m p x next s e =
    let whole : cut_reading (end_of p) (Read x next) ≡ Read x next = sym (ap (cut_reading (end_of p)) e) ∙ sym (s.cuts (end_of p) p (omega arith)) ∙ ap m (cut-end p) ∙ e in
    let parts = read_is (leb next.at (end_of p)) x x (cut (end_of p) next) next whole in
    leb-true next.at (end_of p) parts.0

pub read_within : {A : Type 0} (m : FieldReader A) (b : List ℕ) (x : A) (next : Place) → IsSequential m → m (start b) ≡ Read x next → next.at ≤ length b
read_within m b x next s e = let h = read_within_at m (start b) x next s e in omega arith

-- the bytes left are those that stood there
pub left_is : {A : Type 0} (m : FieldReader A) (p : Place) (x : A) (next : Place) → IsSequential m → m p ≡ Read x next → next.left ≡ drop (next.at - p.at) p.left
left_is m p x next s e = subst (λ r. KeepsRest p r) e (s.rest p)

pub onward_from : {A : Type 0} (m : FieldReader A) (p : Place) (x : A) (next : Place) → IsSequential m → m p ≡ Read x next → p.at ≤ next.at
onward_from m p x next s e = subst (λ r. EndsFrom p.at r) e (s.onward p)

-- reading keeps the end where it is
pub end_stays : {A : Type 0} (m : FieldReader A) (p : Place) (x : A) (next : Place) → IsSequential m → m p ≡ Read x next → end_of next ≡ end_of p
end_stays m p x next s e =
    let left = left_is m p x next s e in
    let forth : p.at ≤ next.at = onward_from m p x next s e in
    let within : next.at ≤ end_of p = read_within_at m p x next s e in
    omega (arith, ap length left, length-drop (next.at - p.at) p.left)

-- a value stays, and what follows is left
pub value_stays_at : {A : Type 0} (m : FieldReader A) (p : Place) (more : List ℕ) (x : A) (next : Place) → IsSequential m → m p ≡ Read x next → m (followed p more) ≡ Read x (followed next more)
value_stays_at m p more x next s e =
    let found = uncut_read (end_of p) (m (followed p more)) x next (sym (of_followed m p more s) ∙ e) in
    let same_at : found.end.at ≡ next.at = ap (λ (q : Place). q.at) found.cut_is in
    let within : next.at ≤ end_of p = read_within_at m p x next s e in
    let forth : p.at ≤ next.at = onward_from m p x next s e in
    let inside : next.at - p.at ≤ length p.left = omega arith in
    let left : found.end.left ≡ next.left ++ more =
    left_is m (followed p more) x found.end s found.is ∙ ap (λ (k : ℕ). drop (k - p.at) (p.left ++ more)) same_at ∙ drop-append-le (next.at - p.at) p.left more inside
    ∙ ap (λ (b : List ℕ). b ++ more) (sym (left_is m p x next s e)) in
    found.is ∙ ap (λ (q : Place). Read x q) (place_is found.end next.at (next.left ++ more) same_at left)
  where
    place_is : (q : Place) (at : ℕ) (left : List ℕ) → q.at ≡ at → q.left ≡ left → q ≡ record { at = at; left = left }
    place_is q at left e f = ap (λ (k : ℕ). record { at = k; left = q.left }) e ∙ ap (λ (b : List ℕ). record { at = at; left = b }) f

pub value_stays : {A : Type 0} (m : FieldReader A) (b more : List ℕ) (x : A) (next : Place) → IsSequential m → m (start b) ≡ Read x next → m (start (b ++ more)) ≡ Read x (followed next more)
value_stays m b more x next s e = value_stays_at m (start b) more x next s e

-- ---- while bytes are wanted

not-inside : {A : Type 0} (b : Bool) (r : Reading A) (x : A) (next : Place) → r ≡ Read x next → cond b r Wanting ≡ Wanting → b ≡ false
not-inside true r x next is e = absurd cc
not-inside false r x next is e = refl

-- what was wanted ends behind what had come
pub read_after_at : {A : Type 0} (m : FieldReader A) (p : Place) (more : List ℕ) (x : A) (next : Place) → IsSequential m → m p ≡ Wanting → m (followed p more) ≡ Read x next → end_of p < next.at
read_after_at m p more x next s w e =
    let none : cut_reading (end_of p) (Read x next) ≡ Wanting = sym (ap (cut_reading (end_of p)) e) ∙ sym (of_followed m p more s) ∙ w in
    leb-false next.at (end_of p) (not-inside (leb next.at (end_of p)) (Read x (cut (end_of p) next)) x (cut (end_of p) next) refl none)

pub read_after : {A : Type 0} (m : FieldReader A) (b more : List ℕ) (x : A) (next : Place) → IsSequential m → m (start b) ≡ Wanting → m (start (b ++ more)) ≡ Read x next → length b < next.at
read_after m b more x next s w e = let h = read_after_at m (start b) more x next s w e in omega arith

not-refused_yet : (A : Type 0) (b : Bool) (fault : Fault) (at : ℕ) → cond b (refusal A fault at) Wanting ≡ Wanting → b ≡ false
not-refused_yet A true fault at e = absurd cc
not-refused_yet A false fault at e = refl

-- a fault that comes later ends behind what had come
pub fault_after_at : {A : Type 0} (m : FieldReader A) (p : Place) (more : List ℕ) (fault : Fault) (at : ℕ) → IsSequential m → m p ≡ Wanting → m (followed p more) ≡ Refused fault at → end_of p < at
fault_after_at {A} m p more fault at s w e =
    let none : cut_reading (end_of p) (refusal A fault at) ≡ Wanting = sym (ap (cut_reading (end_of p)) e) ∙ sym (of_followed m p more s) ∙ w in
    leb-false at (end_of p) (not-refused_yet A (leb at (end_of p)) fault at none)

-- ---- all of it

-- a sequential reader's judgement stands, and comes with the last byte that it rests on
pub JudgesInOrder-sequential : {A : Type 0} (m : FieldReader A) → IsSequential m → JudgesInOrder m
JudgesInOrder-sequential m s = record {
  fault_stays = λ b more fault at e. fault_stays m b more fault at s e;
  fault_comes = λ b fault at n e h. fault_from m b fault at n s e h;
  no_fault_before = λ b fault at n e h. wanting_before m b fault at n s e h;
  value_stays = λ b more x next e. value_stays m b more x next s e;
  value_comes = λ b x next n e h. value_from m b x next n s e h;
  no_value_before = λ b x next n e h. wanting_before_value m b x next n s e h;
  value_within = λ b x next e. read_within m b x next s e;
  rest = λ b x next e. let k : next.at - 0 ≡ next.at = omega arith in left_is m (start b) x next s e ∙ ap (λ (n : ℕ). drop n b) k;
}
