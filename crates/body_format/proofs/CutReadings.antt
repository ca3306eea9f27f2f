-- What is said of a unit while only the bytes before an offset have come, and what is said when all have.
use Rattle.std.proofs.Common.{◌≡◌, ◌≢◌, ℕ, ◌-◌, ◌≤◌, Bool, true, false, cond, length, refl, sym, ap, subst, ◌∙◌, arith, inl, inr}
use Rattle.std.specs.Prelude.{◌==◌}
use Rattle.std.proofs.lemmas.Bool.{cases_lt, le-leb, lt-leb, eqb-false, ne_eqb}
use Rattle.std.proofs.lemmas.List.{length-take}
use Rattle.esdk_fields.specs.declared.faults.Fault.{Fault}
use Rattle.esdk_fields.specs.declared.faults.Fault.TheVariants.{TrailingBytes}
use Rattle.esdk_fields.specs.Place.{Place, cut}
use Rattle.esdk_fields.specs.Reading.{Reading, Read, Refused, Wanting}
use Rattle.esdk_fields.specs.Sequential.{cut_reading}
use Rattle.frame_codec.specs.Unit.{Piece, More, Last}
use Rattle.body_format.specs.declared.verdicts.Verdict.TheVariants.{Whole, Faulty}
use Rattle.body_format.specs.Rows.{is_more, released, verdict_of}

-- ---- one reading, while only the bytes before an offset have come

-- it isn't known yet, or it is what it is when all bytes have come
pub data Cut (n : ℕ) (r : Reading Piece) : Type 0 where
  Unknown : cut_reading n r ≡ Wanting → Cut n r
  KnownRead : (piece : Piece) (next : Place) → r ≡ Read piece next → next.at ≤ n → cut_reading n r ≡ Read piece (cut n next) → Cut n r
  KnownRefused : (fault : Fault) (at : ℕ) → r ≡ Refused fault at → cut_reading n r ≡ Refused fault at → Cut n r

pub cut_cases : (n : ℕ) (r : Reading Piece) → Cut n r
cut_cases n (Read piece next) =
    elim (cases_lt n next.at) [
      | inl early ↦ Unknown (rw (lt-leb next.at n early) refl)
      | inr inside ↦ KnownRead piece next refl inside (rw (le-leb next.at n inside) refl)
    ]
cut_cases n (Refused fault at) =
    elim (cases_lt n at) [
      | inl early ↦ Unknown (rw (lt-leb at n early) refl)
      | inr inside ↦ KnownRefused fault at refl (rw (le-leb at n inside) refl)
    ]
cut_cases n Wanting = Unknown refl

-- a unit that another one follows stays
pub record StaysMore (front whole : Reading Piece) : Type 0 where
  pub more : is_more whole ≡ true
  pub same : released front ≡ released whole

stays_more_piece : (piece : Piece) (early next : Place) → is_more (Read piece early) ≡ true → StaysMore (Read piece early) (Read piece next)
stays_more_piece (More content) early next h = record { more = refl; same = refl }
stays_more_piece (Last content) early next h = absurd cc

pub stays_more : (n : ℕ) (r : Reading Piece) → Cut n r → is_more (cut_reading n r) ≡ true → StaysMore (cut_reading n r) r
stays_more n r (Unknown e) h = let no : is_more Wanting ≡ true = sym (ap is_more e) ∙ h in absurd cc
stays_more n r (KnownRead piece next is inside e) h =
    subst (λ (front : Reading Piece). StaysMore front r) (sym e) (subst (λ (whole : Reading Piece). StaysMore (Read piece (cut n next)) whole) (sym is) (stays_more_piece piece (cut n next) next (sym (ap is_more e) ∙ h)))
stays_more n r (KnownRefused fault at is e) h = let no : is_more (Refused fault at) ≡ true = sym (ap is_more e) ∙ h in absurd cc

-- a fault stays, and with it what is released
pub record StaysFaulty (front whole : Reading Piece) (fault : Fault) : Type 0 where
  pub other : is_more whole ≡ false
  pub same : released front ≡ released whole
  pub verdict : verdict_of whole ≡ Faulty fault

not_whole : (b : Bool) (fault : Fault) → cond b Whole (Faulty TrailingBytes) ≡ Faulty fault → b ≡ false
not_whole true fault h = absurd cc
not_whole false fault h = refl

stays_faulty_piece : (n : ℕ) (piece : Piece) (next : Place) (fault : Fault) → verdict_of (Read piece (cut n next)) ≡ Faulty fault → StaysFaulty (Read piece (cut n next)) (Read piece next) fault
stays_faulty_piece n (More content) next fault h = absurd cc
stays_faulty_piece n (Last content) next fault h =
    let before : (length (cut n next).left == 0) ≡ false = not_whole (length (cut n next).left == 0) fault h in
    let some : length (cut n next).left ≢ 0 = eqb-false (length (cut n next).left) 0 before in
    let all : (length next.left == 0) ≡ false = ne_eqb (length next.left) 0 (omega (arith, length-take (n - next.at) next.left)) in
    record { other = refl; same = refl; verdict = rw all (sym (ap (λ (b : Bool). cond b Whole (Faulty TrailingBytes)) before) ∙ h) }

pub stays_faulty : (n : ℕ) (r : Reading Piece) (fault : Fault) → Cut n r → verdict_of (cut_reading n r) ≡ Faulty fault → StaysFaulty (cut_reading n r) r fault
stays_faulty n r fault (Unknown e) h = let no : verdict_of Wanting ≡ Faulty fault = sym (ap verdict_of e) ∙ h in absurd cc
stays_faulty n r fault (KnownRead piece next is inside e) h =
    subst (λ (front : Reading Piece). StaysFaulty front r fault) (sym e) (subst (λ (whole : Reading Piece). StaysFaulty (Read piece (cut n next)) whole fault) (sym is) (stays_faulty_piece n piece next fault (sym (ap verdict_of e) ∙ h)))
stays_faulty n r fault (KnownRefused other at is e) h =
    let refused : verdict_of (Refused other at) ≡ Faulty fault = sym (ap verdict_of e) ∙ h in
    subst (λ (front : Reading Piece). StaysFaulty front r fault) (sym e) (subst (λ (whole : Reading Piece). StaysFaulty (Refused other at) whole fault) (sym is) (record { other = refl; same = refl; verdict = refused }))
