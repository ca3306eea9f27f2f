-- An entry of three parts, each behind its length.
use Rattle.std.proofs.Common.{◌≡◌, ℕ, ◌+◌, List, ◌++◌, length, refl, ap, subst, ◌∙◌, append_assoc, arith, inl, inr}
use Rattle.std.proofs.lemmas.List.{length-append}
use Rattle.esdk_fields.specs.declared.faults.Fault.{Fault}
use Rattle.esdk_fields.specs.Bytes.{AreBytes}
use Rattle.esdk_fields.specs.Place.{Place}
use Rattle.esdk_fields.specs.Reading.{Read, Refused, FieldReader, ◌>>=◌, done}
use Rattle.esdk_fields.specs.Sequential.{IsSequential}
use Rattle.esdk_fields.specs.Sized.{sized, sized_bytes}
use Rattle.esdk_fields.proofs.Sequential.{IsSequential-bind, IsSequential-done}
use Rattle.esdk_fields.proofs.Inverse.{read_same, then_is_read, then_is_refused}
use Rattle.esdk_fields.proofs.Taken.{IsTaken, IsTaken-then}
use Rattle.esdk_fields.proofs.Sized.{IsSequential-sized_bytes, sized_taken, sized_again, sized_not_refused}
use Rattle.edk_codec.specs.Entry.{Entry, IsEntry, edk_text}
use Rattle.edk_codec.specs.EntryReader.{entry_reader}

-- what follows the provider, and what follows the information
abbrev after_provider : List ℕ → FieldReader Entry
after_provider provider = do
  info ← sized_bytes
  cipher ← sized_bytes
  done (record { provider = provider; info = info; cipher = cipher })

abbrev after_info : List ℕ → List ℕ → FieldReader Entry
after_info provider info = do
  cipher ← sized_bytes
  done (record { provider = provider; info = info; cipher = cipher })

pub IsSequential-entry : IsSequential entry_reader
unfolding entry_reader
IsSequential-entry =
    IsSequential-bind sized_bytes after_provider IsSequential-sized_bytes
    (λ provider. IsSequential-bind sized_bytes (after_info provider) IsSequential-sized_bytes
    (λ info. IsSequential-bind sized_bytes (λ cipher. done (record { provider = provider; info = info; cipher = cipher })) IsSequential-sized_bytes
    (λ cipher. IsSequential-done (record { provider = provider; info = info; cipher = cipher }))))

pub entry_taken : (p : Place) (e : Entry) (next : Place) → AreBytes p.left → entry_reader p ≡ Read e next → IsTaken p (edk_text e) next × IsEntry e
unfolding entry_reader edk_text
entry_taken p e next fits r =
    let a = then_is_read (sized_bytes p) after_provider e next r in
    let b = then_is_read (sized_bytes a.next) (after_info a.value) e next a.second in
    let c = then_is_read (sized_bytes b.next) (λ cipher. done (record { provider = a.value; info = b.value; cipher = cipher })) e next b.second in
    let first = sized_taken p a.value a.next fits a.first in
    let second = sized_taken a.next b.value b.next first.0.rest b.first in
    let third = sized_taken b.next c.value c.next second.0.rest c.first in
    let made : Entry = record { provider = a.value; info = b.value; cipher = c.value } in
    let end = read_same made e c.next next c.second in
    let taken : IsTaken p (sized a.value ++ sized b.value ++ sized c.value) c.next =
    IsTaken-then p (sized a.value ++ sized b.value) b.next (sized c.value) c.next (IsTaken-then p (sized a.value) a.next (sized b.value) b.next first.0 second.0) third.0 in
    let at_end : IsTaken p (edk_text made) next = subst (λ (n : Place). IsTaken p (sized a.value ++ sized b.value ++ sized c.value) n) end.1 taken in
    subst (λ (y : Entry). IsTaken p (edk_text y) next × IsEntry y) end.0 (at_end, record { provider = first.1; info = second.1; cipher = third.1 })

pub entry_again : (e : Entry) (rest : List ℕ) (at : ℕ) → IsEntry e → entry_reader (record { at = at; left = edk_text e ++ rest }) ≡ Read e (record { at = at + length (edk_text e); left = rest })
unfolding entry_reader edk_text
entry_again e rest at fits =
    let ps = sized e.provider in
    let is = sized e.info in
    let cs = sized e.cipher in
    let regrouped : (ps ++ is ++ cs) ++ rest ≡ ps ++ (is ++ (cs ++ rest)) = append_assoc (ps ++ is) cs rest ∙ append_assoc ps is (cs ++ rest) in
    let len : at + length ps + length is + length cs ≡ at + length (ps ++ is ++ cs) = omega (arith, length-append (ps ++ is) cs, length-append ps is) in
    ap (λ (l : List ℕ). entry_reader (record { at = at; left = l })) regrouped
    ∙ rw (sized_again e.provider (is ++ (cs ++ rest)) at fits.provider, sized_again e.info (cs ++ rest) (at + length ps) fits.info, sized_again e.cipher rest (at + length ps + length is) fits.cipher, len) refl

pub entry_not_refused : (p : Place) (fault : Fault) (at : ℕ) → entry_reader p ≡ Refused fault at → ⊥
unfolding entry_reader
entry_not_refused p fault at r =
    elim (then_is_refused (sized_bytes p) after_provider fault at r) [
      | inl first ↦ sized_not_refused p fault at first
      | inr a ↦ elim (then_is_refused (sized_bytes a.next) (after_info a.value) fault at a.second) [
        | inl second ↦ sized_not_refused a.next fault at second
        | inr b ↦ elim (then_is_refused (sized_bytes b.next) (λ cipher. done (record { provider = a.value; info = b.value; cipher = cipher })) fault at b.second) [
          | inl third ↦ sized_not_refused b.next fault at third
          | inr c ↦ read_not_refused (record { provider = a.value; info = b.value; cipher = c.value }) c.next fault at c.second
        ]
      ]
    ]
  where
    read_not_refused : (x : Entry) (p : Place) (fault : Fault) (at : ℕ) → Read x p ≡ Refused fault at → ⊥
    read_not_refused x p fault at e = cc
