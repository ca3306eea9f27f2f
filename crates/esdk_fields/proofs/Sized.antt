-- Bytes behind their length.
use Rattle.std.proofs.Common.{◌≡◌, ℕ, ◌+◌, ◌^◌, ◌<◌, ◌≤◌, List, ◌++◌, length, refl, ap, ◌∙◌, append_assoc, arith, inl, inr}
use Rattle.std.specs.Int.{w16}
use Rattle.std.proofs.lemmas.List.{length-append}
use Rattle.esdk_fields.specs.declared.faults.Fault.{Fault}
use Rattle.esdk_fields.specs.Bytes.{AreBytes}
use Rattle.esdk_fields.specs.Place.{Place}
use Rattle.esdk_fields.specs.Numbers.{from_big_endian, to_big_endian}
use Rattle.esdk_fields.specs.Reading.{Reading, Read, Refused, then_read, bytes, number}
use Rattle.esdk_fields.specs.Sequential.{IsSequential}
use Rattle.esdk_fields.specs.Sized.{sized, sized_bytes}
use Rattle.esdk_fields.proofs.Sequential.{IsSequential-bind, IsSequential-bytes, IsSequential-number}
use Rattle.esdk_fields.proofs.Inverse.{then_is_read, then_is_refused, field_not_refused}
use Rattle.esdk_fields.proofs.Again.{bytes_again, number16_again, length-to_big_endian16}
use Rattle.esdk_fields.proofs.Taken.{IsTaken, IsTaken-then, bytes_taken, number16_taken}

pub length-sized : (text : List ℕ) → length (sized text) ≡ 2 + length text
unfolding sized
length-sized text = omega (arith, length-append (to_big_endian w16 (length text)) text, length-to_big_endian16 (length text))

pub IsSequential-sized_bytes : IsSequential sized_bytes
unfolding sized_bytes
IsSequential-sized_bytes = IsSequential-bind (number w16) (λ n. bytes n) (IsSequential-number w16) (λ n. IsSequential-bytes n)

pub sized_taken : (p : Place) (x : List ℕ) (next : Place) → AreBytes p.left → sized_bytes p ≡ Read x next → IsTaken p (sized x) next × (length x ≤ 65535)
unfolding sized sized_bytes
sized_taken p x next fits e =
    let b = then_is_read (number w16 p) (λ n. bytes n) x next e in
    let n = number16_taken p b.value b.next fits b.first in
    let t = bytes_taken b.value b.next x next n.0.rest b.second in
    (rw t.1 (IsTaken-then p (to_big_endian w16 b.value) b.next x next n.0 t.0), omega (arith, n.1, t.1))

pub sized_again : (text rest : List ℕ) (at : ℕ) → length text ≤ 65535 → sized_bytes (record { at = at; left = sized text ++ rest }) ≡ Read text (record { at = at + length (sized text); left = rest })
unfolding sized sized_bytes
sized_again text rest at short =
    let lt : length text < 2 ^ 16 = omega arith in
    let len : at + 2 + length text ≡ at + length (to_big_endian w16 (length text) ++ text) = omega (arith, length-append (to_big_endian w16 (length text)) text, length-to_big_endian16 (length text)) in
    ap (λ (l : List ℕ). sized_bytes (record { at = at; left = l })) (append_assoc (to_big_endian w16 (length text)) text rest)
    ∙ ap (λ (r : Reading ℕ). then_read r (λ n. bytes n)) (number16_again (length text) (text ++ rest) at lt)
    ∙ bytes_again text rest (length text) (at + 2) refl
    ∙ ap (λ (a : ℕ). Read text (record { at = a; left = rest })) len

pub sized_not_refused : (p : Place) (fault : Fault) (at : ℕ) → sized_bytes p ≡ Refused fault at → ⊥
unfolding sized_bytes
sized_not_refused p fault at e =
    elim (then_is_refused (number w16 p) (λ n. bytes n) fault at e) [
      | inl first ↦ field_not_refused (from_big_endian w16) 2 p fault at first
      | inr second ↦ field_not_refused (λ b. b) second.value second.next fault at second.second
    ]
