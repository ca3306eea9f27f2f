-- What was read stands at the front of the bytes.
use Rattle.std.proofs.Common.{◌≡◌, ℕ, ◌+◌, ◌^◌, ◌<◌, List, [], ◌∷◌, ◌++◌, length, take, sym, ap, subst, ◌∙◌, append_assoc, arith}
use Rattle.std.specs.Int.{w8, w16, w32, from_be_bytes, to_be_bytes}
use Rattle.std.proofs.lemmas.List.{take-append-drop, length-append, length-take}
use Rattle.esdk_fields.specs.Bytes.{AreBytes}
use Rattle.esdk_fields.specs.Place.{Place, past}
use Rattle.esdk_fields.specs.Numbers.{from_big_endian, to_big_endian}
use Rattle.esdk_fields.specs.Reading.{Read, field, bytes, number}
use Rattle.esdk_fields.proofs.Bytes.{byte_at, AreBytes-drop, AreBytes-take}
use Rattle.esdk_fields.proofs.Inverse.{field_is_read, to-from_big_endian16, to-from_big_endian32}

-- ---- what stands between two places

-- from the first place to the next this text stands, and bytes follow it
pub record IsTaken (p : Place) (text : List ℕ) (next : Place) : Type 0 where
  pub front : p.left ≡ text ++ next.left
  pub end : next.at ≡ p.at + length text
  pub rest : AreBytes next.left

pub IsTaken-then : (p : Place) (a : List ℕ) (q : Place) (b : List ℕ) (r : Place) → IsTaken p a q → IsTaken q b r → IsTaken p (a ++ b) r
IsTaken-then p a q b r first second = record {
  front = first.front ∙ ap (λ (t : List ℕ). a ++ t) second.front ∙ sym (append_assoc a b r.left);
  end = omega (arith, first.end, second.end, length-append a b);
  rest = second.rest;
}

-- ---- one field

-- a field was read: its bytes, and what they mean
pub record FieldTaken {A : Type 0} (means : List ℕ → A) (n : ℕ) (p : Place) (x : A) (next : Place) : Type 0 where
  pub text : List ℕ
  pub len : length text ≡ n
  pub bytes : AreBytes text
  pub value : means text ≡ x
  pub taken : IsTaken p text next

field_taken : {A : Type 0} (means : List ℕ → A) (n : ℕ) (p : Place) (x : A) (next : Place) → AreBytes p.left → field means n p ≡ Read x next → FieldTaken means n p x next
field_taken means n p x next fits e =
    let f = field_is_read means n p x next e in
    let len : length (take n p.left) ≡ n = omega (arith, f.long, length-take n p.left) in
    let here : IsTaken p (take n p.left) (past n p) = record {
      front = sym (take-append-drop n p.left);
      end = omega (arith, len);
      rest = AreBytes-drop n p.left fits;
    } in
    record {
      text = take n p.left;
      len = len;
      bytes = AreBytes-take n p.left fits;
      value = f.value;
      taken = subst (λ (r : Place). IsTaken p (take n p.left) r) f.after here;
    }

pub bytes_taken : (n : ℕ) (p : Place) (x : List ℕ) (next : Place) → AreBytes p.left → bytes n p ≡ Read x next → IsTaken p x next × (length x ≡ n)
bytes_taken n p x next fits e =
    let f = field_taken (λ b. b) n p x next fits e in
    subst (λ (text : List ℕ). IsTaken p text next × (length text ≡ n)) f.value (f.taken, f.len)

-- ---- numbers

one_byte : (bs : List ℕ) → length bs ≡ 1 → AreBytes bs → to_be_bytes w8 (from_be_bytes w8 bs) ≡ bs
one_byte [] len fits = absurd (omega arith)
one_byte (b ∷ []) len fits = let lt : b < 256 = fits 0 0 (omega arith) in ap (λ (n : ℕ). n ∷ []) (omega arith)
one_byte (b ∷ c ∷ bs) len fits = absurd (omega arith)

pub number8_taken : (p : Place) (n : ℕ) (next : Place) → AreBytes p.left → number w8 p ≡ Read n next → IsTaken p (to_big_endian w8 n) next × (n < 2 ^ 8)
unfolding from_big_endian to_big_endian
number8_taken p n next fits e =
    let f = field_taken (from_big_endian w8) 1 p n next fits e in
    let text : to_big_endian w8 n ≡ f.text = ap (to_big_endian w8) (sym f.value) ∙ one_byte f.text f.len f.bytes in
    (rw text f.taken, rw (← f.value) (omega (arith, byte_at f.text f.bytes 0)))

pub number16_taken : (p : Place) (n : ℕ) (next : Place) → AreBytes p.left → number w16 p ≡ Read n next → IsTaken p (to_big_endian w16 n) next × (n < 2 ^ 16)
unfolding from_big_endian
number16_taken p n next fits e =
    let f = field_taken (from_big_endian w16) 2 p n next fits e in
    let text : to_big_endian w16 n ≡ f.text = ap (to_big_endian w16) (sym f.value) ∙ to-from_big_endian16 f.text f.len f.bytes in
    (rw text f.taken, rw (← f.value) (omega (arith, byte_at f.text f.bytes 0, byte_at f.text f.bytes 1)))

pub number32_taken : (p : Place) (n : ℕ) (next : Place) → AreBytes p.left → number w32 p ≡ Read n next → IsTaken p (to_big_endian w32 n) next × (n < 2 ^ 32)
unfolding from_big_endian
number32_taken p n next fits e =
    let f = field_taken (from_big_endian w32) 4 p n next fits e in
    let text : to_big_endian w32 n ≡ f.text = ap (to_big_endian w32) (sym f.value) ∙ to-from_big_endian32 f.text f.len f.bytes in
    (rw text f.taken, rw (← f.value) (omega (arith, byte_at f.text f.bytes 0, byte_at f.text f.bytes 1, byte_at f.text f.bytes 2, byte_at f.text f.bytes 3)))
