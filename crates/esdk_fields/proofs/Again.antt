-- What is written is read back.
use Rattle.std.proofs.Common.{◌≡◌, ℕ, suc, ◌+◌, ◌^◌, ◌<◌, ltb, false, List, [], ◌∷◌, ◌++◌, length, refl, ap, ◌∙◌, append_assoc, arith}
use Rattle.std.specs.List.{flat_map, AllByRecursion}
use Rattle.std.specs.Int.{w8, w16, w32, w64}
use Rattle.std.proofs.lemmas.Bool.{le-ltb}
use Rattle.std.proofs.lemmas.List.{take_at, drop_at, length-append}
use Rattle.std.proofs.lemmas.List.Concat.{flat_map-cons}
use Rattle.std.proofs.lemmas.Nat.{from_be_bytes-to_be_bytes_2, from_be_bytes-to_be_bytes_4, from_be_bytes-to_be_bytes_8}
use Rattle.esdk_fields.specs.Numbers.{from_big_endian, to_big_endian}
use Rattle.esdk_fields.specs.Reading.{Read, FieldReader, then_read, ◌>>=◌, done, field, bytes, number, repeat}

-- a field of n bytes that stands first
pub field_again : {A : Type 0} (means : List ℕ → A) (text rest : List ℕ) (n at : ℕ) → length text ≡ n → field means n (record { at = at; left = text ++ rest }) ≡ Read (means text) (record { at = at + n; left = rest })
field_again means text rest n at len =
    let long : ltb (length (text ++ rest)) n ≡ false = le-ltb _ _ (omega (arith, length-append text rest)) in
    rw (long, take_at text rest n len, drop_at text rest n len) refl

pub bytes_again : (text rest : List ℕ) (n at : ℕ) → length text ≡ n → bytes n (record { at = at; left = text ++ rest }) ≡ Read text (record { at = at + n; left = rest })
bytes_again text rest n at len = field_again (λ b. b) text rest n at len

-- ---- numbers

pub length-to_big_endian8 : (n : ℕ) → length (to_big_endian w8 n) ≡ 1
unfolding to_big_endian
length-to_big_endian8 n = refl

pub length-to_big_endian16 : (n : ℕ) → length (to_big_endian w16 n) ≡ 2
unfolding to_big_endian
length-to_big_endian16 n = refl

pub length-to_big_endian32 : (n : ℕ) → length (to_big_endian w32 n) ≡ 4
unfolding to_big_endian
length-to_big_endian32 n = refl

pub length-to_big_endian64 : (n : ℕ) → length (to_big_endian w64 n) ≡ 8
unfolding to_big_endian
length-to_big_endian64 n = refl

pub from-to_big_endian8 : (n : ℕ) → n < 2 ^ 8 → from_big_endian w8 (to_big_endian w8 n) ≡ n
unfolding from_big_endian to_big_endian
from-to_big_endian8 n lt = omega arith

pub from-to_big_endian16 : (n : ℕ) → n < 2 ^ 16 → from_big_endian w16 (to_big_endian w16 n) ≡ n
unfolding from_big_endian to_big_endian
from-to_big_endian16 n lt = from_be_bytes-to_be_bytes_2 n lt

pub from-to_big_endian32 : (n : ℕ) → n < 2 ^ 32 → from_big_endian w32 (to_big_endian w32 n) ≡ n
unfolding from_big_endian to_big_endian
from-to_big_endian32 n lt = from_be_bytes-to_be_bytes_4 n lt

pub from-to_big_endian64 : (n : ℕ) → n < 2 ^ 64 → from_big_endian w64 (to_big_endian w64 n) ≡ n
unfolding from_big_endian to_big_endian
from-to_big_endian64 n lt = from_be_bytes-to_be_bytes_8 n lt

pub number8_again : (n : ℕ) (rest : List ℕ) (at : ℕ) → n < 2 ^ 8 → number w8 (record { at = at; left = to_big_endian w8 n ++ rest }) ≡ Read n (record { at = at + 1; left = rest })
number8_again n rest at lt = field_again (from_big_endian w8) (to_big_endian w8 n) rest 1 at (length-to_big_endian8 n) ∙ ap (λ (k : ℕ). Read k (record { at = at + 1; left = rest })) (from-to_big_endian8 n lt)

pub number16_again : (n : ℕ) (rest : List ℕ) (at : ℕ) → n < 2 ^ 16 → number w16 (record { at = at; left = to_big_endian w16 n ++ rest }) ≡ Read n (record { at = at + 2; left = rest })
number16_again n rest at lt = field_again (from_big_endian w16) (to_big_endian w16 n) rest 2 at (length-to_big_endian16 n) ∙ ap (λ (k : ℕ). Read k (record { at = at + 2; left = rest })) (from-to_big_endian16 n lt)

pub number32_again : (n : ℕ) (rest : List ℕ) (at : ℕ) → n < 2 ^ 32 → number w32 (record { at = at; left = to_big_endian w32 n ++ rest }) ≡ Read n (record { at = at + 4; left = rest })
number32_again n rest at lt = field_again (from_big_endian w32) (to_big_endian w32 n) rest 4 at (length-to_big_endian32 n) ∙ ap (λ (k : ℕ). Read k (record { at = at + 4; left = rest })) (from-to_big_endian32 n lt)

pub number64_again : (n : ℕ) (rest : List ℕ) (at : ℕ) → n < 2 ^ 64 → number w64 (record { at = at; left = to_big_endian w64 n ++ rest }) ≡ Read n (record { at = at + 8; left = rest })
number64_again n rest at lt = field_again (from_big_endian w64) (to_big_endian w64 n) rest 8 at (length-to_big_endian64 n) ∙ ap (λ (k : ℕ). Read k (record { at = at + 8; left = rest })) (from-to_big_endian64 n lt)

-- ---- a count of things

-- m reads back what spell writes of x, whatever follows
pub record ReadsBack {A : Type 0} (m : FieldReader A) (spell : A → List ℕ) (x : A) : Type 0 where
  pub again : (rest : List ℕ) (at : ℕ) → m (record { at = at; left = spell x ++ rest }) ≡ Read x (record { at = at + length (spell x); left = rest })

pub repeat_again : {A : Type 0} (m : FieldReader A) (spell : A → List ℕ) (xs : List A) (rest : List ℕ) (at : ℕ) → AllByRecursion (ReadsBack m spell) xs
    → repeat m (length xs) (record { at = at; left = flat_map spell xs ++ rest }) ≡ Read xs (record { at = at + length (flat_map spell xs); left = rest })
unfolding repeat
repeat_again m spell [] rest at all = let e : at + 0 ≡ at = omega arith in rw e refl
repeat_again m spell (x ∷ xs) rest at all =
    let text : List ℕ = flat_map spell xs ++ rest in
    let regrouped : flat_map spell (x ∷ xs) ++ rest ≡ spell x ++ text = ap (λ (b : List ℕ). b ++ rest) (flat_map-cons spell x xs) ∙ append_assoc (spell x) (flat_map spell xs) rest in
    let len : (at + length (spell x)) + length (flat_map spell xs) ≡ at + length (flat_map spell (x ∷ xs)) = omega (arith, ap length (flat_map-cons spell x xs), length-append (spell x) (flat_map spell xs)) in
    ap (λ (b : List ℕ). repeat m (suc (length xs)) (record { at = at; left = b })) regrouped
    ∙ ap (λ r. then_read r (λ first. repeat m (length xs) >>= λ others. done (first ∷ others))) (all.0.again text at)
    ∙ ap (λ r. then_read r (λ others. done (x ∷ others))) (repeat_again m spell xs rest (at + length (spell x)) all.1)
    ∙ ap (λ (k : ℕ). Read (x ∷ xs) (record { at = k; left = rest })) len
