-- Laws of lines of armour text, which an `impl` can cite from specs/ alone.
use Rattle.std.proofs.Common.{◌≡◌, ℕ, zero, suc, ◌+◌, ◌*◌, ◌/◌, ◌%◌, ◌≤◌, List, [], ◌∷◌, ◌++◌}
use Rattle.std.proofs.Common.{length, take, drop, slice_set, replicate, sym, ap, ◌∙◌, arith}
use Rattle.std.proofs.lemmas.List.{append_assoc, length-append, length-replicate, take-append-le}
use Rattle.std.proofs.lemmas.List.{drop-append-le, length-drop, take_all, set_at}
use Rattle.std.proofs.Math.Seq.{take-append-add}
use Rattle.base64.specs.GeneralPurpose.{encode_of, encoded_size_of}
use Rattle.base64.specs.Engines.{standard}
use Rattle.base64.proofs.EngineFacts.{encode_of-append, encode_of-nil}
use Rattle.std.specs.Prelude.{Result, Ok}
use Rattle.base64.specs.declared.encode.EncodeSliceError.{EncodeSliceError}
use Rattle.base64.proofs.RoundTrip.{length-encode_symbols}
use Rattle.base64.specs.Rfc4648.{encode_symbols, padding_len, unpadded_len}
use Rattle.armour_core.specs.ArmourText.{all_in_lines, armour_text, in_lines, line_feed}

pub armour_nil : armour_text [] ≡ []
unfolding armour_text in_lines
armour_nil = ap all_in_lines (encode_of-nil standard)

-- how many characters stand for so many bytes
pub encoded_length : (bytes : List ℕ)
    → length (encode_of standard bytes) ≡ encoded_size_of standard (length bytes)
encoded_length bytes =
    let pads : ℕ = padding_len (length bytes) in
    let padding : ℕ = 61 in
    length-append (encode_symbols standard.encode_table bytes) (replicate pads padding)
    ∙ ap (λ (n : ℕ). n + length (replicate pads padding))
    (length-encode_symbols standard.encode_table bytes)
    ∙ ap (λ (n : ℕ). unpadded_len (length bytes) + n) (length-replicate pads padding)

one_line : (cs : List ℕ) → 1 ≤ length cs → length cs ≤ 76 → all_in_lines cs ≡ cs ++ line_feed ∷ []
unfolding in_lines
one_line cs some few =
    let count : (length cs + 75) / 76 ≡ 1 = omega (arith, some, few) in
    ap (λ (n : ℕ). in_lines n cs) count
    ∙ ap (λ (xs : List ℕ). xs ++ line_feed ∷ []) (take_all 76 cs few)

-- the bytes of a line
pub armour_line : (bytes : List ℕ) → 1 ≤ length bytes → length bytes ≤ 57
    → armour_text bytes ≡ encode_of standard bytes ++ line_feed ∷ []
unfolding armour_text
armour_line bytes some few =
    let len = encoded_length bytes in
    one_line (encode_of standard bytes) (omega (arith, len, some, few))
    (omega (arith, len, some, few))

lines_join : (n m : ℕ) (a b : List ℕ) → length a ≡ 76 * n
    → in_lines (n + m) (a ++ b) ≡ in_lines n a ++ in_lines m b
unfolding in_lines
lines_join zero m [] b len = let none : 0 + m ≡ m = omega arith in ap (λ (k : ℕ). in_lines k b) none
lines_join zero m (x ∷ a) b len = absurd (omega (arith, len))
lines_join (suc n) m a b len =
    let more : suc n + m ≡ suc (n + m) = omega arith in
    let front = take-append-le 76 a b (omega (arith, len)) in
    let back = drop-append-le 76 a b (omega (arith, len)) in
    let rest = lines_join n m (drop 76 a) b (omega (arith, len, length-drop 76 a)) in
    ap (λ (k : ℕ). in_lines k (a ++ b)) more
    ∙ ap (λ (xs : List ℕ). xs ++ line_feed ∷ in_lines (n + m) (drop 76 (a ++ b))) front
    ∙ ap (λ (xs : List ℕ). take 76 a ++ line_feed ∷ xs) (ap (in_lines (n + m)) back ∙ rest)
    ∙ sym (append_assoc (take 76 a) (line_feed ∷ in_lines n (drop 76 a)) (in_lines m b))

-- behind full lines
pub armour_append : (a b : List ℕ) → length a % 57 ≡ 0
    → armour_text (a ++ b) ≡ armour_text a ++ armour_text b
unfolding armour_text
armour_append a b whole =
    let k : ℕ = length a / 57 in
    let ea : List ℕ = encode_of standard a in
    let eb : List ℕ = encode_of standard b in
    let la : length ea ≡ 76 * k = encoded_length a ∙ omega (arith, whole) in
    let both : encode_of standard (a ++ b) ≡ ea ++ eb =
    encode_of-append standard a b (omega (arith, whole)) in
    let count : (length (ea ++ eb) + 75) / 76 ≡ k + (length eb + 75) / 76 =
    ap (λ (n : ℕ). (n + 75) / 76) (length-append ea eb) ∙ omega (arith, la) in
    let alone : (length ea + 75) / 76 ≡ k = omega (arith, la) in
    ap all_in_lines both
    ∙ ap (λ (n : ℕ). in_lines n (ea ++ eb)) count
    ∙ lines_join k ((length eb + 75) / 76) ea eb la
    ∙ ap (λ (n : ℕ). in_lines n ea ++ all_in_lines eb) (sym alone)

-- ---- a line as it is written

line_end : (front rest : List ℕ) (count : ℕ) → length front ≡ count → 1 ≤ length rest
    → take (count + 1) (slice_set (front ++ rest) count 10) ≡ front ++ 10 ∷ []
line_end front [] count len some = absurd (omega (arith, some))
line_end front (x ∷ rest) count len some =
    ap (take (count + 1)) (set_at front x rest 10 count len)
    ∙ ap (λ (n : ℕ). take (n + 1) (front ++ 10 ∷ rest)) (sym len)
    ∙ take-append-add front (10 ∷ rest) 1

pub line_written : (bytes old out : List ℕ) (count : ℕ) → 1 ≤ length bytes → length bytes ≤ 57
    → length old ≡ 77
    → out ≡ encode_of standard bytes ++ drop (encoded_size_of standard (length bytes)) old
    → count ≡ encoded_size_of standard (length bytes)
    → take (count + 1) (slice_set out count 10) ≡ armour_text bytes
line_written bytes old out count some few size written is =
    let encoded : List ℕ = encode_of standard bytes in
    let left : List ℕ = drop (encoded_size_of standard (length bytes)) old in
    let len = encoded_length bytes in
    ap (λ (xs : List ℕ). take (count + 1) (slice_set xs count 10)) written
    ∙ line_end encoded left count (len ∙ sym is)
    (omega (arith, size, few, length-drop (encoded_size_of standard (length bytes)) old))
    ∙ sym (armour_line bytes some few)

-- the count that was answered
pub count_is : (count size room : ℕ) (result : Result ℕ EncodeSliceError)
    → (size ≤ room → result ≡ Ok size) → size ≤ room → result ≡ Ok count → count ≡ size
count_is count size room result fits le is = let same = sym is ∙ fits le in cc same
