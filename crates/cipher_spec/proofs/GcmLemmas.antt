-- Counter mode undoes itself, so what was sealed opens to its text, and nothing else opens to it.
use Rattle.std.proofs.Common.{cond, ◌≡◌, ◌<◌, ℕ, List, length, get_or, bit_xor, refl, ap, sym, ◌∙◌, Bool, true, false, Some, None, arith}
use Rattle.std.specs.Int.Bits.{xor_assoc, xor_self, xor_zero_r}
use Rattle.std.specs.Str.{bytes_eq}
use Rattle.std.proofs.lemmas.List.FromFn.{fill_by_all, get_or-map-range_with_len, length-map-range_with_len}
use Rattle.std.proofs.lemmas.Slice.Eq.{bytes_eq-Decides}
use Rattle.cipher_spec.specs.Gcm.{cipher_of, gctr, mask, opened, sealed, tag_of}

-- to add a number twice is to add nothing
pub added_twice : (a m : ℕ) → bit_xor (bit_xor a m) m ≡ a
added_twice a m = xor_assoc a m m ∙ ap (bit_xor a) (xor_self m) ∙ xor_zero_r a

-- GCTR keeps the length
pub length-gctr : (key initial text : List ℕ) → length (gctr key initial text) ≡ length text
length-gctr key initial text =
    length-map-range_with_len (λ i. bit_xor (get_or text i 0) (mask key initial i)) 0 (length text)

-- byte i of what GCTR gives
pub get_or-gctr : (key initial text : List ℕ) (i : ℕ) → i < length text
    → get_or (gctr key initial text) i 0 ≡ bit_xor (get_or text i 0) (mask key initial i)
get_or-gctr key initial text i h =
    get_or-map-range_with_len (λ i. bit_xor (get_or text i 0) (mask key initial i)) 0 (length text) i i 0 h (omega arith)

-- GCTR, done twice, gives the text back
pub gctr_twice : (key initial text : List ℕ) → gctr key initial (gctr key initial text) ≡ text
gctr_twice key initial text =
    let same : length text ≡ length (gctr key initial text) = sym (length-gctr key initial text) in
    sym (fill_by_all (λ i. bit_xor (get_or (gctr key initial text) i 0) (mask key initial i)) text
    (length (gctr key initial text)) 0 same
    (λ i h. let inside : i < length text = omega arith in
    sym (ap (λ a. bit_xor a (mask key initial i)) (get_or-gctr key initial text i inside)
    ∙ added_twice (get_or text i 0) (mask key initial i))))

-- a ciphertext is as long as its text
pub length-cipher_of : (key iv text : List ℕ) → length (cipher_of key iv text) ≡ length text
unfolding cipher_of
length-cipher_of key iv text = length-gctr key _ text

-- a tag has 16 bytes
pub length-tag_of : (key iv aad cipher : List ℕ) → length (tag_of key iv aad cipher) ≡ 16
unfolding tag_of
length-tag_of key iv aad cipher = refl

-- to encipher a ciphertext gives its text
pub cipher_of_twice : (key iv text : List ℕ) → cipher_of key iv (cipher_of key iv text) ≡ text
unfolding cipher_of
cipher_of_twice key iv text = gctr_twice key _ text

-- a choice that gives a value was made for it
chosen : (b : Bool) (x y : List ℕ) → cond b (Some x) None ≡ Some y → (b ≡ true) × (x ≡ y)
chosen true x y h = (refl, cc)
chosen false x y h = (cc, cc)

-- what opens was sealed
pub sealed_from_opened : (key iv aad text cipher tag : List ℕ) → opened key iv aad cipher tag ≡ Some text
    → sealed key iv aad text ≡ (cipher, tag)
unfolding opened sealed
sealed_from_opened key iv aad text cipher tag h =
    let parts = chosen (bytes_eq (tag_of key iv aad cipher) tag) (cipher_of key iv cipher) text h in
    let tags : tag_of key iv aad cipher ≡ tag = (bytes_eq-Decides (tag_of key iv aad cipher) tag).0 parts.0 in
    let back : cipher_of key iv text ≡ cipher = ap (cipher_of key iv) (sym parts.1) ∙ cipher_of_twice key iv cipher in
    rw (back, tags) refl

-- what was sealed opens
pub opened_from_sealed : (key iv aad text cipher tag : List ℕ) → sealed key iv aad text ≡ (cipher, tag)
    → opened key iv aad cipher tag ≡ Some text
unfolding opened sealed
opened_from_sealed key iv aad text cipher tag h =
    let is : cipher_of key iv text ≡ cipher = ap (λ (p : List ℕ × List ℕ). p.0) h in
    let tags : tag_of key iv aad cipher ≡ tag = ap (tag_of key iv aad) (sym is) ∙ ap (λ (p : List ℕ × List ℕ). p.1) h in
    let right : bytes_eq (tag_of key iv aad cipher) tag ≡ true = (bytes_eq-Decides (tag_of key iv aad cipher) tag).1 tags in
    let text_is : cipher_of key iv cipher ≡ text = ap (cipher_of key iv) (sym is) ∙ cipher_of_twice key iv text in
    rw (right, text_is) refl
