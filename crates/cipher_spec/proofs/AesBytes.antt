-- What AES-256 gives is 16 bytes, for any block and any key of bytes.
use Rattle.std.proofs.Common.{◌≡◌, ℕ, zero, suc, ◌+◌, ◌-◌, ◌*◌, ◌/◌, ◌%◌, ◌^◌, ◌<◌, ◌≤◌, ◌==◌, List, [], ◌∷◌, ◌++◌, length, map, cond, Bool, true, false, get_or, bit_xor, refl, inl, inr, arith}
use Rattle.std.specs.List.{All, range_with_len}
use Rattle.std.proofs.lemmas.Bool.{cases_lt}
use Rattle.std.proofs.lemmas.Nat.{xor_lt, mod_below}
use Rattle.std.proofs.lemmas.List.{get_or_past, get_or_append_left, get_or-append_right}
use Rattle.std.proofs.lemmas.List.Elements.{All-from_get_or}
use Rattle.std.proofs.lemmas.List.FromFn.{get_or-map-range_with_len, length-map-range_with_len}
use Rattle.cipher_spec.specs.Field.{xtime, xtimes, add_if}
use Rattle.cipher_spec.specs.Aes.{at, state_of, sub_byte, sub_bytes, shift_rows, word_of, word_at, add_word, sub_word, rot_word, rcon, changed, key_word, words, key_expansion, round_keys, last_round, cipher, aes}

-- each member is a byte; past the end stands 0
abbrev pub AreBytes : List ℕ → Type 0
AreBytes xs = (i : ℕ) → get_or xs i 0 < 256

-- the members of a list are bytes where the function that it lists gives bytes
map_bytes : (f : ℕ → ℕ) (n : ℕ) → ((k : ℕ) → f k < 256) → AreBytes (map f (range_with_len 0 n))
map_bytes f n h i = elim (cases_lt i n) [
  | inl l ↦ rw (get_or-map-range_with_len f 0 n i i 0 l (omega arith)) (h i)
  | inr g ↦ let e : length (map f (range_with_len 0 n)) ≤ i = omega (arith, length-map-range_with_len f 0 n) in
      rw (get_or_past _ i 0 e) (omega arith)
]

state_bytes : (f : ℕ → ℕ → ℕ) → ((r c : ℕ) → f r c < 256) → AreBytes (state_of f)
state_bytes f h = map_bytes (λ k. f (k % 4) (k / 4)) 16 (λ k. h (k % 4) (k / 4))

sub_byte_is : (a : ℕ) → sub_byte a < 256
unfolding sub_byte
sub_byte_is a = omega arith

sum_is : (a b : ℕ) → a < 256 → b < 256 → bit_xor a b < 256
sum_is a b h l = xor_lt 8 a b h l

add_if_is : (bit a b : ℕ) → a < 256 → b < 256 → add_if bit a b < 256
add_if_is zero a b h l = h
add_if_is (suc bit) a b h l = sum_is a b h l

-- the powers of x are bytes
xtime_is : (b : ℕ) → xtime b < 256
xtime_is b = add_if_is (b / 2 ^ 7 % 2) (b * 2 % 2 ^ 8) 27 (mod_below (b * 2) 256 (omega arith)) (omega arith)

xtimes_is : (n : ℕ) → xtimes n 1 < 256
xtimes_is zero = omega arith
xtimes_is (suc n) = xtime_is (xtimes n 1)

word_bytes : (f : ℕ → ℕ) → ((k : ℕ) → f k < 256) → AreBytes (word_of f)
word_bytes f h = map_bytes f 4 h

add_word_is : (a b : List ℕ) → AreBytes a → AreBytes b → AreBytes (add_word a b)
add_word_is a b h l = word_bytes (λ j. bit_xor (get_or a j 0) (get_or b j 0)) (λ j. sum_is _ _ (h j) (l j))

rcon_is : (n : ℕ) → AreBytes (rcon n)
rcon_is n zero = xtimes_is (n - 1)
rcon_is n (suc zero) = omega arith
rcon_is n (suc (suc zero)) = omega arith
rcon_is n (suc (suc (suc zero))) = omega arith
rcon_is n (suc (suc (suc (suc i)))) = omega arith

cond_is : (b : Bool) (x y : List ℕ) → AreBytes x → AreBytes y → AreBytes (cond b x y)
cond_is true x y h l = h
cond_is false x y h l = l

changed_is : (i : ℕ) (temp : List ℕ) → AreBytes temp → AreBytes (changed i temp)
changed_is i temp h =
    let subbed : AreBytes (sub_word temp) = word_bytes (λ j. sub_byte (get_or temp j 0)) (λ j. sub_byte_is (get_or temp j 0)) in
    let turned : AreBytes (sub_word (rot_word temp)) = word_bytes (λ j. sub_byte (get_or (rot_word temp) j 0)) (λ j. sub_byte_is (get_or (rot_word temp) j 0)) in
    cond_is (i % 8 == 0) _ _ (add_word_is (sub_word (rot_word temp)) (rcon (i / 8)) turned (rcon_is (i / 8))) (cond_is (i % 8 == 4) _ _ subbed h)

-- each word of a list of words has bytes
abbrev pub AreWords : List (List ℕ) → Type 0
AreWords w = (i : ℕ) → AreBytes (word_at w i)

no_word : AreBytes []
no_word i = omega arith

map_words : (f : ℕ → List ℕ) (n : ℕ) → ((k : ℕ) → AreBytes (f k)) → AreWords (map f (range_with_len 0 n))
map_words f n h i = elim (cases_lt i n) [
  | inl l ↦ rw (get_or-map-range_with_len f 0 n i i [] l (omega arith)) (h i)
  | inr g ↦ let e : length (map f (range_with_len 0 n)) ≤ i = omega (arith, length-map-range_with_len f 0 n) in
      rw (get_or_past _ i [] e) no_word
]

lone_word : (y : List ℕ) → AreBytes y → AreWords (y ∷ [])
lone_word y h zero = h
lone_word y h (suc i) = no_word

more_words : (w : List (List ℕ)) (y : List ℕ) → AreWords w → AreBytes y → AreWords (w ++ y ∷ [])
more_words w y h l i = elim (cases_lt i (length w)) [
  | inl b ↦ rw (get_or_append_left w (y ∷ []) [] i b) (h i)
  | inr g ↦ rw (get_or-append_right w (y ∷ []) (length w) i [] refl g) (lone_word y l (i - length w))
]

words_are : (key : List ℕ) (n : ℕ) → AreBytes key → AreWords (words key n)
unfolding words
words_are key zero h = map_words (key_word key) 8 (λ k. word_bytes (λ j. get_or key (4 * k + j) 0) (λ j. h (4 * k + j)))
words_are key (suc n) h = more_words (words key n) _ (words_are key n h)
    (add_word_is (word_at (words key n) (n + 8 - 8)) _ (words_are key n h (n + 8 - 8))
    (changed_is (n + 8) (word_at (words key n) (n + 8 - 1)) (words_are key n h (n + 8 - 1))))

key_at_is : (key : List ℕ) → AreBytes key → AreBytes (word_at (round_keys key) 14)
unfolding round_keys key_expansion
key_at_is key h = state_bytes (λ row c. get_or (word_at (words key 52) (4 * 14 + c)) row 0) (λ r c. words_are key 52 h (56 + c) r)

last_is : (s k : List ℕ) → AreBytes k → AreBytes (last_round s k)
unfolding last_round
last_is s k h =
    let subbed : AreBytes (sub_bytes s) = state_bytes (λ r c. sub_byte (at s r c)) (λ r c. sub_byte_is (at s r c)) in
    let shifted : AreBytes (shift_rows (sub_bytes s)) = state_bytes (λ r c. at (sub_bytes s) r ((c + r) % 4)) (λ r c. subbed (r + 4 * ((c + r) % 4))) in
    state_bytes (λ r c. bit_xor (at (shift_rows (sub_bytes s)) r c) (at k r c)) (λ r c. sum_is _ _ (shifted (r + 4 * c)) (h (r + 4 * c)))

pub aes_long : (key x : List ℕ) → length (aes key x) ≡ 16
unfolding aes cipher last_round
aes_long key x = refl

bytes_of : (xs : List ℕ) → All (λ b. b < 256) xs → AreBytes xs
bytes_of xs h i = elim (cases_lt i (length xs)) [
  | inl l ↦ h i 0 l
  | inr g ↦ rw (get_or_past xs i 0 g) (omega arith)
]

pub aes_bytes : (key x : List ℕ) → All (λ b. b < 256) key → All (λ b. b < 256) (aes key x)
unfolding aes cipher
aes_bytes key x h = All-from_get_or (λ b. b < 256) (aes key x) 0 (λ i _. last_is _ _ (key_at_is key (bytes_of key h)) i)
