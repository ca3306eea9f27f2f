-- Taking a pair word apart: at its first `=`, and at a colon at the end of what stands before that.
use Rattle.std.proofs.Common.{◌≡◌, ◌≢◌, ◌<◌, ◌≤◌, ◌+◌, ◌-◌, ℕ, Bool, true, false, List, [], ◌∷◌, ◌++◌, length, take, drop, get_or, refl, sym, ap, ◌∙◌, inl, inr, arith}
use Rattle.std.specs.Prelude.{All, ◌==◌, nat_lt, slice_index, Option, Some, None}
use Rattle.std.specs.Io.BufRead.{ends_with_byte, strip_last}
use Rattle.std.specs.List.{list_any, position_or_len}
use Rattle.std.proofs.Math.Seq.{get_or-append_seam}
use Rattle.std.proofs.lemmas.Bool.{and_parts, both_ways, cases_lt, eqb-false, eqb-true, false_from_ne_true, lt-ltb, ltb-true, ne_eqb}
use Rattle.std.proofs.lemmas.List.{append-nil, append_assoc, drop_at, drop_more, drop_all, get_or-take, get_or_append_left, length-append, length-take, length_push, take-append-drop, take_all, take_at}
use Rattle.std.proofs.lemmas.List.Elements.{All-from_get_or}
use Rattle.std.proofs.lemmas.List.Recursion.{or_at, or_from_places}
use Rattle.std.proofs.lemmas.List.Sums.{fails_before_first, passes_at_first, position_or_len_is, split_at_first}
use Rattle.esdk_args.specs.PairWords.{is_equals, key_part, value_part}
use Rattle.esdk_args.specs.Spelling.{colon_text, value_text}

-- ---- at the first `=`

-- no `=` stands in the list
abbrev pub IsPlain : List ℕ → Type 0
IsPlain xs = All (λ b. b ≢ 61) xs

fails_at : (key : List ℕ) (k : ℕ) → IsPlain key → k < length key → is_equals (get_or key k 0) ≡ false
fails_at key k plain lt = ne_eqb (get_or key k 0) 61 (plain k 0 lt)

some_equals : (word : List ℕ) (k : ℕ) → k < length word → is_equals (get_or word k 0) ≡ true → list_any is_equals word ≡ true
some_equals word k lt e = or_at (list_any is_equals) is_equals refl (λ _ _. refl) word k 0 lt e

no_equals : (word : List ℕ) → ((k : ℕ) → k < length word → is_equals (get_or word k 0) ≡ false) → list_any is_equals word ≡ false
no_equals word fails = or_from_places (list_any is_equals) is_equals refl (λ _ _. refl) word 0 fails

plain_at : (key : List ℕ) → IsPlain key → position_or_len is_equals key ≡ length key
plain_at key plain = position_or_len_is is_equals key (length key) 0 (omega arith) (λ k lt. fails_at key k plain lt) (λ lt. absurd (omega (arith, lt)))

-- an element stands within the list
within : (xs : List ℕ) (x : ℕ) (ys : List ℕ) → length xs < length (xs ++ x ∷ ys)
within xs x ys = omega (arith, length-append xs (x ∷ ys))

equals_at : (key value : List ℕ) → IsPlain key → position_or_len is_equals (key ++ 61 ∷ value) ≡ length key
equals_at key value plain =
    position_or_len_is is_equals (key ++ 61 ∷ value) (length key) 0 (omega (arith, within key 61 value))
    (λ k lt. ap is_equals (get_or_append_left key (61 ∷ value) 0 k lt) ∙ fails_at key k plain lt)
    (λ lt. ap is_equals (get_or-append_seam key 61 value 0))

value_behind : (key value : List ℕ) → drop (length key + 1) (key ++ 61 ∷ value) ≡ value
value_behind key value = ap (drop (length key + 1)) (sym (append_assoc key (61 ∷ []) value)) ∙ drop_at (key ++ 61 ∷ []) value (length key + 1) (length_push key 61)

-- a key and its value are read from the word of the two
pub key_is : (key : List ℕ) (value : Option (List ℕ)) → IsPlain key → key_part (key ++ value_text value) ≡ key
key_is key None plain = rw (append-nil key, plain_at key plain) (take_all (length key) key (omega arith))
key_is key (Some value) plain = rw (equals_at key value plain) (take_at key (61 ∷ value) (length key) refl)

pub value_is : (key : List ℕ) (value : Option (List ℕ)) → IsPlain key → value_part (key ++ value_text value) ≡ value
value_is key None plain = rw (append-nil key, no_equals key (λ k lt. fails_at key k plain lt)) refl
value_is key (Some value) plain =
    rw (some_equals (key ++ 61 ∷ value) (length key) (within key 61 value) (ap is_equals (get_or-append_seam key 61 value 0)), equals_at key value plain, value_behind key value) refl

-- a word with no `=` is all key
key_alone : (word : List ℕ) → IsPlain word → key_part word ≡ word
key_alone word plain = ap key_part (sym (append-nil word)) ∙ key_is word None plain

pub no_value : (word : List ℕ) → IsPlain word → value_part word ≡ None
no_value word plain = ap value_part (sym (append-nil word)) ∙ value_is word None plain

-- a word is its key and its value
pub record IsSplit (word : List ℕ) : Type 0 where
  pub is : word ≡ key_part word ++ value_text (value_part word)
  pub plain : IsPlain (key_part word)

plain_before : (word : List ℕ) → IsPlain (key_part word)
plain_before word =
    let at = position_or_len is_equals word in
    All-from_get_or (λ b. b ≢ 61) (key_part word) 0 (λ k lt e.
    let before : k < at = omega (arith, length-take at word, lt) in
    eqb-false (get_or word k 0) 61 (fails_before_first is_equals word k 0 before) (sym (get_or-take at word k 0 before) ∙ e))

split_there : (word : List ℕ) → position_or_len is_equals word < length word → IsSplit word
split_there word lt =
    let at = position_or_len is_equals word in
    let passes = passes_at_first is_equals word 0 lt in
    record {
      is = split_at_first is_equals word 0 lt ∙ rw (eqb-true (get_or word at 0) 61 passes, some_equals word at lt passes) refl;
      plain = plain_before word;
    }

split_nowhere : (word : List ℕ) → length word ≤ position_or_len is_equals word → IsSplit word
split_nowhere word past =
    let plain : IsPlain word = All-from_get_or (λ b. b ≢ 61) word 0 (λ k lt. eqb-false (get_or word k 0) 61 (fails_before_first is_equals word k 0 (omega (arith, past, lt)))) in
    record { is = sym (append-nil word) ∙ rw (key_alone word plain, no_value word plain) refl; plain = plain_before word }

pub splits : (word : List ℕ) → IsSplit word
splits word = elim (cases_lt (position_or_len is_equals word) (length word)) [
  | inl lt ↦ split_there word lt
  | inr past ↦ split_nowhere word past
]

-- ---- at a colon at the end

-- the text ends in no colon
abbrev pub IsUnended : List ℕ → Type 0
IsUnended text = (front : List ℕ) → text ≢ front ++ 58 ∷ []

-- a colon stands last
ends_yes : (front : List ℕ) → ends_with_byte 58 (front ++ 58 ∷ []) ≡ true
ends_yes front =
    let last : length (front ++ 58 ∷ []) - 1 ≡ length front = omega (arith, length_push front 58) in
    rw (last, get_or-append_seam front 58 [] 0, lt-ltb 0 (length (front ++ 58 ∷ [])) (omega (arith, length_push front 58))) refl

strip_yes : (front : List ℕ) → strip_last 58 (front ++ 58 ∷ []) ≡ front
strip_yes front = rw (ends_yes front) (take_at front (58 ∷ []) (length (front ++ 58 ∷ []) - 1) (omega (arith, length_push front 58)))

colon_last : (text : List ℕ) → ends_with_byte 58 text ≡ true → text ≡ take (length text - 1) text ++ 58 ∷ []
colon_last text e =
    let n = length text - 1 in
    let t = and_parts (nat_lt 0 (length text)) (slice_index text n == 58) e in
    let some : 0 < length text = ltb-true 0 (length text) t.0 in
    let last : drop n text ≡ get_or text n 0 ∷ drop (n + 1) text = drop_more text n 0 (omega arith) in
    let none : drop (n + 1) text ≡ [] = drop_all (n + 1) text (omega arith) in
    sym (take-append-drop n text) ∙ ap (λ l. take n text ++ l) (last ∙ rw (none, eqb-true (slice_index text n) 58 t.1) refl)

-- none stands last
pub ends_no : (text : List ℕ) → IsUnended text → ends_with_byte 58 text ≡ false
ends_no text other = false_from_ne_true (ends_with_byte 58 text) (λ e. other (take (length text - 1) text) (colon_last text e))

pub strip_no : (text : List ℕ) → IsUnended text → strip_last 58 text ≡ text
strip_no text other = rw (ends_no text other) refl

-- what stands before a colon, and the colon, are read from the text of the two
pub required_is : (key : List ℕ) (b : Bool) → (b ≡ false → IsUnended key) → ends_with_byte 58 (key ++ colon_text b) ≡ b
required_is key true other = ends_yes key
required_is key false other = ap (ends_with_byte 58) (append-nil key) ∙ ends_no key (other refl)

pub stripped_is : (key : List ℕ) (b : Bool) → (b ≡ false → IsUnended key) → strip_last 58 (key ++ colon_text b) ≡ key
stripped_is key true other = strip_yes key
stripped_is key false other = ap (strip_last 58) (append-nil key) ∙ strip_no key (other refl)

-- a text is what stands before its last colon, and that colon
pub record IsEnded (text : List ℕ) : Type 0 where
  pub is : text ≡ strip_last 58 text ++ colon_text (ends_with_byte 58 text)
  pub unended : ends_with_byte 58 text ≡ false → IsUnended (strip_last 58 text)

ended_as : (text : List ℕ) (b : Bool) → ends_with_byte 58 text ≡ b → IsEnded text
ended_as text true e = record { is = colon_last text e ∙ rw e refl; unended = λ no. absurd (both_ways (ends_with_byte 58 text) no e) }
ended_as text false e = record {
  is = sym (append-nil text) ∙ rw e refl;
  unended = λ no front is. both_ways (ends_with_byte 58 text) e (ap (ends_with_byte 58) (rw e at is) ∙ ends_yes front);
}

pub ends : (text : List ℕ) → IsEnded text
ends text = ended_as text (ends_with_byte 58 text) refl
