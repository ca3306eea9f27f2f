-- Which word names which pair.
use Rattle.std.proofs.Common.{◌≡◌, ◌≢◌, ℕ, Bool, true, false, List, [], ◌++◌, length, take, refl, sym, ap, subst, ◌∙◌, inl, inr, arith}
use Rattle.std.specs.Prelude.{◌==◌, ◌&&◌, ◌||◌, not, is_some, Option, Some, None}
use Rattle.std.specs.Io.BufRead.{ends_with_byte, strip_last}
use Rattle.std.proofs.lemmas.Bool.{and_parts, and_from, eqb-false, ne_eqb, not-true, not_from_false, or_left, or_right, both_ways, cases_Bool}
use Rattle.std.proofs.lemmas.List.{nil_from_length, take_at}
use Rattle.std.proofs.lemmas.List.Elements.{All-append, All-cons, All-nil, All-same, All-take}
use Rattle.std.proofs.lemmas.Option.{cond_some}
use Rattle.esdk_args.specs.declared.pair_words.PairWord.{PairWord}
use Rattle.esdk_args.specs.PairWords.{key_part, value_part, pair_of}
use Rattle.esdk_args.specs.Spelling.{IsPair, colon_text, value_text, pair_word_text}
use Rattle.esdk_args.proofs.Splits.{IsPlain, IsUnended, key_is, value_is, splits, required_is, stripped_is, ends}

-- whether these parts are those of a pair
abbrev passes : List ℕ → Bool → Option (List ℕ) → Bool
passes key required value = not (length key == 0) && (required || is_some value)

abbrev pair_with : List ℕ → Bool → Option (List ℕ) → PairWord
pair_with key required value = record { key = key; value = value; required = required }

-- ---- from a pair to its word

passes_when : (pair : PairWord) → IsPair pair → passes pair.key pair.required pair.value ≡ true
passes_when pair is =
    and_from (not (length pair.key == 0)) (pair.required || is_some pair.value)
    (not_from_false (length pair.key == 0) (ne_eqb (length pair.key) 0 (λ e. is.some (nil_from_length pair.key e))))
    (elim (cases_Bool pair.required) [
      | inl required ↦ or_left pair.required (is_some pair.value) required
      | inr optional ↦ or_right pair.required (is_some pair.value) (is.optional optional).0
    ])

colon_plain : (b : Bool) → IsPlain (colon_text b)
colon_plain true = All-cons (λ b. b ≢ 61) 58 [] (λ e. omega (arith, e)) (All-nil (λ b. b ≢ 61))
colon_plain false = All-nil (λ b. b ≢ 61)

-- the word of a pair names it
pub pair_read : (pair : PairWord) → IsPair pair → pair_of (pair_word_text pair) ≡ Some pair
unfolding pair_of
pair_read pair is =
    let front = pair.key ++ colon_text pair.required in
    let plain : IsPlain front = All-append (λ b. b ≢ 61) pair.key (colon_text pair.required) is.plain (colon_plain pair.required) in
    let unended : pair.required ≡ false → IsUnended pair.key = λ optional. (is.optional optional).1 in
    rw (key_is front pair.value plain, value_is front pair.value plain, stripped_is pair.key pair.required unended, required_is pair.key pair.required unended, passes_when pair is) refl

-- ---- from a word to its pair

-- a key that stands at the front of a word
key_plain : (key tail front : List ℕ) → front ≡ key ++ tail → IsPlain front → IsPlain key
key_plain key tail front is plain =
    All-same (λ b. b ≢ 61) key (take (length key) front) (sym (ap (take (length key)) is ∙ take_at key tail (length key) refl)) (All-take (λ b. b ≢ 61) (length key) front plain)

optional_value : (required : Bool) (value : Option (List ℕ)) → (required || is_some value) ≡ true → required ≡ false → is_some value ≡ true
optional_value true value either optional = absurd (both_ways true optional refl)
optional_value false value either optional = either

-- a word and the pair that its parts are
pub record NamesThis (word : List ℕ) (pair : PairWord) : Type 0 where
  pub is : word ≡ pair_word_text pair
  pub fits : IsPair pair

named_with : (word key : List ℕ) (required : Bool) (value : Option (List ℕ)) (front : List ℕ) → word ≡ front ++ value_text value → IsPlain front → front ≡ key ++ colon_text required
    → (required ≡ false → IsUnended key) → passes key required value ≡ true → NamesThis word (pair_with key required value)
named_with word key required value front is plain ended unended passed =
    let t = and_parts (not (length key == 0)) (required || is_some value) passed in
    let whole : word ≡ (key ++ colon_text required) ++ value_text value = is ∙ ap (λ l. l ++ value_text value) ended in
    record {
      is = whole;
      fits = record {
        some = λ none. eqb-false (length key) 0 (not-true (length key == 0) t.0) (ap length none);
        plain = key_plain key (colon_text required) front ended plain;
        optional = λ optional. (optional_value required value t.1 optional, unended optional);
      };
    }

-- a word that names a pair is the word of this pair
pub pair_named : (word : List ℕ) (pair : PairWord) → pair_of word ≡ Some pair → NamesThis word pair
unfolding pair_of
pair_named word pair e =
    let front = key_part word in
    let key = strip_last 58 front in
    let required = ends_with_byte 58 front in
    let t = cond_some (passes key required (value_part word)) (pair_with key required (value_part word)) pair e in
    let split = splits word in
    let ended = ends front in
    subst (NamesThis word) t.1 (named_with word key required (value_part word) front split.is split.plain ended.is ended.unended t.0)

-- a word that names no pair
pub no_pair : (word : List ℕ) → ((pair : PairWord) → IsPair pair → word ≢ pair_word_text pair) → pair_of word ≡ None
no_pair word other = none_of (pair_of word) refl
  where
    none_of : (found : Option PairWord) → pair_of word ≡ found → pair_of word ≡ None
    none_of None is = is
    none_of (Some pair) is = let named = pair_named word pair is in absurd (other pair named.fits named.is)
