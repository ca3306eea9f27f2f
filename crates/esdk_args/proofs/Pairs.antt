-- Which words name which pairs, one after another.
use Rattle.std.proofs.Common.{◌≡◌, ◌≢◌, ◌<◌, ◌+◌, ℕ, zero, suc, true, false, List, [], ◌∷◌, ◌++◌, length, take, drop, get_or, refl, sym, ap, subst, ◌∙◌, inl, inr, arith}
use Rattle.std.specs.Prelude.{All, is_none, Option, Some, None, map}
use Rattle.std.specs.List.{filter_map}
use borrow.Author.Count.{below_more}
use Rattle.std.proofs.lemmas.Bool.{cases_lt, eq-eqb, ne_eqb}
use Rattle.std.proofs.lemmas.List.{drop_more, get_or-take, get_or_append_left, get_or_at, length-append, length-map, length-take-le, take-append-drop, take_more}
use Rattle.std.proofs.lemmas.List.Elements.{All-cons, All-head, All-nil, All-tail, filter_map-append}
use Rattle.std.proofs.lemmas.List.Sums.{fails_before_first, passes_at_first, position_or_len_is}
use Rattle.esdk_args.specs.declared.pair_words.PairWord.{PairWord}
use Rattle.esdk_args.specs.PairWords.{bad_pair, number_after, pair_of, pairs_before, pairs_of}
use Rattle.esdk_args.specs.Spelling.{ArePairs, IsFirstBadPair, IsPair, pair_word_text}
use Rattle.esdk_args.proofs.OnePair.{pair_named, pair_read, no_pair}

-- ---- so many words name pairs

-- the word names a pair
abbrev pub NamesPair : List ℕ → Type 0
NamesPair word = is_none (pair_of word) ≡ false

-- each of the first n words names one
abbrev pub NamePairs : List (List ℕ) → ℕ → Type 0
NamePairs words n = (k : ℕ) → k < n → NamesPair (get_or words k [])

-- so many words stand before the first that names none
before_bad : (words : List (List ℕ)) (n : ℕ) → n < length words → NamePairs words n → pair_of (get_or words n []) ≡ None → pairs_before words ≡ n
before_bad words n lt good bad = position_or_len_is (λ word. is_none (pair_of word)) words n [] (omega arith) good (λ _. ap is_none bad)

-- the first word that names no pair is bad
pub pairs_bad : (words : List (List ℕ)) (n : ℕ) → n < length words → NamePairs words n
    → pair_of (get_or words n []) ≡ None → bad_pair words ≡ Some (number_after n)
unfolding bad_pair
pairs_bad words n lt good bad = rw (
  before_bad words n lt good bad,
  ne_eqb n (length words) (λ same. omega (arith, same, lt)),
) refl

-- words that all name pairs have no bad one
pub pairs_good : (words : List (List ℕ)) → NamePairs words (length words) → bad_pair words ≡ None
unfolding bad_pair
pairs_good words good =
    let all : pairs_before words ≡ length words =
    position_or_len_is (λ word. is_none (pair_of word)) words (length words) [] (omega arith) good
    (λ lt. absurd (omega (arith, lt))) in
    rw (all, eq-eqb (length words) (length words) refl) refl

-- one more word names a pair
pub name_more : (words : List (List ℕ)) (n : ℕ) (pair : PairWord) → pair_of (get_or words n []) ≡ Some pair → NamePairs words n → NamePairs words (n + 1)
name_more words n pair is good = below_more (λ k. NamesPair (get_or words k [])) n good (ap is_none is)

-- the pairs of one more word
pub pairs_more : (words : List (List ℕ)) (n : ℕ) → n < length words
    → pairs_of (take (n + 1) words) ≡ pairs_of (take n words) ++ pairs_of (get_or words n [] ∷ [])
pairs_more words n lt =
    ap pairs_of (take_more words n [] lt) ∙ filter_map-append pair_of (take n words) (get_or words n [] ∷ [])

-- ---- from pairs to their words

-- the words of these pairs name pairs
name_all : (pairs : List PairWord) → All IsPair pairs → NamePairs (map pair_word_text pairs) (length pairs)
name_all [] all k lt = absurd (omega (arith, lt))
name_all (pair ∷ pairs) all zero lt = ap is_none (pair_read pair (All-head IsPair pair pairs all))
name_all (pair ∷ pairs) all (suc k) lt = name_all pairs (All-tail IsPair pair pairs all) k (omega (arith, lt))

-- they name these pairs
pairs_back : (pairs : List PairWord) → All IsPair pairs → filter_map pair_of (map pair_word_text pairs) ≡ pairs
pairs_back [] all = refl
pairs_back (pair ∷ pairs) all = rw (pair_read pair (All-head IsPair pair pairs all), pairs_back pairs (All-tail IsPair pair pairs all)) refl

-- the words of pairs are good, and read as these pairs
pub pairs_taken : (pairs : List PairWord) → All IsPair pairs → bad_pair (map pair_word_text pairs) ≡ None
pairs_taken pairs all =
    pairs_good (map pair_word_text pairs) (rw (length-map pairs pair_word_text) (name_all pairs all))

pub pairs_read : (words : List (List ℕ)) (pairs : List PairWord) → ArePairs words pairs
    → pairs_of words ≡ pairs
pairs_read words pairs are = ap pairs_of are.0 ∙ pairs_back pairs are.1

-- a word behind them
bad_at : (pairs : List PairWord) (bad : List ℕ) (behind : List (List ℕ)) → get_or (map pair_word_text pairs ++ bad ∷ behind) (length pairs) [] ≡ bad
bad_at pairs bad behind = get_or_at (map pair_word_text pairs) bad behind [] (length pairs) (length-map pairs pair_word_text)

bad_within : (pairs : List PairWord) (bad : List ℕ) (behind : List (List ℕ)) → length pairs < length (map pair_word_text pairs ++ bad ∷ behind)
bad_within pairs bad behind = omega (arith, length-append (map pair_word_text pairs) (bad ∷ behind), length-map pairs pair_word_text)

name_before : (pairs : List PairWord) (bad : List ℕ) (behind : List (List ℕ)) → All IsPair pairs → NamePairs (map pair_word_text pairs ++ bad ∷ behind) (length pairs)
name_before pairs bad behind all k lt =
    subst NamesPair (sym (get_or_append_left (map pair_word_text pairs) (bad ∷ behind) [] k (omega (arith, length-map pairs pair_word_text, lt)))) (name_all pairs all k lt)

-- the first word that names no pair, behind those of pairs, is bad
bad_named : (pairs : List PairWord) (bad : List ℕ) (behind : List (List ℕ)) → All IsPair pairs → ((pair : PairWord) → IsPair pair → bad ≢ pair_word_text pair)
    → bad_pair (map pair_word_text pairs ++ bad ∷ behind) ≡ Some (number_after (length pairs))
bad_named pairs bad behind all other =
    let words = map pair_word_text pairs ++ bad ∷ behind in
    let at = bad_at pairs bad behind in
    let lt = bad_within pairs bad behind in
    pairs_bad words (length pairs) lt (name_before pairs bad behind all) (ap pair_of at ∙ no_pair bad other)

-- the first bad pair word is named
pub first_bad_named : (words : List (List ℕ)) (n : ℕ) → IsFirstBadPair words n
    → bad_pair words ≡ Some n
first_bad_named words n b =
    ap bad_pair b.are ∙ bad_named b.before b.bad b.behind b.pairs b.no_pair
    ∙ ap (λ k. Some k) (sym b.number)

-- ---- from words to their pairs

-- the words are those of the pairs that they name
pub record NameThese (words : List (List ℕ)) : Type 0 where
  pub are : words ≡ map pair_word_text (filter_map pair_of words)
  pub pairs : All IsPair (filter_map pair_of words)

these_more : (word : List ℕ) (words : List (List ℕ)) (found : Option PairWord) → pair_of word ≡ found → is_none found ≡ false → NameThese words → NameThese (word ∷ words)
these_more word words None is some rest = absurd cc
these_more word words (Some pair) is some rest =
    let named = pair_named word pair is in
    record {
      are = rw is (ap (λ w. w ∷ words) named.is ∙ ap (λ l. pair_word_text pair ∷ l) rest.are);
      pairs = rw is (All-cons IsPair pair (filter_map pair_of words) named.fits rest.pairs);
    }

these : (words : List (List ℕ)) → NamePairs words (length words) → NameThese words
these [] good = record { are = refl; pairs = All-nil IsPair }
these (word ∷ words) good =
    these_more word words (pair_of word) refl (good 0 (omega arith))
    (these words (λ k lt. good (suc k) (omega (arith, lt))))

-- what is read of the words
data AreRead (words : List (List ℕ)) : Type 0 where
  all_pairs : NamePairs words (length words) → AreRead words
  first_bad : (n : ℕ) → n < length words → NamePairs words n → pair_of (get_or words n []) ≡ None → AreRead words

none_is : (found : Option PairWord) → is_none found ≡ true → found ≡ None
none_is None e = refl
none_is (Some pair) e = absurd cc

are_read : (words : List (List ℕ)) → AreRead words
are_read words =
    let names = λ (word : List ℕ). is_none (pair_of word) in
    elim (cases_lt (pairs_before words) (length words)) [
      | inl lt ↦ first_bad (pairs_before words) lt (λ k before. fails_before_first names words k [] before) (none_is (pair_of (get_or words (pairs_before words) [])) (passes_at_first names words [] lt))
      | inr past ↦ all_pairs (λ k lt. fails_before_first names words k [] (omega (arith, past, lt)))
    ]

-- words of which none is bad are the words of the pairs that are read
pub pairs_named : (words : List (List ℕ)) → bad_pair words ≡ None → ArePairs words (pairs_of words)
pairs_named words e = by_reading (are_read words)
  where
    by_reading : AreRead words → ArePairs words (pairs_of words)
    by_reading (all_pairs good) = let named = these words good in (named.are, named.pairs)
    by_reading (first_bad n lt good none) =
        absurd (unlike (sym (pairs_bad words n lt good none) ∙ e))
      where
        unlike : Some (number_after n) ≡ None → ⊥
        unlike other = cc

front_is : (words : List (List ℕ)) (n : ℕ) → n < length words → NamePairs words n → NamePairs (take n words) (length (take n words))
front_is words n lt good k before =
    let long : length (take n words) ≡ n = length-take-le n words (omega arith) in
    subst NamesPair (sym (get_or-take n words k [] (omega (arith, long, before)))) (good k (omega (arith, long, before)))

bad_there : (words : List (List ℕ)) (n : ℕ) → n < length words → NamePairs words n → pair_of (get_or words n []) ≡ None → IsFirstBadPair words (number_after n)
bad_there words n lt good none =
    let named = these (take n words) (front_is words n lt good) in
    let before = filter_map pair_of (take n words) in
    let long : length before ≡ n = sym (length-map before pair_word_text) ∙ ap length (sym named.are) ∙ length-take-le n words (omega arith) in
    record {
      before = before;
      bad = get_or words n [];
      behind = drop (n + 1) words;
      are = sym (take-append-drop n words) ∙ ap (λ l. take n words ++ l) (drop_more words n [] lt) ∙ ap (λ l. l ++ get_or words n [] ∷ drop (n + 1) words) named.are;
      pairs = named.pairs;
      no_pair = λ pair fits is. unlike pair (sym none ∙ ap pair_of is ∙ pair_read pair fits);
      number = ap number_after (sym long);
    }
  where
    unlike : (pair : PairWord) → None ≡ Some pair → ⊥
    unlike pair other = cc

-- the number of a bad pair word is that of the first
pub first_bad_is : (words : List (List ℕ)) (n : ℕ) → bad_pair words ≡ Some n
    → IsFirstBadPair words n
first_bad_is words n e = by_reading (are_read words)
  where
    by_reading : AreRead words → IsFirstBadPair words n
    by_reading (all_pairs good) = absurd (unlike (sym (pairs_good words good) ∙ e))
      where
        unlike : None ≡ Some n → ⊥
        unlike other = cc
    by_reading (first_bad k lt good none) =
        let same : number_after k ≡ n = cc (sym (pairs_bad words k lt good none) ∙ e) in
        subst (IsFirstBadPair words) same (bad_there words k lt good none)
