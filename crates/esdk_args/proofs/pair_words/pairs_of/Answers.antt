use Rattle.std.proofs.Common.{◌≡◌, ◌+◌, ◌<◌, ℕ, List, [], ◌∷◌, ◌++◌, get_or, length, map, take, sym, ap, ◌∙◌, arith, append-nil}
use Rattle.std.specs.Borrow.{Bor}
use Rattle.std.specs.List.{cons_option}
use Rattle.std.specs.Prelude.{Some, None}
use Rattle.std.proofs.lemmas.List.{get_or-map, length-map}
use Rattle.esdk_args.specs.declared.pair_words.PairWord.{PairWord}
use Rattle.esdk_args.specs.Found.{pair_value}
use Rattle.esdk_args.specs.PairWords.{pair_of, pairs_of}
use Rattle.esdk_args.proofs.Pairs.{pairs_more}
use Rattle.esdk_args.proofs.pair_words.pairs_of.Goals as goal
use Rattle.esdk_args.proofs.pair_words.pairs_of.Goals.{in-Some+in_ok-owned+in_ok-push, in_default}

-- the texts of borrowed words
abbrev texts : List (Bor (List ℕ)) → List (List ℕ)
texts = map (λ w. w.now)

-- no text, behind the last word
abbrev none : Bor (List ℕ)
none = record { ref_ptr = (0, 0); now = [] }

-- the pairs of one more word
one_more : (words : List (Bor (List ℕ))) (n : ℕ) → n < length words
    → pairs_of (take (n + 1) (texts words))
    ≡ pairs_of (take n (texts words)) ++ pairs_of ((get_or words n none).now ∷ [])
one_more words n lt =
    pairs_more (texts words) n (omega (arith, lt, length-map words (λ (w : Bor (List ℕ)). w.now)))
    ∙ ap (λ w. pairs_of (take n (texts words)) ++ pairs_of (w ∷ []))
    (get_or-map (λ (w : Bor (List ℕ)). w.now) words n none [] lt)

-- which names this pair, or none
one_pair : (words : List (Bor (List ℕ))) (n : ℕ) (pair : PairWord) → n < length words
    → pair_of (get_or words n none).now ≡ Some pair
    → pairs_of (take (n + 1) (texts words)) ≡ pairs_of (take n (texts words)) ++ pair ∷ []
one_pair words n pair lt is = one_more words n lt
    ∙ ap (λ found. pairs_of (take n (texts words)) ++ cons_option found []) is

no_pair : (words : List (Bor (List ℕ))) (n : ℕ) → n < length words
    → pair_of (get_or words n none).now ≡ None
    → pairs_of (take (n + 1) (texts words)) ≡ pairs_of (take n (texts words))
no_pair words n lt is = one_more words n lt
    ∙ ap (λ found. pairs_of (take n (texts words)) ++ cons_option found []) is
    ∙ append-nil (pairs_of (take n (texts words)))

pub loop-word-preserved : goal.loop-word-preserved
loop-word-preserved c =
    let words = c.args.words.now in
    let n = c.loop-word.word-index in
    let lt = c.loop-word-test.true in
    let so_far : c.loop-word.pairs.items ≡ pairs_of (take n (texts words)) = c.loop-word.invariant in
    elim c.match-pair_of.branch [
      | in-Some+in_ok-owned+in_ok-push w ↦
          let more = one_pair words n (pair_value w.in-Some.parts) lt (sym w.in-Some.ensures) in
          cc (w.in_ok-push.ensures.items, w.in_ok-owned.ensures)
      | in_default w ↦ let more = no_pair words n lt (sym w.in_default.ensures) in cc
    ]
