use Rattle.std.proofs.Common.{◌≡◌, ◌<◌, ℕ, List, [], get_or, length, map, sym, ap, ◌∙◌, arith}
use Rattle.std.specs.Borrow.{Bor}
use Rattle.std.specs.Prelude.{Some, is_none}
use Rattle.std.proofs.lemmas.List.{get_or-map, length-map}
use borrow.Author.Count.{below_more}
use Rattle.esdk_args.specs.PairWords.{pair_of}
use Rattle.esdk_args.proofs.Pairs.{NamesPair, pairs_bad, pairs_good}
use Rattle.esdk_args.proofs.pair_words.bad_pair.Goals as goal

-- the texts of borrowed words
abbrev texts : List (Bor (List ℕ)) → List (List ℕ)
texts = map (λ w. w.now)

-- no text, behind the last word
abbrev none : Bor (List ℕ)
none = record { ref_ptr = (0, 0); now = [] }

-- the text of the word at this place
text_at : (words : List (Bor (List ℕ))) (n : ℕ) → n < length words
    → get_or (texts words) n [] ≡ (get_or words n none).now
text_at words n lt = get_or-map (λ (w : Bor (List ℕ)). w.now) words n none [] lt

within : (words : List (Bor (List ℕ))) (n : ℕ) → n < length words → n < length (texts words)
within words n lt = omega (arith, lt, length-map words (λ (w : Bor (List ℕ)). w.now))

pub returns-in-None : goal.returns-in-None
returns-in-None c =
    let words = c.args.words.now in
    let n = c.loop-before.before in
    let lt = c.loop-before-test.true in
    ap (λ k. Some k) c.number_after.ensures
    ∙ sym (pairs_bad (texts words) n (within words n lt) c.loop-before.invariant
    (ap pair_of (text_at words n lt) ∙ sym c.in-None.ensures))

pub loop-before-preserved : goal.loop-before-preserved
loop-before-preserved c =
    let words = c.args.words.now in
    let n = c.loop-before.before in
    let lt = c.loop-before-test.true in
    below_more (λ k. NamesPair (get_or (texts words) k [])) n c.loop-before.invariant
    (ap (λ w. is_none (pair_of w)) (text_at words n lt) ∙ sym (ap is_none c.in-Some.ensures))

pub returns : goal.returns
returns c =
    let words = texts c.args.words.now in
    let long = length-map c.args.words.now (λ (w : Bor (List ℕ)). w.now) in
    sym (pairs_good words (λ k lt. c.loop-before.invariant k (omega (arith, long, c.loop-before-test.false, lt))))
