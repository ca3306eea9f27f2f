-- The context and the required keys that words give.
use Rattle.std.proofs.Common.{◌≡◌, ◌∙◌, ℕ, ◌+◌, ◌<◌, ◌≤◌, List, [], ◌∷◌, length, get_or, drop, None, Some, Ok, Err, refl, sym, ap}
use Rattle.std.specs.Prelude.{filter, map, option_to_list, IfErr, OnOk}
use Rattle.std.specs.declared.option.Option.{Option}
use Rattle.std.specs.declared.result.Result.{Result}
use Rattle.std.specs.BTreeMap.{insert_entry}
use Rattle.std.specs.List.{cons_option}
use Rattle.std.specs.Ordering.{nat_cmp}
use Rattle.std.specs.Cmp.Lexicographic.{slice_cmp}
use Rattle.std.proofs.lemmas.List.{drop_all, drop_more}
use Rattle.esdk_args.specs.declared.pair_words.PairWord.{PairWord}
use Rattle.esdk_fields.specs.declared.refusals.Refusal.{Refusal}
use Rattle.context_codec.specs.declared.insert.PairError.{PairError}
use Rattle.context_codec.specs.declared.insert.PairError.TheVariants as errors
use Rattle.context_codec.specs.Context.{KeyValue, IsContext}
use Rattle.context_codec.specs.Insert.{RefusesAs, refusal_of}
use Rattle.esdk_run.specs.Pairs.{GivesContext, RefusesPairs, context_in, inserted, pair_in, pairs_of_words, unless_refused}

-- words give one context
pub one_context : (words : List PairWord) (c d : List KeyValue) → context_in words ≡ Ok c → context_in words ≡ Ok d → c ≡ d
one_context words c d is_c is_d = let same : Ok c ≡ Ok d = sym is_c ∙ is_d in cc

-- and are not refused then
pub pairs_not_refused : (words : List PairWord) (c : List KeyValue) (refusal : Refusal) → context_in words ≡ Ok c → context_in words ≡ Err refusal → ⊥
pairs_not_refused words c refusal is refused = let same : Ok c ≡ Err refusal = sym is ∙ refused in absurd cc

-- ---- one pair

pub pair_inserted : (result : Result (Unit {0}) PairError) (old new : List KeyValue) (p : KeyValue) → OnOk result (new ≡ insert_entry (slice_cmp nat_cmp) old p.0 p.1)
    → OnOk result (refusal_of old p ≡ None) → OnOk result (inserted old (p ∷ []) ≡ Ok new)
unfolding inserted
pair_inserted (Ok done) old new p is taken = ap (λ (r : Option Refusal). unless_refused r (Ok (insert_entry (slice_cmp nat_cmp) old p.0 p.1))) taken ∙ ap Ok (sym is)
pair_inserted (Err error) old new p is taken = tt

pub pair_refused : (result : Result (Unit {0}) PairError) (old : List KeyValue) (p : KeyValue) → IfErr result (λ e. RefusesAs e (refusal_of old p)) → IfErr result (RefusesPairs (inserted old (p ∷ [])))
unfolding inserted
pair_refused (Ok done) old p cause = tt
pair_refused (Err (errors.Refusal refusal)) old p cause = ap (λ (r : Option Refusal). unless_refused r (Ok (insert_entry (slice_cmp nat_cmp) old p.0 p.1))) cause
pair_refused (Err errors.Memory) old p cause = tt

-- no pair changes nothing
pub none_inserted : (c : List KeyValue) → inserted c [] ≡ Ok c
unfolding inserted
none_inserted c = refl

-- ---- the words from one on

from_word : (words : List PairWord) (i : ℕ) (word : PairWord) → i < length words → word ≡ get_or words i word → drop i words ≡ word ∷ drop (i + 1) words
from_word words i word lt at = drop_more words i word lt ∙ ap (λ (w : PairWord). w ∷ drop (i + 1) words) (sym at)

-- What the words from this one on come to is what comes of those behind it, once its pair was inserted.
pub inserted_more : (words : List PairWord) (i : ℕ) (word : PairWord) (old new : List KeyValue) → i < length words → word ≡ get_or words i word
    → inserted old (option_to_list (pair_in word)) ≡ Ok new → inserted old (pairs_of_words (drop i words)) ≡ inserted new (pairs_of_words (drop (i + 1) words))
unfolding inserted
inserted_more words i word old new lt at is =
    ap (λ (ws : List PairWord). inserted old (pairs_of_words ws)) (from_word words i word lt at) ∙ by_pair (pair_in word) (pairs_of_words (drop (i + 1) words)) is
  where
    by_pair : (o : Option KeyValue) (more : List KeyValue) → inserted old (option_to_list o) ≡ Ok new → inserted old (cons_option o more) ≡ inserted new more
    by_pair None more is' = ap (λ (c : List KeyValue). inserted c more) (let same : Ok old ≡ Ok new = is' in cc)
    by_pair (Some p) more is' = by_refusal (refusal_of old p) is'
      where
        by_refusal : (r : Option Refusal) → unless_refused r (Ok (insert_entry (slice_cmp nat_cmp) old p.0 p.1)) ≡ Ok new
            → unless_refused r (inserted (insert_entry (slice_cmp nat_cmp) old p.0 p.1) more) ≡ inserted new more
        by_refusal None same = ap (λ (c : List KeyValue). inserted c more) (cc)
        by_refusal (Some refusal) same = absurd cc

-- A word whose pair is refused ends it.
pub refused_more : (words : List PairWord) (i : ℕ) (word : PairWord) (old : List KeyValue) (e : PairError) → i < length words → word ≡ get_or words i word
    → RefusesPairs (inserted old (option_to_list (pair_in word))) e → RefusesPairs (inserted old (pairs_of_words (drop i words))) e
unfolding inserted
refused_more words i word old (errors.Refusal refusal) lt at is =
    ap (λ (ws : List PairWord). inserted old (pairs_of_words ws)) (from_word words i word lt at) ∙ by_pair (pair_in word) (pairs_of_words (drop (i + 1) words)) is
  where
    by_pair : (o : Option KeyValue) (more : List KeyValue) → inserted old (option_to_list o) ≡ Err refusal → inserted old (cons_option o more) ≡ Err refusal
    by_pair None more is' = absurd cc
    by_pair (Some p) more is' = by_refusal (refusal_of old p) is'
      where
        by_refusal : (r : Option Refusal) → unless_refused r (Ok (insert_entry (slice_cmp nat_cmp) old p.0 p.1)) ≡ Err refusal
            → unless_refused r (inserted (insert_entry (slice_cmp nat_cmp) old p.0 p.1) more) ≡ Err refusal
        by_refusal None same = absurd cc
        by_refusal (Some other) same = let said : Err other ≡ Err refusal = same in cc
refused_more words i word old errors.Memory lt at is = tt

-- No words are left.
pub gives_context : (words : List PairWord) (i : ℕ) (c : List KeyValue) → inserted [] (pairs_of_words words) ≡ inserted c (pairs_of_words (drop i words)) → length words ≤ i → IsContext c → GivesContext words c
unfolding inserted
gives_context words i c so_far end is = record {
  made = so_far ∙ ap (λ (ws : List PairWord). inserted c (pairs_of_words ws)) (drop_all i words end);
  is = is;
}

-- ---- required keys

-- the keys that these words require
abbrev pub keys_of : List PairWord → List (List ℕ)
keys_of words = map (λ word. word.key) (filter (λ word. word.required) words)
