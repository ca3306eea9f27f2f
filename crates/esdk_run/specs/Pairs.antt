-- The context and the required keys that the words of a command give.
use Rattle.std.specs.Prelude.{◌≡◌, ℕ, List, [], ◌∷◌, map, filter, filter_map, ⊤, Option, Some, None}
use Rattle.std.specs.Prelude.{option_map, Result, Ok, Err}
use Rattle.std.specs.BTreeMap.{insert_entry}
use Rattle.std.specs.Ordering.{nat_cmp}
use Rattle.std.specs.Cmp.Lexicographic.{slice_cmp}
use Rattle.esdk_fields.specs.declared.refusals.Refusal.{Refusal}
use Rattle.context_codec.specs.declared.insert.PairError.{PairError}
use Rattle.context_codec.specs.declared.insert.PairError.TheVariants as errors
use Rattle.context_codec.specs.Context.{KeyValue, IsContext}
use Rattle.context_codec.specs.Insert.{refusal_of}
use Rattle.context_codec.specs.KeySet.{with_keys}
use Rattle.esdk_args.specs.declared.pair_words.PairWord.{PairWord}

-- the pair of a word, if it has a value
abbrev pub pair_in : PairWord → Option KeyValue
pair_in word = option_map (λ value. (word.key, value)) word.value

-- the pairs of the words, in the order of the words
abbrev pub pairs_of_words : List PairWord → List KeyValue
pairs_of_words words = filter_map pair_in words

-- the keys that the words require
abbrev pub required_in : List PairWord → List (List ℕ)
required_in words = with_keys [] (map (λ word. word.key) (filter (λ word. word.required) words))

-- the refusal, or else what comes then
abbrev pub unless_refused : Option Refusal → Result (List KeyValue) Refusal
    → Result (List KeyValue) Refusal
unless_refused None more = more
unless_refused (Some refusal) more = Err refusal

-- These pairs inserted one after another; or the refusal of the first that can't be: Q3, else Q2.
unfoldable pub inserted : List KeyValue → List KeyValue → Result (List KeyValue) Refusal
inserted context [] = Ok context
inserted context (p ∷ pairs) = unless_refused (refusal_of context p)
    (inserted (insert_entry (slice_cmp nat_cmp) context p.0 p.1) pairs)

-- the context of the words' pairs, or why there is none
abbrev pub context_in : List PairWord → Result (List KeyValue) Refusal
context_in words = inserted [] (pairs_of_words words)

-- The words' pairs are this context.
pub record GivesContext (words : List PairWord) (context : List KeyValue) : Type 0 where
  pub made : context_in words ≡ Ok context
  pub is : IsContext context

-- the error is that refusal; want of memory may come at any time
abbrev pub RefusesPairs : Result (List KeyValue) Refusal → PairError → Type 0
RefusesPairs made (errors.Refusal refusal) = made ≡ Err refusal
RefusesPairs made errors.Memory = ⊤

-- The words' pairs are refused, and no file is read.
pub record RefusesWordPairs (words : List PairWord) (refusal : Refusal) (unread : Type 0)
    : Type 0 where
  pub refused : context_in words ≡ Err refusal
  pub shelf : unread
