-- Which fault the bytes have, in the words of their spelling.
use Rattle.std.proofs.Common.{◌≡◌, ◌↔◌, inl, inr, ℕ, ◌+◌, ◌≤◌, true, false, List, length, get_or, Option, Some, None, refl, sym, ap, ◌∙◌, arith}
use Rattle.std.specs.Str.{IsUtf8, is_utf8}
use Rattle.std.proofs.lemmas.Bool.{cases_Bool, false_from_ne_true, false≢true, and_parts, and_from}
use Rattle.std.proofs.lemmas.Str.{IsUtf8-from_is_utf8, is_utf8-from_IsUtf8}
use Rattle.std.proofs.lemmas.List.Sums.{AllPass-from_list_all, list_all-from_AllPass}
use Rattle.std.proofs.lemmas.List.Sorted.{IsPermutation-sym}
use Rattle.esdk_fields.specs.declared.faults.ContextFault.TheVariants.{Length, Utf8, Duplicate}
use Rattle.context_codec.specs.Context.{KeyValue, is_text_pair, are_texts}
use Rattle.context_codec.specs.Split.{split, keys_once, context_fault, SpellsContext}
use Rattle.context_codec.specs.Spelling.{IsSpelling, AreTexts, AreDistinct, IsSpelledContext}
use Rattle.context_codec.specs.Laws.{IsField}
use Rattle.context_codec.proofs.Sizes.{pairs_len, length-pairs_text, length-le-pairs_len, sized_from_len}
use Rattle.context_codec.proofs.Keys.{ascends_from}
use Rattle.context_codec.proofs.Distinct.{distinct_from, distinct_from_ascends, once_from_distinct, distinct_from_once, keys_once-permutation}
use Rattle.context_codec.proofs.Judging.{fault_none_split, fault_no_texts, fault_twice, fault_none}
use Rattle.context_codec.proofs.Readers.{split_spelled}
use Rattle.context_codec.proofs.Written.{split_again, split-nil}

-- ---- the four verdicts

pub data Verdict (bytes : List ℕ) : Type 0 where
  NoPairs : split bytes ≡ None → context_fault bytes ≡ Some Length → Verdict bytes
  NoTexts : (pairs : List KeyValue) → split bytes ≡ Some pairs → are_texts pairs ≡ false → context_fault bytes ≡ Some Utf8 → Verdict bytes
  Twice : (pairs : List KeyValue) → split bytes ≡ Some pairs → are_texts pairs ≡ true → keys_once pairs ≡ false → context_fault bytes ≡ Some Duplicate → Verdict bytes
  Taken : (pairs : List KeyValue) → split bytes ≡ Some pairs → are_texts pairs ≡ true → keys_once pairs ≡ true → context_fault bytes ≡ None → Verdict bytes

verdict_of_pairs : (bytes : List ℕ) (pairs : List KeyValue) → split bytes ≡ Some pairs → Verdict bytes
verdict_of_pairs bytes pairs e =
    elim (cases_Bool (are_texts pairs)) [
      | inl texts ↦
          elim (cases_Bool (keys_once pairs)) [
            | inl once ↦ Taken pairs e texts once (fault_none bytes pairs e texts once)
            | inr once ↦ Twice pairs e texts once (fault_twice bytes pairs e texts once)
          ]
      | inr texts ↦ NoTexts pairs e texts (fault_no_texts bytes pairs e texts)
    ]

verdict_by : (bytes : List ℕ) (o : Option (List KeyValue)) → split bytes ≡ o → Verdict bytes
verdict_by bytes None e = NoPairs e (fault_none_split bytes e)
verdict_by bytes (Some pairs) e = verdict_of_pairs bytes pairs e

pub verdict : (bytes : List ℕ) → Verdict bytes
verdict bytes = verdict_by bytes (split bytes) refl

-- ---- tests and facts

text_pair_from : (p : KeyValue) → is_text_pair p ≡ true → IsUtf8 p.0 × IsUtf8 p.1
text_pair_from p e = let parts = and_parts (is_utf8 p.0) (is_utf8 p.1) e in (IsUtf8-from_is_utf8 p.0 parts.0, IsUtf8-from_is_utf8 p.1 parts.1)

text_pair_test : (p : KeyValue) → IsUtf8 p.0 × IsUtf8 p.1 → is_text_pair p ≡ true
text_pair_test p h = and_from (is_utf8 p.0) (is_utf8 p.1) (is_utf8-from_IsUtf8 p.0 h.0) (is_utf8-from_IsUtf8 p.1 h.1)

pub texts_from : (pairs : List KeyValue) → are_texts pairs ≡ true → AreTexts pairs
texts_from pairs e k d lt = text_pair_from (get_or pairs k d) (AllPass-from_list_all is_text_pair pairs e k d lt)

pub texts_test : (pairs : List KeyValue) → AreTexts pairs → are_texts pairs ≡ true
texts_test pairs h = list_all-from_AllPass is_text_pair pairs (λ k d lt. text_pair_test (get_or pairs k d) (h k d lt))

pub once_test : (pairs : List KeyValue) → AreDistinct pairs → keys_once pairs ≡ true
once_test pairs h = once_from_distinct pairs (distinct_from pairs h)

not_texts : (pairs : List KeyValue) → are_texts pairs ≡ false → ¬ (AreTexts pairs)
not_texts pairs e h = false≢true (sym e ∙ texts_test pairs h)

not_texts_test : (pairs : List KeyValue) → ¬ (AreTexts pairs) → are_texts pairs ≡ false
not_texts_test pairs h = false_from_ne_true (are_texts pairs) (λ e. h (texts_from pairs e))

not_distinct : (pairs : List KeyValue) → keys_once pairs ≡ false → ¬ (AreDistinct pairs)
not_distinct pairs e h = false≢true (sym e ∙ once_test pairs h)

not_once_test : (pairs : List KeyValue) → ¬ (AreDistinct pairs) → keys_once pairs ≡ false
not_once_test pairs h = false_from_ne_true (keys_once pairs) (λ e. h (distinct_from_once pairs e))

-- ---- spellings

pub spelled_from : (bytes : List ℕ) → IsField bytes → (pairs : List KeyValue) → split bytes ≡ Some pairs → IsSpelling bytes pairs
spelled_from bytes field pairs e = split_spelled bytes pairs field.fits e

pub split_from : (bytes : List ℕ) → IsField bytes → (pairs : List KeyValue) → IsSpelling bytes pairs → split bytes ≡ Some pairs
split_from bytes field pairs (inl is) =
    let len : 2 + pairs_len pairs ≤ 65535 = omega (arith, length-pairs_text pairs, ap length is, field.short) in
    ap split is ∙ split_again pairs (sized_from_len pairs 65535 (omega arith) (omega arith)) (omega (arith, length-le-pairs_len pairs))
split_from bytes field pairs (inr none) = ap split none.0 ∙ split-nil ∙ ap (λ (ps : List KeyValue). Some ps) (sym none.1)

pub splits_spellings : (bytes : List ℕ) → IsField bytes → (pairs : List KeyValue) → (split bytes ≡ Some pairs) ↔ IsSpelling bytes pairs
splits_spellings bytes field pairs = (spelled_from bytes field pairs, split_from bytes field pairs)

-- ---- each verdict in the words of the spelling

pub takes_texts : (bytes : List ℕ) → IsField bytes → (context_fault bytes ≡ None) ↔ ((pairs : List KeyValue) × IsSpelling bytes pairs × AreTexts pairs × AreDistinct pairs)
takes_texts bytes field = (λ e. forth (verdict bytes) e, λ h. fault_none bytes h.0 (split_from bytes field h.0 h.1) (texts_test h.0 h.2) (once_test h.0 h.3))
  where
    forth : Verdict bytes → context_fault bytes ≡ None → (pairs : List KeyValue) × IsSpelling bytes pairs × AreTexts pairs × AreDistinct pairs
    forth (NoPairs s f) e = absurd cc
    forth (NoTexts pairs s t f) e = absurd cc
    forth (Twice pairs s t o f) e = absurd cc
    forth (Taken pairs s t o f) e = (pairs, spelled_from bytes field pairs s, texts_from pairs t, distinct_from_once pairs o)

pub refuses_other_bytes : (bytes : List ℕ) → IsField bytes → (context_fault bytes ≡ Some Length) ↔ ((pairs : List KeyValue) → ¬ (IsSpelling bytes pairs))
refuses_other_bytes bytes field = (λ e. forth (verdict bytes) e, λ h. back (verdict bytes) h)
  where
    none_some : (pairs : List KeyValue) → split bytes ≡ None → split bytes ≡ Some pairs → ⊥
    none_some pairs s t = cc

    forth : Verdict bytes → context_fault bytes ≡ Some Length → (pairs : List KeyValue) → ¬ (IsSpelling bytes pairs)
    forth (NoPairs s f) e pairs spelled = none_some pairs s (split_from bytes field pairs spelled)
    forth (NoTexts ps s t f) e pairs spelled = cc
    forth (Twice ps s t o f) e pairs spelled = cc
    forth (Taken ps s t o f) e pairs spelled = cc

    back : Verdict bytes → ((pairs : List KeyValue) → ¬ (IsSpelling bytes pairs)) → context_fault bytes ≡ Some Length
    back (NoPairs s f) h = f
    back (NoTexts ps s t f) h = absurd (h ps (spelled_from bytes field ps s))
    back (Twice ps s t o f) h = absurd (h ps (spelled_from bytes field ps s))
    back (Taken ps s t o f) h = absurd (h ps (spelled_from bytes field ps s))

pub refuses_other_texts : (bytes : List ℕ) → IsField bytes → (context_fault bytes ≡ Some Utf8) ↔ ((pairs : List KeyValue) × IsSpelling bytes pairs × (¬ (AreTexts pairs)))
refuses_other_texts bytes field = (λ e. forth (verdict bytes) e, λ h. fault_no_texts bytes h.0 (split_from bytes field h.0 h.1) (not_texts_test h.0 h.2))
  where
    forth : Verdict bytes → context_fault bytes ≡ Some Utf8 → (pairs : List KeyValue) × IsSpelling bytes pairs × (¬ (AreTexts pairs))
    forth (NoPairs s f) e = absurd cc
    forth (NoTexts pairs s t f) e = (pairs, spelled_from bytes field pairs s, not_texts pairs t)
    forth (Twice pairs s t o f) e = absurd cc
    forth (Taken pairs s t o f) e = absurd cc

pub refuses_duplicates : (bytes : List ℕ) → IsField bytes → (context_fault bytes ≡ Some Duplicate) ↔ ((pairs : List KeyValue) × IsSpelling bytes pairs × AreTexts pairs × (¬ (AreDistinct pairs)))
refuses_duplicates bytes field = (λ e. forth (verdict bytes) e, λ h. fault_twice bytes h.0 (split_from bytes field h.0 h.1) (texts_test h.0 h.2) (not_once_test h.0 h.3))
  where
    forth : Verdict bytes → context_fault bytes ≡ Some Duplicate → (pairs : List KeyValue) × IsSpelling bytes pairs × AreTexts pairs × (¬ (AreDistinct pairs))
    forth (NoPairs s f) e = absurd cc
    forth (NoTexts pairs s t f) e = absurd cc
    forth (Twice pairs s t o f) e = (pairs, spelled_from bytes field pairs s, texts_from pairs t, not_distinct pairs o)
    forth (Taken pairs s t o f) e = absurd cc

-- ---- contexts

pub once_spelled : (bytes : List ℕ) (c : List KeyValue) (spells : SpellsContext bytes c) → keys_once spells.pairs ≡ true
once_spelled bytes c spells =
    keys_once-permutation c spells.pairs (IsPermutation-sym spells.pairs c spells.same) (once_from_distinct c (distinct_from_ascends c (ascends_from c spells.ascending)))

-- nothing is wrong with bytes that spell a context
pub spells_fault_none : (bytes : List ℕ) (c : List KeyValue) → SpellsContext bytes c → context_fault bytes ≡ None
spells_fault_none bytes c spells = fault_none bytes spells.pairs spells.spelled spells.texts (once_spelled bytes c spells)

pub reads_spelled : (bytes : List ℕ) → IsField bytes → (c : List KeyValue) → SpellsContext bytes c ↔ IsSpelledContext bytes c
reads_spelled bytes field c = (
  λ s. record {
    pairs = s.pairs;
    spelled = spelled_from bytes field s.pairs s.spelled;
    texts = texts_from s.pairs s.texts;
    distinct = distinct_from_once s.pairs (once_spelled bytes c s);
    same = s.same;
    ascending = s.ascending;
  },
  λ s. record {
    pairs = s.pairs;
    spelled = split_from bytes field s.pairs s.spelled;
    texts = texts_test s.pairs s.texts;
    same = s.same;
    ascending = s.ascending;
  },
)
