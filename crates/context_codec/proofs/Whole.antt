-- What the stored and the given pairs come to, joined.
use Rattle.std.proofs.Common.{◌≡◌, ◌⊎◌, inl, inr, false, List, ◌++◌, refl}
use Rattle.std.specs.Prelude.{Contains, not}
use Rattle.std.specs.List.Sorted.{IsPermutation}
use Rattle.std.proofs.lemmas.Bool.{not-true}
use Rattle.std.proofs.lemmas.List.Elements.{Contains-append_left, Contains-append_right, Contains-append_cases}
use Rattle.std.proofs.lemmas.List.Sorted.{Contains-permutation, IsPermutation-sym}
use Rattle.context_codec.specs.Context.{KeyValue, IsAscending}
use Rattle.context_codec.specs.Parts.{holds, only_given, whole_of}
use Rattle.context_codec.specs.Laws.{IsWholeContext}
use Rattle.context_codec.proofs.Keys.{ascends_from, ascending_from}
use Rattle.context_codec.proofs.Distinct.{distinct_from_ascends}
use Rattle.context_codec.proofs.Members.{Contains-filter, Contains-filter_back}
use Rattle.context_codec.proofs.Parts.{Ascends-filter, only_given_new}
use Rattle.context_codec.proofs.Stored.{Ascends-joined, joined_permutes}

-- the whole ascends, and holds the stored pairs and the given ones that aren't stored
pub whole_is : (stored given : List KeyValue) → IsAscending stored → IsAscending given → IsWholeContext stored given (whole_of stored given)
whole_is stored given up up' =
    let only = only_given stored given in
    let made = whole_of stored given in
    let distinct = distinct_from_ascends only (Ascends-filter (λ p. not (holds stored p.0)) given (ascends_from given up')) in
    let forth : IsPermutation (stored ++ only) made = joined_permutes stored only distinct (only_given_new stored given only refl) in
    let back : IsPermutation made (stored ++ only) = IsPermutation-sym (stored ++ only) made forth in
    record {
      ascending = ascending_from made (Ascends-joined stored only (ascends_from stored up));
      pairs = λ p. (
        λ listed.
            elim (Contains-append_cases stored only p (Contains-permutation made (stored ++ only) p back listed)) [
              | inl there ↦ inl there
              | inr there ↦
                  let kept = Contains-filter_back (λ q. not (holds stored q.0)) given p there in
                  inr (kept.0, not-true (holds stored p.0) kept.1)
            ],
        λ parts. Contains-permutation (stored ++ only) made p forth (in_both stored given p parts),
      );
    }
  where
    in_both : (stored given : List KeyValue) (p : KeyValue) → Contains stored p ⊎ (Contains given p × (holds stored p.0 ≡ false)) → Contains (stored ++ only_given stored given) p
    in_both stored given p (inl there) = Contains-append_left stored (only_given stored given) p there
    in_both stored given p (inr there) =
        Contains-append_right stored (only_given stored given) p
        (Contains-filter (λ q. not (holds stored q.0)) given p there.0 (rw there.1 refl))
