-- A context with one more pair is a context.
use Rattle.std.proofs.Common.{◌≡◌, ℕ, ◌≤◌, true, List, ◌∷◌, length, sym, subst, ◌∙◌, arith}
use Rattle.std.specs.Prelude.{insert}
use Rattle.std.specs.Str.{IsUtf8, is_utf8}
use Rattle.std.proofs.lemmas.Str.{is_utf8-from_IsUtf8}
use Rattle.std.proofs.lemmas.Bool.{and_from}
use Rattle.std.proofs.lemmas.List.Sums.{AllPass-from_list_all, list_all-from_AllPass}
use Rattle.std.proofs.lemmas.List.Elements.{All-cons}
use Rattle.std.proofs.lemmas.List.Sorted.{All-permutation, IsPermutation-insert}
use Rattle.context_codec.specs.Context.{KeyValue, is_text_pair, are_texts, IsAscending, ctx_text, IsContext}
use Rattle.context_codec.specs.Placing.{IsPlace}
use Rattle.context_codec.specs.Insert.{grown}
use Rattle.context_codec.proofs.Keys.{IsAscending-insert}
use Rattle.context_codec.proofs.Sizes.{length-inserted}

pub are_texts-insert : (ps : List KeyValue) (i : ℕ) (p : KeyValue) → are_texts ps ≡ true → is_text_pair p ≡ true → are_texts (insert ps i p) ≡ true
are_texts-insert ps i p all one =
    list_all-from_AllPass is_text_pair (insert ps i p)
    (All-permutation (λ q. is_text_pair q ≡ true) (p ∷ ps) (insert ps i p) (IsPermutation-insert ps i p)
    (All-cons (λ q. is_text_pair q ≡ true) p ps one (AllPass-from_list_all is_text_pair ps all)))

pub grown_context : (ps : List KeyValue) (i : ℕ) (key value : List ℕ) (n : ℕ) (qs : List KeyValue) → IsContext ps → IsUtf8 key → IsUtf8 value → IsPlace key ps i → n ≤ 65535 → n ≡ grown ps (key, value)
    → qs ≡ insert ps i (key, value) → IsContext qs × (n ≡ length (ctx_text qs))
grown_context ps i key value n qs context key_text value_text place short len is =
    let one : is_text_pair (key, value) ≡ true = and_from (is_utf8 key) (is_utf8 value) (is_utf8-from_IsUtf8 key key_text) (is_utf8-from_IsUtf8 value value_text) in
    let up : IsAscending (insert ps i (key, value)) = subst IsAscending (place.inserted value) (IsAscending-insert key value ps context.ascending) in
    let size : length (ctx_text (insert ps i (key, value))) ≡ n = length-inserted ps i (key, value) ∙ sym len in
    let made : IsContext (insert ps i (key, value)) × (n ≡ length (ctx_text (insert ps i (key, value)))) =
    (record { ascending = up; texts = are_texts-insert ps i (key, value) context.texts one; short = omega (arith, size) }, sym size) in
    subst (λ (rs : List KeyValue). IsContext rs × (n ≡ length (ctx_text rs))) (sym is) made
