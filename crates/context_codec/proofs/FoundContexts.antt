-- Sorted pairs of texts that some bytes spell are a context.
use Rattle.std.proofs.Common.{◌≡◌, ℕ, ◌≤◌, true, false, cond, eqb, List, [], ◌∷◌, length, Some, refl, sym, ap, ◌∙◌, arith, inl, inr, ne_eqb}
use Rattle.std.specs.List.Sorted.{IsPermutation}
use Rattle.std.proofs.lemmas.List.Sums.{AllPass-from_list_all, list_all-from_AllPass}
use Rattle.std.proofs.lemmas.List.Sorted.{All-permutation, sum_by-IsPermutation, length_permutation}
use Rattle.esdk_fields.specs.Bytes.{AreBytes}
use Rattle.context_codec.specs.Context.{KeyValue, is_text_pair, are_texts, IsAscending, pair_text, pairs_text, ctx_text, IsContext}
use Rattle.context_codec.specs.Split.{split}
use Rattle.context_codec.specs.Spelling.{IsSpelling}
use Rattle.context_codec.proofs.Sizes.{length-pairs_text}
use Rattle.context_codec.proofs.Readers.{split_spelled}

pub are_texts-permutation : (ps qs : List KeyValue) → IsPermutation ps qs → are_texts ps ≡ true → are_texts qs ≡ true
are_texts-permutation ps qs same texts =
    list_all-from_AllPass is_text_pair qs (All-permutation (λ p. is_text_pair p ≡ true) ps qs same (AllPass-from_list_all is_text_pair ps texts))

length-pairs_text-permutation : (ps qs : List KeyValue) → IsPermutation ps qs → length (pairs_text qs) ≡ length (pairs_text ps)
length-pairs_text-permutation ps qs same =
    omega (arith, length-pairs_text ps, length-pairs_text qs, sum_by-IsPermutation (λ p. length (pair_text p)) ps qs same)

-- the length of the sorted text is that of the bytes, unless no pairs are spelled
length-found : (bytes : List ℕ) (ps : List KeyValue) (q : KeyValue) (qs : List KeyValue) → IsSpelling bytes ps → IsPermutation ps (q ∷ qs) → length (pairs_text (q ∷ qs)) ≡ length bytes
length-found bytes ps q qs (inl is) same = length-pairs_text-permutation ps (q ∷ qs) same ∙ ap length (sym is)
length-found bytes ps q qs (inr none) same = absurd (omega (arith, length_permutation ps (q ∷ qs) same, ap length none.1))

pub found_context : (bytes : List ℕ) (ps qs : List KeyValue) (n : ℕ) → AreBytes bytes → length bytes ≤ 65535 → split bytes ≡ Some ps → are_texts ps ≡ true → IsPermutation ps qs → IsAscending qs
    → n ≡ cond (eqb (length qs) 0) 0 (length bytes) → IsContext qs × (n ≡ length (ctx_text qs))
found_context bytes ps [] n fits short e texts same up is = (record { ascending = up; texts = refl; short = omega arith }, is)
found_context bytes ps (q ∷ qs) n fits short e texts same up is =
    let some : eqb (length (q ∷ qs)) 0 ≡ false = ne_eqb (length (q ∷ qs)) 0 (λ z. omega (arith, z)) in
    let len = length-found bytes ps q qs (split_spelled bytes ps fits e) same in
    (record { ascending = up; texts = are_texts-permutation ps (q ∷ qs) same texts; short = omega (arith, len) }, is ∙ rw some (sym len))
