-- What is written is read back.
use Rattle.std.proofs.Common.{◌≡◌, ℕ, ◌+◌, ◌<◌, ◌≤◌, List, [], ◌∷◌, ◌++◌, length, Some, refl, sym, ap, ◌∙◌, append_assoc, arith}
use Rattle.std.specs.List.{flat_map, AllByRecursion}
use Rattle.std.proofs.lemmas.List.{length-append, append-nil}
use Rattle.std.proofs.lemmas.List.Elements.{recursion_from_All}
use Rattle.std.proofs.lemmas.List.Sorted.{IsPermutation-refl}
use Rattle.esdk_fields.specs.Place.{start}
use Rattle.esdk_fields.specs.Reading.{Read, then_read, ◌>>=◌, done, repeat}
use Rattle.esdk_fields.specs.Sized.{sized, sized_bytes}
use Rattle.esdk_fields.proofs.Again.{number16_again, ReadsBack, repeat_again}
use Rattle.esdk_fields.proofs.Sized.{sized_again}
use Rattle.context_codec.specs.Context.{KeyValue, pair_text, pairs_text, ctx_text, IsContext}
use Rattle.context_codec.specs.Fitting.{IsSized, AreSized}
use Rattle.context_codec.specs.Split.{pair, counted_pairs, whole, split, SpellsContext}
use Rattle.context_codec.proofs.Sizes.{length-pairs_text, sized_from_short, few_from_short}

pair_again : (p : KeyValue) → IsSized p → ReadsBack pair pair_text p
unfolding pair pair_text
pair_again p fits = record {
  again = λ rest at.
      let regrouped : (sized p.0 ++ sized p.1) ++ rest ≡ sized p.0 ++ (sized p.1 ++ rest) = append_assoc (sized p.0) (sized p.1) rest in
      let len : (at + length (sized p.0)) + length (sized p.1) ≡ at + length (sized p.0 ++ sized p.1) = omega (arith, length-append (sized p.0) (sized p.1)) in
      ap (λ (b : List ℕ). then_read (sized_bytes (record { at = at; left = b })) (λ key. sized_bytes >>= λ value. done (key, value))) regrouped
      ∙ ap (λ r. then_read r (λ key. sized_bytes >>= λ value. done (key, value))) (sized_again p.0 (sized p.1 ++ rest) at fits.key)
      ∙ ap (λ r. then_read r (λ value. done (p.0, value))) (sized_again p.1 rest (at + length (sized p.0)) fits.value)
      ∙ ap (λ (k : ℕ). Read p (record { at = k; left = rest })) len;
}

pairs_again : (ps : List KeyValue) → AllByRecursion IsSized ps → AllByRecursion (ReadsBack pair pair_text) ps
pairs_again [] fits = tt
pairs_again (p ∷ ps) fits = (pair_again p fits.0, pairs_again ps fits.1)

counted_again : (ps : List KeyValue) → AreSized ps → length ps < 65536 → counted_pairs (start (pairs_text ps)) ≡ Read ps (record { at = 2 + length (flat_map pair_text ps); left = [] })
unfolding counted_pairs pairs_text
counted_again ps fits few =
    ap (λ r. then_read r (repeat pair)) (number16_again (length ps) (flat_map pair_text ps) 0 few)
    ∙ ap (λ (b : List ℕ). repeat pair (length ps) (record { at = 2; left = b })) (sym (append-nil (flat_map pair_text ps)))
    ∙ repeat_again pair pair_text ps [] 2 (pairs_again ps (recursion_from_All IsSized ps fits))

split_some : (b : List ℕ) → 1 ≤ length b → split b ≡ whole (counted_pairs (start b))
unfolding split
split_some [] h = absurd (omega arith)
split_some (x ∷ b) h = refl

-- The count and the pairs one after another are split into these pairs.
pub split_again : (ps : List KeyValue) → AreSized ps → length ps < 65536 → split (pairs_text ps) ≡ Some ps
split_again ps fits few =
    split_some (pairs_text ps) (omega (arith, length-pairs_text ps)) ∙ ap whole (counted_again ps fits few)

pub split-nil : split [] ≡ Some []
unfolding split
split-nil = refl

pub split_written : (c : List KeyValue) → IsContext c → split (ctx_text c) ≡ Some c
split_written [] h = split-nil
split_written (p ∷ ps) h = split_again (p ∷ ps) (sized_from_short (p ∷ ps) h.short) (few_from_short (p ∷ ps) h.short)

pub spells_written : (c : List KeyValue) → IsContext c → SpellsContext (ctx_text c) c
spells_written c h = record { pairs = c; spelled = split_written c h; texts = h.texts; same = IsPermutation-refl c; ascending = h.ascending }
