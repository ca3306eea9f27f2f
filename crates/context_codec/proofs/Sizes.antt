-- How long the text of a context is.
use Rattle.std.proofs.Common.{◌≡◌, ℕ, ◌+◌, ◌*◌, ◌<◌, ◌≤◌, cond, eqb, List, [], ◌∷◌, ◌++◌, length, refl, ap, get_or, take, drop, false, ne_eqb, arith}
use Rattle.std.specs.Prelude.{insert, sum_by}
use Rattle.std.specs.List.{flat_map}
use Rattle.std.specs.Int.{w16}
use Rattle.std.proofs.lemmas.List.{length-append}
use Rattle.std.proofs.lemmas.List.Concat.{length-flat_map}
use Rattle.std.proofs.lemmas.List.Sums.{sum_by-insert, sum_by-cons, sum_by_more_le, get_or-le-sum_by}
use Rattle.esdk_fields.specs.Numbers.{to_big_endian}
use Rattle.esdk_fields.specs.Sized.{sized}
use Rattle.esdk_fields.proofs.Again.{length-to_big_endian16}
use Rattle.esdk_fields.proofs.Sized.{length-sized}
use Rattle.context_codec.specs.Context.{KeyValue, pair_text, pairs_text, ctx_text}
use Rattle.context_codec.specs.Fitting.{AreSized}
use Rattle.context_codec.specs.Insert.{grown}

pub length-pair_text : (p : KeyValue) → length (pair_text p) ≡ 4 + length p.0 + length p.1
unfolding pair_text
length-pair_text p = omega (arith, length-append (sized p.0) (sized p.1), length-sized p.0, length-sized p.1)

pub ruleset pair_sizes = (length-pair_text)

-- what the pairs take
abbrev pub pairs_len : List KeyValue → ℕ
pairs_len ps = sum_by (λ p. length (pair_text p)) ps

pub length-pairs_text : (ps : List KeyValue) → length (pairs_text ps) ≡ 2 + pairs_len ps
unfolding pairs_text
length-pairs_text ps =
    omega (arith, length-append (to_big_endian w16 (length ps)) (flat_map pair_text ps), length-to_big_endian16 (length ps), length-flat_map pair_text ps)

pub pairs_len-cons : (p : KeyValue) (ps : List KeyValue) → pairs_len (p ∷ ps) ≡ length (pair_text p) + pairs_len ps
pairs_len-cons p ps = sum_by-cons (λ q. length (pair_text q)) p ps

pub length-grown : (ps : List KeyValue) (p : KeyValue) → grown ps p ≡ 2 + length (pair_text p) + pairs_len ps
unfolding grown
length-grown ps p = omega (arith, length-pairs_text (p ∷ ps), pairs_len-cons p ps)

-- a list that holds something has the text of its pairs
pub ctx_text-some : (ps : List KeyValue) (n : ℕ) → length ps ≡ n + 1 → ctx_text ps ≡ pairs_text ps
ctx_text-some [] n e = absurd (omega (arith, e))
ctx_text-some (p ∷ ps) n e = refl

pub length-ctx_text-some : (ps : List KeyValue) → 1 ≤ length ps → length (ctx_text ps) ≡ 2 + pairs_len ps
length-ctx_text-some [] some = absurd (omega arith)
length-ctx_text-some (p ∷ ps) some = length-pairs_text (p ∷ ps)

pub length-ctx_text-le : (ps : List KeyValue) → length (ctx_text ps) ≤ 2 + pairs_len ps
length-ctx_text-le [] = omega arith
length-ctx_text-le (p ∷ ps) = omega (arith, length-pairs_text (p ∷ ps))

-- The length with one more pair, from the length before: an empty context begins to count its pairs.
pub grown-from : (ps : List KeyValue) (p : KeyValue) (n : ℕ) → n ≡ length (ctx_text ps) → grown ps p ≡ cond (eqb n 0) 2 n + 4 + length p.0 + length p.1
grown-from [] p n e = rw e (omega (arith, length-grown [] p, length-pair_text p))
grown-from (q ∷ ps) p n e =
    let len = length-pairs_text (q ∷ ps) in
    let positive : eqb n 0 ≡ false = ne_eqb n 0 (λ z. omega (arith, len, e, z)) in
    rw positive (omega (arith, length-grown (q ∷ ps) p, length-pair_text p, len, e))

some_len : (ps : List KeyValue) (p : KeyValue) (qs : List KeyValue) → length (ctx_text (ps ++ p ∷ qs)) ≡ 2 + pairs_len (ps ++ p ∷ qs)
some_len [] p qs = length-pairs_text (p ∷ qs)
some_len (q ∷ ps) p qs = length-pairs_text (q ∷ ps ++ p ∷ qs)

-- wherever the pair is inserted
pub length-inserted : (ps : List KeyValue) (i : ℕ) (p : KeyValue) → length (ctx_text (insert ps i p)) ≡ grown ps p
length-inserted ps i p =
    omega (arith, some_len (take i ps) p (drop i ps), sum_by-insert (λ q. length (pair_text q)) ps i p, length-grown ps p)

-- the count and some of the pairs, and one more pair, are within the text
pub counted_more_le : (ps : List KeyValue) (i : ℕ) (p : KeyValue) → i < length ps → p ≡ get_or ps i p → 2 + pairs_len (take i ps) + length (pair_text p) ≤ length (ctx_text ps)
counted_more_le ps i p lt at =
    let here : length (pair_text p) ≡ length (pair_text (get_or ps i p)) = ap (λ (q : KeyValue). length (pair_text q)) at in
    omega (arith, here, sum_by_more_le (λ q. length (pair_text q)) ps i p lt, length-ctx_text-some ps (omega arith))

-- ---- what a short text holds

pub pairs_len-le : (ps : List KeyValue) (n : ℕ) → length (ctx_text ps) ≤ n → pairs_len ps ≤ n
pairs_len-le [] n h = omega arith
pairs_len-le (p ∷ ps) n h = omega (arith, length-pairs_text (p ∷ ps))

pub length-le-pairs_len : (ps : List KeyValue) → 4 * length ps ≤ pairs_len ps
length-le-pairs_len [] = omega arith
length-le-pairs_len (p ∷ ps) = omega (arith, length-le-pairs_len ps, pairs_len-cons p ps, length-pair_text p)

pub sized_from_len : (ps : List KeyValue) (n : ℕ) → pairs_len ps ≤ n → n ≤ 65539 → AreSized ps
sized_from_len ps n le small k d lt =
    let one = get_or-le-sum_by (λ p. length (pair_text p)) ps k d lt in
    let len = length-pair_text (get_or ps k d) in
    record { key = omega (arith, one, len); value = omega (arith, one, len) }

pub sized_from_short : (ps : List KeyValue) → length (ctx_text ps) ≤ 65535 → AreSized ps
sized_from_short ps short = sized_from_len ps 65535 (pairs_len-le ps 65535 short) (omega arith)

pub few_from_short : (ps : List KeyValue) → length (ctx_text ps) ≤ 65535 → length ps < 65536
few_from_short ps short = omega (arith, pairs_len-le ps 65535 short, length-le-pairs_len ps)
