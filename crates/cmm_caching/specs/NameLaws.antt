-- Names are equal exactly where they are one: so their equality is an equivalence, and equal names
-- are fed alike to a hasher.
use Rattle.std.specs.Prelude.{◌≡◌, ℕ, true, List, Option, Some, None, nat_eq, refl, Decides}
use Rattle.std.proofs.Common.{ap, sym, true≢false}
use Rattle.std.specs.Cmp.{IsEquivalence, IsPartialEquivalence, partial_equiv_from_equiv, decided}
use Rattle.std.specs.Cmp.{unsigned_Decides}
use Rattle.std.specs.Cmp.Lexicographic.{pointwise, pointwise_decides, bytes_decides}
use Rattle.std.specs.Option.{option_eq}
use Rattle.context_codec.specs.Context.{KeyValue}
use Rattle.edk_codec.specs.Equal.{both_decide, entry_decides}
use Rattle.cmm_caching.specs.Names.{NameValue, key_eq, pair_eq, name_eq, key_hash, pair_hash}
use Rattle.cmm_caching.specs.Names.{name_hash}

key_decides : (a b : List ℕ) → Decides (key_eq a b) (a ≡ b)
key_decides = bytes_decides

pair_decides : (p q : KeyValue) → Decides (pair_eq p q) (p ≡ q)
pair_decides p q =
    both_decide (pointwise nat_eq p.0 q.0) (pointwise nat_eq p.1 q.1) (bytes_decides p.0 q.0)
    (bytes_decides p.1 q.1)
    (λ e f. λ i. (e i, f i)) (λ e. ap (λ r. r.0) e) (λ e. ap (λ r. r.1) e)

suite_decides : (a b : Option ℕ) → Decides (option_eq nat_eq a b) (a ≡ b)
suite_decides None None = (λ _. refl, λ _. refl)
suite_decides None (Some b) = (λ h. absurd (true≢false (sym h)), λ e. cc)
suite_decides (Some a) None = (λ h. absurd (true≢false (sym h)), λ e. cc)
suite_decides (Some a) (Some b) =
    (λ h. ap Some ((unsigned_Decides a b).0 h), λ e. (unsigned_Decides a b).1 cc)

pub name_decides : (a b : NameValue) → Decides (name_eq a b) (a ≡ b)
unfolding name_eq
name_decides a b =
    both_decide _ _ (suite_decides a.suite b.suite)
    (both_decide {R = (a.pairs ≡ b.pairs)
    × ((a.given ≡ b.given) × ((a.required ≡ b.required) × (a.entries ≡ b.entries)))} _ _
    (pointwise_decides pair_decides a.pairs b.pairs)
    (both_decide {R = (a.given ≡ b.given)
    × ((a.required ≡ b.required)
    × (a.entries ≡ b.entries))} _ _ (pointwise_decides pair_decides a.given b.given)
    (both_decide {R = (a.required ≡ b.required)
    × (a.entries ≡ b.entries)} _ _ (pointwise_decides key_decides a.required b.required)
    (pointwise_decides entry_decides a.entries b.entries) (λ e f. (e, f)) (λ r. r.0) (λ r. r.1))
    (λ e f. (e, f)) (λ r. r.0) (λ r. r.1)) (λ e f. (e, f)) (λ r. r.0) (λ r. r.1))
    (λ e r. λ i. record {
      suite = e i;
      pairs = r.0 i;
      given = r.1.0 i;
      required = r.1.1.0 i;
      entries = r.1.1.1 i;
    })
    (λ e. ap (λ x. x.suite) e)
    (λ e. (
      ap (λ x. x.pairs) e,
      (ap (λ x. x.given) e, (ap (λ x. x.required) e, ap (λ x. x.entries) e)),
    ))

pub name_same : (a b : NameValue) → name_eq a b ≡ true → a ≡ b
name_same a b h = (name_decides a b).0 h

-- ---- the laws of `Eq`, `PartialEq` and `Hash`

pub pair_equiv : IsEquivalence pair_eq
pair_equiv = decided pair_eq pair_decides

pub key_equiv : IsEquivalence key_eq
key_equiv = decided key_eq key_decides

pub name_equiv : IsEquivalence name_eq
name_equiv = decided name_eq name_decides

pub pair_partial : IsPartialEquivalence pair_eq
pair_partial = partial_equiv_from_equiv pair_equiv

pub key_partial : IsPartialEquivalence key_eq
key_partial = partial_equiv_from_equiv key_equiv

pub name_partial : IsPartialEquivalence name_eq
name_partial = partial_equiv_from_equiv name_equiv

pub pair_fed : (p q : KeyValue) → pair_eq p q ≡ true → pair_hash p ≡ pair_hash q
pair_fed p q h = ap pair_hash ((pair_decides p q).0 h)

pub key_fed : (a b : List ℕ) → key_eq a b ≡ true → key_hash a ≡ key_hash b
key_fed a b h = ap key_hash ((key_decides a b).0 h)

pub name_fed : (a b : NameValue) → name_eq a b ≡ true → name_hash a ≡ name_hash b
name_fed a b h = ap name_hash ((name_decides a b).0 h)
