-- Entries are equal where all their parts are: so their equality is an equivalence, and equal
-- entries are fed alike to a hasher.
use Rattle.std.specs.Prelude.{◌≡◌, Bool, true, ◌&&◌, ◌++◌, nat_eq, Decides}
use Rattle.std.proofs.Common.{ap}
use Rattle.std.specs.Cmp.{IsEquivalence, IsPartialEquivalence, partial_equiv_from_equiv, decided}
use Rattle.std.specs.Cmp.{first_so, second_so}
use Rattle.std.specs.Cmp.Lexicographic.{pointwise, bytes_decides}
use Rattle.std.specs.Hash as fed
use Rattle.edk_codec.specs.Entry.{Entry}

abbrev pub entry_eq : Entry → Entry → Bool
entry_eq a b = pointwise nat_eq a.provider b.provider
    && (pointwise nat_eq a.info b.info && pointwise nat_eq a.cipher b.cipher)

-- what a hasher is fed of an entry
abbrev pub entry_hash : Entry → fed.HashWrites
entry_hash e = fed.slice fed.u8 e.provider ++ (fed.slice fed.u8 e.info ++ fed.slice fed.u8 e.cipher)

-- a test of two parts decides what both parts come to
pub both_decide : {P Q R : Type 0} (s t : Bool) → Decides s P → Decides t Q → (P → Q → R)
    → (R → P) → (R → Q) → Decides (s && t) R
both_decide s t d e join left right = (
  λ h. join (d.0 (first_so s t h)) (e.0 (second_so s t h)),
  λ r. λ i. d.1 (left r) i && e.1 (right r) i,
)

pub entry_decides : (a b : Entry) → Decides (entry_eq a b) (a ≡ b)
entry_decides a b =
    both_decide (pointwise nat_eq a.provider b.provider)
    (pointwise nat_eq a.info b.info && pointwise nat_eq a.cipher b.cipher)
    (bytes_decides a.provider b.provider)
    (both_decide {R = (a.info ≡ b.info) × (a.cipher ≡ b.cipher)} (pointwise nat_eq a.info b.info)
    (pointwise nat_eq a.cipher b.cipher)
    (bytes_decides a.info b.info) (bytes_decides a.cipher b.cipher) (λ e f. (e, f)) (λ r. r.0)
    (λ r. r.1))
    (λ e r. λ i. record { provider = e i; info = r.0 i; cipher = r.1 i })
    (λ e. ap (λ x. x.provider) e) (λ e. (ap (λ x. x.info) e, ap (λ x. x.cipher) e))

-- ---- the laws of `Eq`, `PartialEq` and `Hash`

pub entry_equiv : IsEquivalence entry_eq
entry_equiv = decided entry_eq entry_decides

pub entry_partial : IsPartialEquivalence entry_eq
entry_partial = partial_equiv_from_equiv entry_equiv

pub entry_fed : (a b : Entry) → entry_eq a b ≡ true → entry_hash a ≡ entry_hash b
entry_fed a b h = ap entry_hash ((entry_decides a b).0 h)
