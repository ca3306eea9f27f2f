-- A refusal of a request is one that stands.
use Rattle.std.proofs.Common.{◌≡◌, List, Option, Some, None, subst, refl}
use Rattle.std.specs.Prelude.{find, option_map}
use Rattle.std.specs.Option.{option_or}
use Rattle.esdk_fields.specs.declared.refusals.Refusal.{Refusal}
use Rattle.esdk_fields.specs.declared.refusals.Refusal.TheVariants.{ReservedPrefix}
use Rattle.context_codec.specs.Context.{KeyValue}
use Rattle.context_codec.proofs.Parts.{holds_own}
use Rattle.keyring_trait.specs.declared.ring_refusals.RingRefusal.{RingRefusal}
use Rattle.keyring_trait.specs.declared.ring_refusals.RingRefusal.TheVariants as rings
use Rattle.keyring_trait.specs.Keyring.{KeyringMeaning}
use Rattle.keyring_trait.specs.Manager.{has_reserved_prefix, refusal_named, request_refusal, RefusalStands}
use Rattle.cmm_default.specs.DefaultCmm.{default_meaning}
use Rattle.cmm_default.proofs.Passing.{passing_from_found}

-- what is found first
abbrev by_found : Option KeyValue → Option RingRefusal → Option Refusal
by_found p r = option_or (option_map (λ p. ReservedPrefix p.0) p) (option_or (option_map refusal_named r) None)

named_stands : (ring : KeyringMeaning) (context : List KeyValue) (r : RingRefusal) → ring.refuses_none ≡ Some r → RefusalStands (default_meaning ring) context (refusal_named r)
named_stands ring context rings.NoGenerator is = is
named_stands ring context rings.GeneratorHasKey is = is

by_found_stands : (ring : KeyringMeaning) (context : List KeyValue) (p : Option KeyValue) (r : Option RingRefusal) (refusal : Refusal)
    → find (λ q. has_reserved_prefix q.0) context ≡ p → ring.refuses_none ≡ r → by_found p r ≡ Some refusal → RefusalStands (default_meaning ring) context refusal
by_found_stands ring context (Some p) r refusal found is e =
    let named : ReservedPrefix p.0 ≡ refusal = cc in
    let passing = passing_from_found (λ (q : KeyValue). has_reserved_prefix q.0) context p found in
    subst (λ z. RefusalStands (default_meaning ring) context z) named (passing.passing, holds_own context p passing.listed)
by_found_stands ring context None (Some r) refusal found is e =
    let named : refusal_named r ≡ refusal = cc in
    subst (λ z. RefusalStands (default_meaning ring) context z) named (named_stands ring context r is)
by_found_stands ring context None None refusal found is e = absurd cc

-- what the default manager refuses a request for stands
pub refusal_stands : (ring : KeyringMeaning) (context : List KeyValue) (refusal : Refusal)
    → request_refusal (default_meaning ring) context ≡ Some refusal → RefusalStands (default_meaning ring) context refusal
unfolding request_refusal
refusal_stands ring context refusal e = by_found_stands ring context (find (λ q. has_reserved_prefix q.0) context) ring.refuses_none refusal refl refl e

no_ring_refusal : (p : Option KeyValue) (r : Option RingRefusal) → by_found p r ≡ None → r ≡ None
no_ring_refusal (Some p) r e = absurd cc
no_ring_refusal None (Some r) e = absurd cc
no_ring_refusal None None e = refl

-- where it refuses none, neither does its keyring
pub unrefused : (ring : KeyringMeaning) (context : List KeyValue) → request_refusal (default_meaning ring) context ≡ None → ring.refuses_none ≡ None
unfolding request_refusal
unrefused ring context e = no_ring_refusal (find (λ q. has_reserved_prefix q.0) context) ring.refuses_none e
