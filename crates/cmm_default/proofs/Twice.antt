-- A keyring or a manager that is asked twice: all that is known of it but that it was asked once. No
-- proof cites this: it leaves the edits that ask twice nothing to fail by but that.
use Rattle.std.proofs.Common.{◌≡◌, ◌∙◌, ℕ, ◌≤◌, List, Option, Some, None, arith, subst}
use Rattle.std.specs.Prelude.{IfSome}
use Rattle.esdk_fields.specs.Counts.{Stayed}
use Rattle.context_codec.specs.Context.{KeyValue}
use Rattle.edk_codec.specs.Entry.{Entry}
use Rattle.keyring_trait.specs.Keyring.{KeyringMeaning, KeyringGoes, WrappedValue, Opens, OpensWith, Wraps, ivs_in}
use Rattle.keyring_trait.specs.Manager.{ManagerNow, FindsMaterials, Went}
use Rattle.keyring_trait.specs.Materials.{DecMaterialsValue}
use Rattle.keyring_trait.specs.Requests.{DecRequestValue}
use Rattle.keyring_trait.specs.Unlocking.{pair_offence}
use Rattle.keyring_trait.specs.Wrapping.{WrapKeyValue, made, ivs_of}

-- ---- a keyring

pub goes_twice : (old mid new : KeyringMeaning) → KeyringGoes old mid → KeyringGoes mid new → KeyringGoes old new
goes_twice old mid new before then = record {
  keys = then.keys ∙ before.keys;
  wraps = then.wraps ∙ before.wraps;
  refuses_key = then.refuses_key ∙ before.refuses_key;
  refuses_none = then.refuses_none ∙ before.refuses_none;
  steady = then.steady ∙ before.steady;
  later = omega (arith, before.later, then.later);
  still = λ steady.
      (let one = before.still steady in
      let other = then.still (before.steady ∙ steady) in
      omega (arith, one, other, before.later, then.later));
}

opens_longer : (a b c : ℕ) (entries : List Entry) (whole : List KeyValue) (found : Option (List ℕ)) (keys : Option (List WrapKeyValue)) → a ≤ b
    → IfSome keys (λ ks. OpensWith ks entries whole (Stayed b c) found) → IfSome keys (λ ks. OpensWith ks entries whole (Stayed a c) found)
opens_longer a b c entries whole found None up opens = tt
opens_longer a b c entries whole found (Some keys) up opens = record { opened = opens.opened; none = opens.none; first = λ stayed. opens.first (omega (arith, up, stayed)) }

pub opens_twice : (old mid new : KeyringMeaning) (whole : List KeyValue) (entries : List Entry) (found : Option (List ℕ)) → KeyringGoes old mid → Opens mid new whole entries found → Opens old new whole entries found
opens_twice old mid new whole entries found goes opens =
    subst (λ (ks : Option (List WrapKeyValue)). IfSome ks (λ keys. OpensWith keys entries whole (Stayed old.faults new.faults) found)) goes.keys
    (opens_longer old.faults mid.faults new.faults entries whole found mid.keys goes.later opens)

pub wraps_twice : (old mid : KeyringMeaning) (c : List KeyValue) (random : List ℕ) (handed : Option (List ℕ)) (wrapped : WrappedValue) → KeyringGoes old mid → Wraps mid c random handed wrapped → Wraps old c random handed wrapped
wraps_twice old mid c random handed wrapped goes wraps = record {
  key = wraps.key;
  count = wraps.count ∙ goes.wraps;
  told = subst (λ (n : ℕ). IfSome old.keys (λ keys. wrapped.entries ≡ made keys c wrapped.key (ivs_of n (ivs_in handed random)))) goes.wraps
      (subst (λ (ks : Option (List WrapKeyValue)). IfSome ks (λ keys. wrapped.entries ≡ made keys c wrapped.key (ivs_of mid.wraps (ivs_in handed random)))) goes.keys wraps.told);
}

-- ---- a manager

pub finds_twice : (old mid new : ManagerNow) (request : DecRequestValue) (found : DecMaterialsValue) → Went old mid → FindsMaterials mid new request found → FindsMaterials old new request found
finds_twice old mid new request found went finds = record {
  context = finds.context;
  only = finds.only;
  opened = λ keys told. finds.opened keys (went.tells keys told);
  first = λ keys told stayed. finds.first keys (went.tells keys told) (omega (arith, stayed, went.goes.later));
  plain = λ is. finds.plain (went.goes.plain ∙ is);
  unfaulted = λ exact. subst (λ (ds : List (List ℕ)). pair_offence request.stored request.given ds ≡ None) went.goes.demands (finds.unfaulted (went.exact exact));
}
