-- Materials of a data key that was drawn for the request.
use Rattle.std.proofs.Common.{◌≡◌, ℕ, ◌+◌, ◌*◌, ◌≤◌, zero, suc, true, List, length, take, drop, Option, Some, refl, sym, ap, subst, ◌∙◌, arith}
use Rattle.std.specs.Prelude.{All, None, IfSome, Ok}
use Rattle.std.proofs.lemmas.List.Elements.{All-nil, All-cons, All-weaker, All-contains_itself}
use Rattle.std.proofs.lemmas.List.{length-take, length-drop}
use Rattle.context_codec.specs.KeySet.{has}
use Rattle.context_codec.proofs.KeySets.{has-from_Contains}
use Rattle.keyring_trait.specs.Keyring.{KeyringMeaning, WrappedValue, Wraps, WrapsBy}
use Rattle.keyring_trait.specs.Manager.{GivesMaterials, request_refusal}
use Rattle.keyring_trait.specs.Materials.{EncMaterialsValue}
use Rattle.keyring_trait.specs.Requests.{EncRequestValue}
use Rattle.keyring_trait.specs.Uses.{AskedOnce}
use Rattle.keyring_trait.specs.Wrapping.{WrapKeyValue, active, made, ivs_of, AreIvs}
use Rattle.cmm_default.specs.DefaultCmm.{default_gave, default_meaning, default_now}
use Rattle.cmm_default.specs.Steps.{wrapped_materials}

-- ---- initialization vectors

length-ivs_of : (n : ℕ) (bytes : List ℕ) → length (ivs_of n bytes) ≡ n
length-ivs_of zero bytes = refl
length-ivs_of (suc n) bytes = ap suc (length-ivs_of n (drop 12 bytes))

all_long : (n : ℕ) (bytes : List ℕ) → 12 * n ≤ length bytes → All (λ iv. length iv ≡ 12) (ivs_of n bytes)
all_long zero bytes enough = All-nil (λ iv. length iv ≡ 12)
all_long (suc n) bytes enough =
    All-cons (λ iv. length iv ≡ 12) (take 12 bytes) (ivs_of n (drop 12 bytes)) (omega (arith, length-take 12 bytes))
    (all_long n (drop 12 bytes) (omega (arith, length-drop 12 bytes)))

are_ivs : (keys : List WrapKeyValue) (n : ℕ) (bytes : List ℕ) → 12 * n ≤ length bytes → length (active keys) ≡ n → AreIvs keys (ivs_of n bytes)
are_ivs keys n bytes enough count = record { enough = length-ivs_of n bytes ∙ sym count; long = all_long n bytes enough }

-- ---- materials

-- what is known of the keys that are told
at_told : (o : Option (List WrapKeyValue)) (keys : List WrapKeyValue) (P : List WrapKeyValue → Type 0) → o ≡ Some keys → IfSome o P → P keys
at_told o keys P is known = subst (λ k. IfSome k P) is known

-- The keyring drew the data key from the random bytes, and the materials are those of the request.
pub gives_drawn : (ring : KeyringMeaning) (request : EncRequestValue) (random : List ℕ) (wrapped : WrappedValue) (given : EncMaterialsValue)
    → length random ≡ 32 + 12 * ring.wraps → IfSome ring.keys (λ keys. length (active keys) ≡ ring.wraps) → request_refusal (default_meaning ring) request.context ≡ None
    → Wraps ring request.context random None wrapped → given ≡ wrapped_materials request wrapped
    → GivesMaterials (default_now ring) request random given
gives_drawn ring request random wrapped given long told unrefused wraps is =
    subst (λ (m : EncMaterialsValue). GivesMaterials (default_now ring) request random m) (sym is)
    (record {
      context = refl;
      required = All-weaker _ (λ key. has request.required key ≡ true) (has-from_Contains request.required) request.required (All-contains_itself request.required);
      count = wraps.count;
      wrapped = λ keys tells. record {
        ivs = ivs_of ring.wraps (drop 32 random);
        are_ivs = are_ivs keys ring.wraps (drop 32 random) (omega (arith, length-drop 32 random, long)) (at_told ring.keys keys (λ ks. length (active ks) ≡ ring.wraps) tells told);
        entries = made_of keys tells;
      };
      fresh = λ _ _. record { key = wraps.key; entries = made_of };
      plain = λ _. refl;
      demanded = λ _. refl;
      unrefused = λ _. unrefused;
    })
  where
    made_of : (keys : List WrapKeyValue) → ring.keys ≡ Some keys → wrapped.entries ≡ made keys request.context wrapped.key (ivs_of ring.wraps (drop 32 random))
    made_of keys tells = at_told ring.keys keys (λ ks. wrapped.entries ≡ made ks request.context wrapped.key (ivs_of ring.wraps (drop 32 random))) tells wraps.told

-- the keys that the keyring went by made them
pub gave_by : (old new : KeyringMeaning) (request : EncRequestValue) (random : List ℕ) (wrapped : WrappedValue) (given : EncMaterialsValue) → new.wraps ≡ old.wraps
    → AskedOnce old.uses new.uses (WrapsBy old.wraps request.context random None (Ok wrapped)) → given ≡ wrapped_materials request wrapped → default_gave new old.uses request random given
gave_by old new request random wrapped given same once is =
    subst (λ (m : EncMaterialsValue). default_gave new old.uses request random m) (sym is)
    (subst (λ (n : ℕ). AskedOnce old.uses new.uses (WrapsBy n request.context random None (Ok wrapped))) (sym same) once)
