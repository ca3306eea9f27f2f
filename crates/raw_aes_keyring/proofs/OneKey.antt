-- What a keyring of one wrapping key answers.
use Rattle.std.proofs.Common.{◌≡◌, ℕ, Bool, true, false, not, List, [], ◌∷◌, length, take, Option, Some, None, refl, sym, ap, subst, ◌∙◌, arith}
use Rattle.std.specs.Prelude.{if◌then◌else◌, Result, Ok, Err}
use Rattle.std.proofs.lemmas.List.{take_all}
use Rattle.esdk_fields.specs.Counts.{Stayed}
use Rattle.context_codec.specs.Context.{KeyValue}
use Rattle.edk_codec.specs.Entry.{Entry}
use Rattle.keyring_trait.specs.Wrapping.{WrapKeyValue, wrap, made_under, made, ivs_of, unwrapped}
use Rattle.keyring_trait.specs.declared.ring_refusals.RingError.{RingError}
use Rattle.keyring_trait.specs.declared.ring_refusals.RingError.TheVariants.{Memory}
use Rattle.keyring_trait.specs.Keyring.{WrappedValue, data_key_in, ivs_in, Wraps, WrapsBy, OpensWith, Opens, FindsBy}
use Rattle.keyring_trait.specs.Uses.{AskedOnce}
use Rattle.keyring_trait.proofs.Using.{fixed_once}
use Rattle.keyring_trait.proofs.Wrapping.{unwraps_only_wraps}
use Rattle.raw_aes_keyring.specs.Keyring.{raw_meaning}

-- what the keys unwrap is what opens with them, whether or not something failed
opens_unwrapped : (keys : List WrapKeyValue) (entries : List Entry) (c : List KeyValue) (stayed : Type 0) (found : Option (List ℕ)) → found ≡ unwrapped keys entries c → OpensWith keys entries c stayed found
opens_unwrapped keys entries c stayed (Some key) is = record { opened = unwraps_only_wraps keys entries c key (sym is); none = λ e. absurd cc; first = λ _. is }
opens_unwrapped keys entries c stayed None is = record { opened = tt; none = λ _. sym is; first = λ _. is }

-- what the one key unwraps is what opens
pub opens_one : (w : WrapKeyValue) (c : List KeyValue) (entries : List Entry) (found : Option (List ℕ)) → found ≡ unwrapped (w ∷ []) entries c → Opens (raw_meaning w) (raw_meaning w) c entries found
opens_one w c entries found is = opens_unwrapped (w ∷ []) entries c (Stayed 0 0) found is

-- the wrap that a key makes which isn't retired
one_made : (w : WrapKeyValue) (c : List KeyValue) (key bytes : List ℕ) → w.retired ≡ false → made (w ∷ []) c key (ivs_of (if w.retired then 0 else 1) bytes) ≡ wrap w c (take 12 bytes) key ∷ []
one_made w c key bytes active = ap (λ (b : Bool). made_under (if not b then w ∷ [] else []) c key (ivs_of (if b then 0 else 1) bytes)) active

-- one wrap is what a keyring of one key makes
pub wraps_one : (w : WrapKeyValue) (c : List KeyValue) (random : List ℕ) (handed : Option (List ℕ)) (wrapped : WrappedValue) (iv : List ℕ) → w.retired ≡ false → wrapped.key ≡ data_key_in handed random
    → iv ≡ ivs_in handed random → length iv ≡ 12 → wrapped.entries ≡ wrap w c iv wrapped.key ∷ [] → Wraps (raw_meaning w) c random handed wrapped
wraps_one w c random handed wrapped iv active key iv_is twelve entries =
    let first : iv ≡ take 12 (ivs_in handed random) = sym (take_all 12 iv (omega (arith, twelve))) ∙ ap (take 12) iv_is in
    record {
      key = key;
      count = rw active (ap length entries);
      told = entries ∙ ap (λ (i : List ℕ). wrap w c i wrapped.key ∷ []) first ∙ sym (one_made w c wrapped.key (ivs_in handed random) active);
    }

-- no wrap is what a keyring of a retired key makes
pub wraps_none : (w : WrapKeyValue) (c : List KeyValue) (random : List ℕ) (handed : Option (List ℕ)) (wrapped : WrappedValue) → w.retired ≡ true → wrapped.key ≡ data_key_in handed random
    → wrapped.entries ≡ [] → Wraps (raw_meaning w) c random handed wrapped
wraps_none w c random handed wrapped retired key entries = record { key = key; count = rw retired (ap length entries); told = rw retired entries }

-- ---- the key that a call went by

one_active : (retired : Bool) (w : WrapKeyValue) → length (if not retired then w ∷ [] else []) ≡ (if retired then 0 else 1)
one_active true w = refl
one_active false w = refl

-- what is wrapped was made by the one key
pub wraps_by_one : (w : WrapKeyValue) (c : List KeyValue) (random : List ℕ) (handed : Option (List ℕ)) (wrapped : WrappedValue) → Wraps (raw_meaning w) c random handed wrapped
    → AskedOnce (raw_meaning w).uses (raw_meaning w).uses (WrapsBy (raw_meaning w).wraps c random handed (Ok wrapped))
wraps_by_one w c random handed wrapped wraps =
    fixed_once w (WrapsBy (raw_meaning w).wraps c random handed (Ok wrapped)) (record { each = one_active w.retired w; entries = wraps.told })

pub wraps_not : (w : WrapKeyValue) (c : List KeyValue) (random : List ℕ) (handed : Option (List ℕ)) (result : Result WrappedValue RingError) (e : RingError) → result ≡ Err e
    → AskedOnce (raw_meaning w).uses (raw_meaning w).uses (WrapsBy (raw_meaning w).wraps c random handed result)
wraps_not w c random handed result e is =
    fixed_once w (WrapsBy (raw_meaning w).wraps c random handed result) (subst (λ (r : Result WrappedValue RingError). WrapsBy (raw_meaning w).wraps c random handed r (w ∷ [])) (sym is) tt)

-- what is found the one key opens
pub finds_by_one : (w : WrapKeyValue) (c : List KeyValue) (entries : List Entry) (found : Option (List ℕ)) → found ≡ unwrapped (w ∷ []) entries c
    → AskedOnce (raw_meaning w).uses (raw_meaning w).uses (FindsBy c entries (Ok found))
finds_by_one w c entries found is = fixed_once w (FindsBy c entries (Ok found)) is

pub finds_not : (w : WrapKeyValue) (c : List KeyValue) (entries : List Entry) (result : Result (Option (List ℕ)) RingError) → result ≡ Err Memory
    → AskedOnce (raw_meaning w).uses (raw_meaning w).uses (FindsBy c entries result)
finds_not w c entries result is =
    fixed_once w (FindsBy c entries result) (subst (λ (r : Result (Option (List ℕ)) RingError). FindsBy c entries r (w ∷ [])) (sym is) tt)
