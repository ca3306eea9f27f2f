-- What the raw keyring of the file's key answers is what the keyring answers.
use Rattle.std.proofs.Common.{◌≡◌, ℕ, Bool, true, false, not, List, ◌∷◌, [], length, Option, Some, None, refl, sym, ap, subst, ◌∙◌, arith}
use Rattle.std.specs.Prelude.{IfErr, IfOk, Result, Ok, Err, if◌then◌else◌}
use Rattle.context_codec.specs.Context.{KeyValue}
use Rattle.edk_codec.specs.Entry.{Entry}
use Rattle.esdk_base.specs.Streams.{ShelfState}
use Rattle.keyring_trait.specs.declared.ring_refusals.RingError.{RingError}
use Rattle.keyring_trait.specs.declared.ring_refusals.RingError.TheVariants.{Refused, KeyringFault, Memory}
use Rattle.keyring_trait.specs.declared.ring_refusals.RingRefusal.{RingRefusal}
use Rattle.keyring_trait.specs.Keyring.{FindsBy, Opens, UnwrapCause, WrapCause, WrappedValue, Wraps, WrapsBy, refusal_with}
use Rattle.keyring_trait.specs.Uses.{KeyUse, AskedOnce}
use Rattle.keyring_trait.specs.Wrapping.{WrapKeyValue, active, made, ivs_of, unwrapped}
use Rattle.keyring_trait.proofs.Using.{once-weaker}
use Rattle.raw_aes_keyring.specs.Keyring.{raw_meaning}
use Rattle.keydir_keyring.specs.Answers.{FindsAsRaw, HadKey, KeyIsReadBy, KeydirAnswers, WrapsAsRaw}
use Rattle.keydir_keyring.specs.Keydir.{KeydirValue, keydir_key}

-- its key isn't retired, so it refuses nothing
refuses_none : {S : Type 0} (k : KeydirValue S) (key : List ℕ) (has : Bool) (r : RingRefusal) → refusal_with has (raw_meaning (keydir_key k key)) ≡ Some r → ⊥
refuses_none k key true r is = absurd (cc)
refuses_none k key false r is = absurd (cc)

-- what it wraps
pub wraps_raw : {S : Type 0} (state : S → ShelfState) (old new : KeydirValue S) (c : List KeyValue) (random : List ℕ) (handed : Option (List ℕ)) (has : Bool) (key : List ℕ) (w : WrapKeyValue)
    (result : Result WrappedValue RingError) → HadKey state old new key → w ≡ keydir_key old key → IfOk result (Wraps (raw_meaning w) c random handed)
    → IfErr result (WrapCause (refusal_with has (raw_meaning w)) 0 0) → KeydirAnswers state old new (WrapsAsRaw old c random handed) result
wraps_raw state old new c random handed has key w (Ok wrapped) had is wraps cause =
    (key, had, subst (λ (v : WrapKeyValue). Wraps (raw_meaning v) c random handed wrapped) is wraps)
wraps_raw state old new c random handed has key w (Err (Refused r)) had is wraps cause =
    absurd (refuses_none old key has r (subst (λ (v : WrapKeyValue). refusal_with has (raw_meaning v) ≡ Some r) is cause))
wraps_raw state old new c random handed has key w (Err KeyringFault) had is wraps cause = absurd (omega (arith, cause.1))
wraps_raw state old new c random handed has key w (Err Memory) had is wraps cause = (key, had)

-- and what it finds; it never fails, so that is what its key unwraps
pub finds_raw : {S : Type 0} (state : S → ShelfState) (old new : KeydirValue S) (c : List KeyValue) (entries : List Entry) (key : List ℕ) (w later : WrapKeyValue)
    (result : Result (Option (List ℕ)) RingError) → HadKey state old new key → w ≡ keydir_key old key → IfOk result (Opens (raw_meaning w) (raw_meaning later) c entries)
    → IfErr result (UnwrapCause 0 0) → KeydirAnswers state old new (FindsAsRaw old c entries) result
finds_raw state old new c entries key w later (Ok found) had is opens cause =
    (key, had, subst (λ (v : WrapKeyValue). found ≡ unwrapped (v ∷ []) entries c) is (opens.first (omega arith)))
finds_raw state old new c entries key w later (Err (Refused r)) had is opens cause = absurd cause
finds_raw state old new c entries key w later (Err KeyringFault) had is opens cause = absurd (omega (arith, cause))
finds_raw state old new c entries key w later (Err Memory) had is opens cause = (key, had)

-- ---- the key that a call went by

one_active : (retired : Bool) (w : WrapKeyValue) → retired ≡ false → length (if not retired then w ∷ [] else []) ≡ 1
one_active retired w is = rw is refl

one_iv : (retired : Bool) (w : WrapKeyValue) (c : List KeyValue) (key bytes : List ℕ) (es : List Entry) → retired ≡ false → es ≡ made (w ∷ []) c key (ivs_of (if retired then 0 else 1) bytes)
    → es ≡ made (w ∷ []) c key (ivs_of 1 bytes)
one_iv retired w c key bytes es is told = told ∙ ap (λ (b : Bool). made (w ∷ []) c key (ivs_of (if b then 0 else 1) bytes)) is

-- what is wrapped was made by it
pub wraps_by_read : (before now : Option (List KeyUse)) (w : WrapKeyValue) (c : List KeyValue) (random : List ℕ) (handed : Option (List ℕ)) (result : Result WrappedValue RingError)
    → AskedOnce before now (KeyIsReadBy (Ok w)) → w.retired ≡ false → IfOk result (Wraps (raw_meaning w) c random handed) → AskedOnce before now (WrapsBy 1 c random handed result)
wraps_by_read before now w c random handed (Ok wrapped) once active wraps =
    once-weaker before now (KeyIsReadBy (Ok w)) (WrapsBy 1 c random handed (Ok wrapped))
    (λ keys is. subst (λ (ks : List WrapKeyValue). WrapsBy 1 c random handed (Ok wrapped) ks) (sym is)
    (record { each = one_active w.retired w active; entries = one_iv w.retired w c wrapped.key _ wrapped.entries active wraps.told })) once
wraps_by_read before now w c random handed (Err e) once active wraps = once-weaker before now (KeyIsReadBy (Ok w)) (WrapsBy 1 c random handed (Err e)) (λ _ _. tt) once

pub wraps_unread : (before now : Option (List KeyUse)) (c : List KeyValue) (random : List ℕ) (handed : Option (List ℕ)) (result : Result WrappedValue RingError) (e : RingError) → result ≡ Err e
    → AskedOnce before now (KeyIsReadBy (Err e)) → AskedOnce before now (WrapsBy 1 c random handed result)
wraps_unread before now c random handed result e is once =
    subst (λ (r : Result WrappedValue RingError). AskedOnce before now (WrapsBy 1 c random handed r)) (sym is)
    (once-weaker before now (KeyIsReadBy (Err e)) (WrapsBy 1 c random handed (Err e)) (λ _ _. tt) once)

-- what is found it opens
pub finds_by_read : (before now : Option (List KeyUse)) (w later : WrapKeyValue) (c : List KeyValue) (entries : List Entry) (result : Result (Option (List ℕ)) RingError)
    → AskedOnce before now (KeyIsReadBy (Ok w)) → IfOk result (Opens (raw_meaning w) (raw_meaning later) c entries) → IfErr result (UnwrapCause 0 0)
    → AskedOnce before now (FindsBy c entries result)
finds_by_read before now w later c entries (Ok found) once opens cause =
    once-weaker before now (KeyIsReadBy (Ok w)) (FindsBy c entries (Ok found))
    (λ keys is. opens.first (omega arith) ∙ ap (λ (ks : List WrapKeyValue). unwrapped ks entries c) (sym is)) once
finds_by_read before now w later c entries (Err (Refused r)) once opens cause = absurd cause
finds_by_read before now w later c entries (Err KeyringFault) once opens cause = absurd (omega (arith, cause))
finds_by_read before now w later c entries (Err Memory) once opens cause = once-weaker before now (KeyIsReadBy (Ok w)) (FindsBy c entries (Err Memory)) (λ _ _. tt) once

none_opens : (entries : List Entry) (c : List KeyValue) → unwrapped [] entries c ≡ None
unfolding unwrapped
none_opens entries c = refl

by_none : (e : RingError) (c : List KeyValue) (entries : List Entry) (keys : List WrapKeyValue) → KeyIsReadBy (Err e) keys → FindsBy c entries (Err e) keys
by_none (Refused r) c entries keys is = tt
by_none KeyringFault c entries keys is = ap (λ (ks : List WrapKeyValue). unwrapped ks entries c) is ∙ none_opens entries c
by_none Memory c entries keys is = tt

pub finds_unread : (before now : Option (List KeyUse)) (c : List KeyValue) (entries : List Entry) (result : Result (Option (List ℕ)) RingError) (e : RingError) → result ≡ Err e
    → AskedOnce before now (KeyIsReadBy (Err e)) → AskedOnce before now (FindsBy c entries result)
finds_unread before now c entries result e is once =
    subst (λ (r : Result (Option (List ℕ)) RingError). AskedOnce before now (FindsBy c entries r)) (sym is)
    (once-weaker before now (KeyIsReadBy (Err e)) (FindsBy c entries (Err e)) (λ keys none. by_none e c entries keys none) once)
