-- What a keyring wrapped comes back.
use Rattle.std.proofs.Common.{◌≡◌, ℕ, zero, suc, ◌*◌, ◌≤◌, List, [], ◌∷◌, length, take, drop, Option, Some, refl, sym, ap, ◌∙◌, subst, arith}
use Rattle.std.specs.Prelude.{All, Contains, IfSome}
use Rattle.std.proofs.lemmas.List.{length-drop, length-take-le}
use Rattle.std.proofs.lemmas.List.Elements.{All-cons}
use Rattle.esdk_fields.specs.Counts.{Stayed}
use Rattle.context_codec.specs.Context.{KeyValue}
use Rattle.context_codec.proofs.Members.{Contains-head}
use Rattle.edk_codec.specs.Entry.{Entry}
use Rattle.keyring_trait.specs.Wrapping.{WrapKeyValue, unwrapped, made, active, ivs_of, AreIvs}
use Rattle.keyring_trait.specs.Keyring.{KeyringMeaning, WrappedValue, OpensWith, Opens}
use Rattle.keyring_trait.specs.Laws.{AreApart, HasWrapped}
use Rattle.keyring_trait.proofs.Active.{active_listed, active_apart}
use Rattle.keyring_trait.proofs.Made.{made_is_wrapped}
use Rattle.keyring_trait.proofs.Wrapping.{unwrapped_key}

length-ivs_of : (n : ℕ) (bytes : List ℕ) → length (ivs_of n bytes) ≡ n
length-ivs_of zero bytes = refl
length-ivs_of (suc n) bytes = ap suc (length-ivs_of n (drop 12 bytes))

All-ivs_of : (n : ℕ) (bytes : List ℕ) → length bytes ≡ 12 * n → All (λ iv. length iv ≡ 12) (ivs_of n bytes)
All-ivs_of zero bytes long = λ k d lt. absurd (omega arith)
All-ivs_of (suc n) bytes long =
    All-cons (λ iv. length iv ≡ 12) (take 12 bytes) (ivs_of n (drop 12 bytes)) (length-take-le 12 bytes (omega (arith, long)))
    (All-ivs_of n (drop 12 bytes) (omega (arith, length-drop 12 bytes, long)))

-- the IVs of a keyring that tells its keys
pub ivs_are : (keys : List WrapKeyValue) (n : ℕ) (bytes : List ℕ) → length (active keys) ≡ n → length bytes ≡ 12 * n → AreIvs keys (ivs_of n bytes)
ivs_are keys n bytes many long = record { enough = length-ivs_of n bytes ∙ sym many; long = All-ivs_of n bytes long }

-- what a keyring wrapped is what it unwraps
pub told_back : (keys : List WrapKeyValue) (n : ℕ) (c : List KeyValue) (key bytes : List ℕ) (entries : List Entry) → length (active keys) ≡ n → 1 ≤ n → length bytes ≡ 12 * n → length key ≡ 32 → AreApart keys keys
    → entries ≡ made keys c key (ivs_of n bytes) → unwrapped keys entries c ≡ Some key
told_back keys n c key bytes entries many one long twice apart is = by_first (active keys) refl
  where
    by_first : (ws : List WrapKeyValue) → ws ≡ active keys → unwrapped keys entries c ≡ Some key
    by_first [] none = absurd (let none_long : 0 ≡ n = ap length none ∙ many in omega (arith, none_long, one))
    by_first (w ∷ ws) first =
        let wrote : Contains (active keys) w = subst (λ (l : List WrapKeyValue). Contains l w) first (Contains-head w ws) in
        let wrapped =
        made_is_wrapped keys keys c key (ivs_of n bytes) w w (ivs_are keys n bytes many long) twice (active_apart keys keys apart) wrote (active_listed keys w wrote)
        (record { namespace = refl; name = refl; key = refl }) in
        ap (λ (es : List Entry). unwrapped keys es c) is ∙ unwrapped_key (active keys) keys c key (made keys c key (ivs_of n bytes)) wrapped.0

pub comes_back : (ring old new : KeyringMeaning) (keys : List WrapKeyValue) (c : List KeyValue) (random key : List ℕ) (wrapped : WrappedValue) (found : Option (List ℕ))
    → HasWrapped ring keys c random key wrapped → old.keys ≡ ring.keys → Stayed old.faults new.faults → Opens old new c wrapped.entries found → found ≡ Some key
comes_back ring old new keys c random key wrapped found has kept stayed opens =
    let here : OpensWith keys wrapped.entries c (Stayed old.faults new.faults) found =
    subst (λ (o : Option (List WrapKeyValue)). IfSome o (λ ks. OpensWith ks wrapped.entries c (Stayed old.faults new.faults) found)) (kept ∙ has.told) opens in
    let made_is : wrapped.entries ≡ made keys c wrapped.key (ivs_of ring.wraps random) =
    subst (λ (o : Option (List WrapKeyValue)). IfSome o (λ ks. wrapped.entries ≡ made ks c wrapped.key (ivs_of ring.wraps random))) has.told has.wraps.told in
    let same : wrapped.key ≡ key = has.wraps.key in
    here.first stayed ∙ told_back keys ring.wraps c wrapped.key random wrapped.entries has.count has.some has.drawn (ap length same ∙ has.long) has.apart made_is ∙ ap Some same
