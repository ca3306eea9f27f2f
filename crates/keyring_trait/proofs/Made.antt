-- The entries that a list of keys makes of one data key.
use Rattle.std.proofs.Common.{◌≡◌, inl, inr, ℕ, ◌≤◌, suc, List, [], ◌∷◌, length, refl, sym, ap, subst, arith}
use Rattle.std.specs.Prelude.{All, Contains}
use Rattle.std.proofs.lemmas.List.Elements.{All-head, All-tail}
use Rattle.context_codec.specs.Context.{KeyValue}
use Rattle.edk_codec.specs.Entry.{Entry, IsEntry}
use Rattle.edk_codec.proofs.Infos.{length-raw_info}
use Rattle.keyring_trait.specs.Wrapping.{WrapKeyValue, wrap, active, made_under, made, AreIvs}
use Rattle.keyring_trait.specs.Laws.{IsWrapOf, HasWrap, IsSameKey, AreApart, AreWrapped}
use Rattle.context_codec.proofs.Members.{Contains-head, Contains-tail, Contains-cases, Contains-nil}
use Rattle.keyring_trait.proofs.Wrapping.{wrap-provider, wrap-info, length-wrap-cipher}

moved : (w : WrapKeyValue) (ws : List WrapKeyValue) (c : List KeyValue) (key : List ℕ) (e : Entry) → IsWrapOf ws c key e → IsWrapOf (w ∷ ws) c key e
moved w ws c key e is = record { under = is.under; iv = is.iv; listed = Contains-tail w ws is.under is.listed; long = is.long; is = is.is }

-- each entry that is made is a wrap
pub made_wraps : (ws : List WrapKeyValue) (c : List KeyValue) (key : List ℕ) (ivs : List (List ℕ)) → All (λ iv. length iv ≡ 12) ivs → (e : Entry) → Contains (made_under ws c key ivs) e → IsWrapOf ws c key e
made_wraps [] c key ivs long e listed = absurd (Contains-nil e listed)
made_wraps (w ∷ ws) c key [] long e listed = absurd (Contains-nil e listed)
made_wraps (w ∷ ws) c key (iv ∷ ivs) long e listed =
    elim (Contains-cases (wrap w c iv key) (made_under ws c key ivs) e listed) [
      | inl is ↦ record { under = w; iv = iv; listed = Contains-head w ws; long = All-head (λ i. length i ≡ 12) iv ivs long; is = sym is }
      | inr later ↦ moved w ws c key e (made_wraps ws c key ivs (All-tail (λ i. length i ≡ 12) iv ivs long) e later)
    ]

-- under each key there is one
pub made_each : (ws : List WrapKeyValue) (c : List KeyValue) (key : List ℕ) (ivs : List (List ℕ)) → All (λ iv. length iv ≡ 12) ivs → length ivs ≡ length ws → (w : WrapKeyValue) → Contains ws w
    → HasWrap w c key (made_under ws c key ivs)
made_each [] c key ivs long enough w listed = absurd (Contains-nil w listed)
made_each (v ∷ ws) c key [] long enough w listed = absurd (omega (arith, enough))
made_each (v ∷ ws) c key (iv ∷ ivs) long enough w listed =
    elim (Contains-cases v ws w listed) [
      | inl is ↦ record {
        iv = iv;
        long = All-head (λ i. length i ≡ 12) iv ivs long;
        listed = subst (λ (x : WrapKeyValue). Contains (wrap v c iv key ∷ made_under ws c key ivs) (wrap x c iv key)) is (Contains-head (wrap v c iv key) (made_under ws c key ivs));
      }
      | inr later ↦
          let rest = made_each ws c key ivs (All-tail (λ i. length i ≡ 12) iv ivs long) (omega (arith, enough)) w later in
          record { iv = rest.iv; long = rest.long; listed = Contains-tail (wrap v c iv key) (made_under ws c key ivs) (wrap w c rest.iv key) rest.listed }
    ]

length-made_under : (ws : List WrapKeyValue) (c : List KeyValue) (key : List ℕ) (ivs : List (List ℕ)) → length ivs ≡ length ws → length (made_under ws c key ivs) ≡ length ws
length-made_under [] c key ivs enough = refl
length-made_under (w ∷ ws) c key [] enough = absurd (omega (arith, enough))
length-made_under (w ∷ ws) c key (iv ∷ ivs) enough = ap suc (length-made_under ws c key ivs (omega (arith, enough)))

-- as many as keys wrap
pub length-made : (keys : List WrapKeyValue) (c : List KeyValue) (key : List ℕ) (ivs : List (List ℕ)) → length ivs ≡ length (active keys) → length (made keys c key ivs) ≡ length (active keys)
length-made keys c key ivs enough = length-made_under (active keys) c key ivs enough

pub made_is_wrapped : (writers readers : List WrapKeyValue) (c : List KeyValue) (key : List ℕ) (ivs : List (List ℕ)) (writer reader : WrapKeyValue)
    → AreIvs writers ivs → length key ≡ 32 → AreApart (active writers) readers → Contains (active writers) writer → Contains readers reader → IsSameKey writer reader
    → AreWrapped (active writers) readers c key (made writers c key ivs) × (length (made writers c key ivs) ≡ length (active writers))
made_is_wrapped writers readers c key ivs writer reader ivs_are long apart written read shared = (
  record {
    long = long;
    wraps = made_wraps (active writers) c key ivs ivs_are.long;
    each = made_each (active writers) c key ivs ivs_are.long ivs_are.enough;
    apart = apart;
    writer = writer;
    reader = reader;
    written = written;
    read = read;
    shared = shared;
  },
  length-made writers c key ivs ivs_are.enough,
)

-- ---- entries

-- a wrap is short enough for an entry's text
pub wrap_is_entry : (w : WrapKeyValue) (c : List KeyValue) (iv key : List ℕ) → length w.namespace ≤ 65535 → length w.name ≤ 1024 → length iv ≡ 12 → length key ≡ 32 → IsEntry (wrap w c iv key)
wrap_is_entry w c iv key namespace name twelve long = record {
  provider = subst (λ (p : List ℕ). length p ≤ 65535) (sym (wrap-provider w c iv key)) namespace;
  info = omega (arith, ap length (wrap-info w c iv key), length-raw_info w.name iv, name, twelve);
  cipher = omega (arith, length-wrap-cipher w c iv key, long);
}
