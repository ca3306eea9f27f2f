-- What is wrapped is unwrapped, and the entries of other keys are passed over.
use Rattle.std.proofs.Common.{◌≡◌, ◌≢◌, ◌↔◌, inl, inr, ℕ, ◌+◌, Bool, true, false, eqb, List, ◌++◌, length, take, drop, Some, None, refl, sym, ap, subst, ◌∙◌, arith}
use Rattle.std.specs.Prelude.{Contains}
use Rattle.std.specs.Str.{bytes_eq}
use Rattle.std.proofs.Math.Seq.{drop-append-add}
use Rattle.std.proofs.lemmas.Bool.{false_from_ne_true, and_parts, eqb-true}
use Rattle.std.proofs.lemmas.Slice.Eq.{bytes_eq-Decides}
use Rattle.std.proofs.lemmas.List.{length-append, length-take, take_at, drop_at, take-append-drop}
use Rattle.cipher_spec.specs.Gcm.{cipher_of, sealed, opened}
use Rattle.cipher_spec.proofs.GcmLemmas.{length-cipher_of, length-tag_of, opened_from_sealed, sealed_from_opened}
use Rattle.context_codec.specs.Context.{KeyValue, ctx_text}
use Rattle.edk_codec.specs.Entry.{Entry}
use Rattle.edk_codec.specs.RawInfo.{raw_info}
use Rattle.edk_codec.proofs.Infos.{lengths, raw_info_parts, length-raw_info, name_of_raw_info}
use Rattle.keyring_trait.specs.Wrapping.{WrapKeyValue, wrap, iv_in, is_entry_of, unwrap, first_some, unwrapped, IsWrap, IsOpened}
use Rattle.keyring_trait.specs.Laws.{IsWrapOf, IsSameKey, AreApart, AreWrapped}
use Rattle.keyring_trait.proofs.Firsts.{IsOrNone, first_some-or, first_some-is, first_some-found, first_some-none, none_first_some}

-- ---- what is sealed

-- sealed bytes: the ciphertext, and the tag behind it
joined_seal : List ℕ × List ℕ → List ℕ
joined_seal s = s.0 ++ s.1

pub length-sealed : (key iv aad text : List ℕ) → length ((sealed key iv aad text).0) ≡ length text
unfolding sealed
length-sealed key iv aad text = length-cipher_of key iv text

pub length-sealed_tag : (key iv aad text : List ℕ) → length ((sealed key iv aad text).1) ≡ 16
unfolding sealed
length-sealed_tag key iv aad text = length-tag_of key iv aad (cipher_of key iv text)

-- a text of n bytes, sealed, and split after n bytes
opened_again : (key iv aad text : List ℕ) (n : ℕ) → length text ≡ n → (s : List ℕ × List ℕ) → sealed key iv aad text ≡ s → opened key iv aad (take n (s.0 ++ s.1)) (drop n (s.0 ++ s.1)) ≡ Some text
opened_again key iv aad text n len s is =
    let long : length s.0 ≡ n = sym (ap (λ (p : List ℕ × List ℕ). length p.0) is) ∙ length-sealed key iv aad text ∙ len in
    rw (take_at s.0 s.1 n long, drop_at s.0 s.1 n long) (opened_from_sealed key iv aad text s.0 s.1 is)

-- ---- the entry of a key

-- the IV of the information
pub iv_of_raw_info : (name iv : List ℕ) → drop (length name + 8) (raw_info name iv) ≡ iv
iv_of_raw_info name iv = ap (drop (length name + 8)) (raw_info_parts name iv) ∙ drop-append-add name (lengths ++ iv) 8 ∙ drop_at lengths iv 8 refl

-- an entry with these parts is one of the key
pub entry_fits : (w : WrapKeyValue) (e : Entry) (iv : List ℕ) → e.provider ≡ w.namespace → e.info ≡ raw_info w.name iv → length iv ≡ 12 → length e.cipher ≡ 48 → (is_entry_of w e ≡ true) × (iv_in w e ≡ iv)
entry_fits w e iv provider info twelve long =
    let iv_is : iv_in w e ≡ iv = ap (drop (length w.name + 8)) info ∙ iv_of_raw_info w.name iv in
    let first : bytes_eq e.provider w.namespace ≡ true = (bytes_eq-Decides e.provider w.namespace).1 provider in
    let second : bytes_eq e.info (raw_info w.name (iv_in w e)) ≡ true = (bytes_eq-Decides e.info (raw_info w.name (iv_in w e))).1 (info ∙ ap (raw_info w.name) (sym iv_is)) in
    let third : eqb (length (iv_in w e)) 12 ≡ true = rw (iv_is, twelve) refl in
    let fourth : eqb (length e.cipher) 48 ≡ true = rw long refl in
    (rw (first, second, third, fourth) refl, iv_is)

-- what an entry of the key is made of
pub record IsEntryOf (w : WrapKeyValue) (e : Entry) : Type 0 where
  pub provider : e.provider ≡ w.namespace
  pub info : e.info ≡ raw_info w.name (iv_in w e)
  pub iv : length (iv_in w e) ≡ 12
  pub cipher : length e.cipher ≡ 48

pub entry_parts : (w : WrapKeyValue) (e : Entry) → is_entry_of w e ≡ true → IsEntryOf w e
entry_parts w e holds =
    let a = and_parts _ _ holds in
    let b = and_parts _ _ a.0 in
    let c = and_parts _ _ b.0 in
    record {
      provider = (bytes_eq-Decides e.provider w.namespace).0 c.0;
      info = (bytes_eq-Decides e.info (raw_info w.name (iv_in w e))).0 c.1;
      iv = eqb-true _ _ b.1;
      cipher = eqb-true _ _ a.1;
    }

pub unwrap_other : (w : WrapKeyValue) (c : List KeyValue) (e : Entry) → is_entry_of w e ≡ false → unwrap w c e ≡ None
unfolding unwrap
unwrap_other w c e fails = rw fails refl

pub unwrap_own : (w : WrapKeyValue) (c : List KeyValue) (e : Entry) → is_entry_of w e ≡ true → unwrap w c e ≡ opened w.key (iv_in w e) (ctx_text c) (take 32 e.cipher) (drop 32 e.cipher)
unfolding unwrap
unwrap_own w c e holds = rw holds refl

-- ---- a wrap

pub wrap-provider : (w : WrapKeyValue) (c : List KeyValue) (iv key : List ℕ) → (wrap w c iv key).provider ≡ w.namespace
unfolding wrap
wrap-provider w c iv key = refl

pub wrap-info : (w : WrapKeyValue) (c : List KeyValue) (iv key : List ℕ) → (wrap w c iv key).info ≡ raw_info w.name iv
unfolding wrap
wrap-info w c iv key = refl

wrap-cipher : (w : WrapKeyValue) (c : List KeyValue) (iv key : List ℕ) → (wrap w c iv key).cipher ≡ joined_seal (sealed w.key iv (ctx_text c) key)
unfolding wrap joined_seal
wrap-cipher w c iv key = refl

length-joined_seal : (key iv aad text : List ℕ) → length (joined_seal (sealed key iv aad text)) ≡ length text + 16
unfolding joined_seal
length-joined_seal key iv aad text =
    omega (arith, length-append ((sealed key iv aad text).0) ((sealed key iv aad text).1), length-sealed key iv aad text, length-sealed_tag key iv aad text)

pub length-wrap-cipher : (w : WrapKeyValue) (c : List KeyValue) (iv key : List ℕ) → length (wrap w c iv key).cipher ≡ length key + 16
length-wrap-cipher w c iv key = ap length (wrap-cipher w c iv key) ∙ length-joined_seal w.key iv (ctx_text c) key

opened_wrap : (w : WrapKeyValue) (c : List KeyValue) (iv key : List ℕ) → length key ≡ 32 → opened w.key iv (ctx_text c) (take 32 (wrap w c iv key).cipher) (drop 32 (wrap w c iv key).cipher) ≡ Some key
unfolding wrap
opened_wrap w c iv key len = opened_again w.key iv (ctx_text c) key 32 len (sealed w.key iv (ctx_text c) key) refl

pub unwrap_wrap : (w : WrapKeyValue) (c : List KeyValue) (iv key : List ℕ) → length iv ≡ 12 → length key ≡ 32 → unwrap w c (wrap w c iv key) ≡ Some key
unwrap_wrap w c iv key twelve long =
    let e = wrap w c iv key in
    let fits = entry_fits w e iv (wrap-provider w c iv key) (wrap-info w c iv key) twelve (omega (arith, length-wrap-cipher w c iv key)) in
    unwrap_own w c e fits.0 ∙ ap (λ (i : List ℕ). opened w.key i (ctx_text c) (take 32 e.cipher) (drop 32 e.cipher)) fits.1 ∙ opened_wrap w c iv key long

-- what opens under the IV of an entry of the key was wrapped
wrap_of_opened : (w : WrapKeyValue) (c : List KeyValue) (key : List ℕ) (e : Entry) → IsEntryOf w e → (s : List ℕ × List ℕ) → sealed w.key (iv_in w e) (ctx_text c) key ≡ s → s ≡ (take 32 e.cipher, drop 32 e.cipher)
    → e ≡ wrap w c (iv_in w e) key
unfolding wrap
wrap_of_opened w c key e parts s is split =
    let cipher : e.cipher ≡ (sealed w.key (iv_in w e) (ctx_text c) key).0 ++ (sealed w.key (iv_in w e) (ctx_text c) key).1 =
    sym (take-append-drop 32 e.cipher) ∙ ap (λ (p : List ℕ × List ℕ). p.0 ++ p.1) (sym split) ∙ ap (λ (p : List ℕ × List ℕ). p.0 ++ p.1) (sym is) in
    ap (λ (p : List ℕ). record { provider = p; info = e.info; cipher = e.cipher }) parts.provider
    ∙ ap (λ (i : List ℕ). record { provider = w.namespace; info = i; cipher = e.cipher }) parts.info
    ∙ ap (λ (x : List ℕ). record { provider = w.namespace; info = raw_info w.name (iv_in w e); cipher = x }) cipher

unwrapped_is_wrap : (w : WrapKeyValue) (c : List KeyValue) (key : List ℕ) (e : Entry) → unwrap w c e ≡ Some key → IsWrap w c key e
unwrapped_is_wrap w c key e found = by_test (is_entry_of w e) refl
  where
    by_test : (b : Bool) → b ≡ is_entry_of w e → IsWrap w c key e
    by_test false fails = absurd (let none = unwrap_other w c e (sym fails) in cc)
    by_test true holds =
        let parts = entry_parts w e (sym holds) in
        let opened_is : opened w.key (iv_in w e) (ctx_text c) (take 32 e.cipher) (drop 32 e.cipher) ≡ Some key = sym (unwrap_own w c e (sym holds)) ∙ found in
        let sealed_is = sealed_from_opened w.key (iv_in w e) (ctx_text c) key (take 32 e.cipher) (drop 32 e.cipher) opened_is in
        let len : length key ≡ length (take 32 e.cipher) = sym (length-sealed w.key (iv_in w e) (ctx_text c) key) ∙ ap (λ (p : List ℕ × List ℕ). length p.0) sealed_is in
        record {
          iv = iv_in w e;
          iv_long = parts.iv;
          key_long = omega (arith, len, length-take 32 e.cipher, parts.cipher);
          is = wrap_of_opened w c key e parts (sealed w.key (iv_in w e) (ctx_text c) key) refl sealed_is;
        }

-- To unwrap gives a data key exactly where the entry is a wrap of it.
pub unwraps_wraps : (w : WrapKeyValue) (c : List KeyValue) (key : List ℕ) (e : Entry) → (unwrap w c e ≡ Some key) ↔ IsWrap w c key e
unwraps_wraps w c key e = (unwrapped_is_wrap w c key e, λ h. ap (unwrap w c) h.is ∙ unwrap_wrap w c h.iv key h.iv_long h.key_long)

-- where a wrap is an entry of a key, that key has the namespace and the name of the one that made it
pub same_names : (v w : WrapKeyValue) (d : List KeyValue) (iv key : List ℕ) → length iv ≡ 12 → is_entry_of v (wrap w d iv key) ≡ true → (v.namespace ≡ w.namespace) × (v.name ≡ w.name)
same_names v w d iv key twelve holds =
    let e = wrap w d iv key in
    let parts = entry_parts v e holds in
    let info : raw_info w.name iv ≡ raw_info v.name (iv_in v e) = sym (wrap-info w d iv key) ∙ parts.info in
    let len : length v.name ≡ length w.name = omega (arith, length-raw_info w.name iv, length-raw_info v.name (iv_in v e), ap length info, parts.iv) in (
      sym parts.provider ∙ wrap-provider w d iv key,
      sym (name_of_raw_info e.info v.name (iv_in v e) parts.info) ∙ ap (λ (n : ℕ). take n e.info) len ∙ name_of_raw_info e.info w.name iv (wrap-info w d iv key),
    )

pub passes_namespace : (v w : WrapKeyValue) (c d : List KeyValue) (iv key : List ℕ) → v.namespace ≢ w.namespace → unwrap v c (wrap w d iv key) ≡ None
passes_namespace v w c d iv key other =
    let e = wrap w d iv key in
    unwrap_other v c e (false_from_ne_true (is_entry_of v e) (λ holds. other (sym (entry_parts v e holds).provider ∙ wrap-provider w d iv key)))

pub passes_name : (v w : WrapKeyValue) (c d : List KeyValue) (iv key : List ℕ) → length iv ≡ 12 → v.name ≢ w.name → unwrap v c (wrap w d iv key) ≡ None
passes_name v w c d iv key twelve other =
    let e = wrap w d iv key in
    unwrap_other v c e (false_from_ne_true (is_entry_of v e) (λ holds. other (same_names v w d iv key twelve holds).1))

-- ---- entries that wrap one data key

-- one key makes one wrap
same_wrap : (v w : WrapKeyValue) (c : List KeyValue) (iv key : List ℕ) → IsSameKey v w → wrap v c iv key ≡ wrap w c iv key
unfolding wrap
same_wrap v w c iv key same = λ i. record {
  provider = same.namespace i;
  info = raw_info (same.name i) iv;
  cipher = (sealed (same.key i) iv (ctx_text c) key).0 ++ (sealed (same.key i) iv (ctx_text c) key).1;
}

-- A reader's key gets the data key or nothing from each.
one_entry : (writers readers : List WrapKeyValue) (c : List KeyValue) (key : List ℕ) (e : Entry) (w : WrapKeyValue) → length key ≡ 32 → AreApart writers readers → IsWrapOf writers c key e → Contains readers w → IsOrNone key (unwrap w c e)
one_entry writers readers c key e w long apart is listed = by_test (is_entry_of w e) refl
  where
    by_test : (b : Bool) → b ≡ is_entry_of w e → IsOrNone key (unwrap w c e)
    by_test false fails = inl (unwrap_other w c e (sym fails))
    by_test true holds =
        let own : is_entry_of w (wrap is.under c is.iv key) ≡ true = subst (λ (x : Entry). is_entry_of w x ≡ true) is.is (sym holds) in
        let names = same_names w is.under c is.iv key is.long own in
        let same : IsSameKey is.under w = apart is.under w is.listed listed (sym names.0) (sym names.1) in
        inr (ap (unwrap w c) (is.is ∙ same_wrap is.under w c is.iv key same) ∙ unwrap_wrap w c is.iv key is.long long)

pub unwrapped_key : (writers readers : List WrapKeyValue) (c : List KeyValue) (key : List ℕ) (entries : List Entry) → AreWrapped writers readers c key entries → unwrapped readers entries c ≡ Some key
unfolding unwrapped
unwrapped_key writers readers c key entries h =
    let one : (w : WrapKeyValue) → Contains readers w → (e : Entry) → Contains entries e → IsOrNone key (unwrap w c e) =
    λ w listed e there. one_entry writers readers c key e w h.long h.apart (h.wraps e there) listed in
    let own = h.each h.writer h.written in
    let opens : unwrap h.reader c (wrap h.writer c own.iv key) ≡ Some key =
    ap (unwrap h.reader c) (same_wrap h.writer h.reader c own.iv key h.shared) ∙ unwrap_wrap h.reader c own.iv key own.long h.long in
    let found : first_some (unwrap h.reader c) entries ≡ Some key =
    first_some-is (unwrap h.reader c) entries key (wrap h.writer c own.iv key) (one h.reader h.read) own.listed opens in
    first_some-is (λ w. first_some (unwrap w c) entries) readers key h.reader (λ w listed. first_some-or (unwrap w c) entries key (one w listed)) h.read found

-- ---- what is unwrapped at all

pub unwraps_only_wraps : (keys : List WrapKeyValue) (entries : List Entry) (c : List KeyValue) (key : List ℕ) → unwrapped keys entries c ≡ Some key → IsOpened keys entries c key
unfolding unwrapped
unwraps_only_wraps keys entries c key e =
    let by_key = first_some-found (λ w. first_some (unwrap w c) entries) keys key e in
    let of_entry = first_some-found (unwrap by_key.at c) entries key by_key.found in
    record {
      under = by_key.at;
      entry = of_entry.at;
      key_listed = by_key.listed;
      entry_listed = of_entry.listed;
      wrap = unwrapped_is_wrap by_key.at c key of_entry.at of_entry.found;
    }

pub unwraps_none : (keys : List WrapKeyValue) (entries : List Entry) (c : List KeyValue)
    → (unwrapped keys entries c ≡ None) ↔ ((w : WrapKeyValue) → Contains keys w → (e : Entry) → Contains entries e → unwrap w c e ≡ None)
unfolding unwrapped
unwraps_none keys entries c = (
  λ e w listed. first_some-none (unwrap w c) entries (first_some-none (λ w. first_some (unwrap w c) entries) keys e w listed),
  λ h. none_first_some (λ w. first_some (unwrap w c) entries) keys (λ w listed. none_first_some (unwrap w c) entries (h w listed)),
)
