-- The entries of one wrapping key.
use Rattle.std.proofs.Common.{◌≡◌, ◌≢◌, ℕ, ◌+◌, ◌<◌, ◌≤◌, false, List, [], ◌∷◌, ◌++◌, length, drop, get_or, Option, Some, None, refl, sym, ap, ◌∙◌, arith}
use Rattle.std.specs.Prelude.{is_some, IfSome, IfNone, IfOk, Result, Ok, Err}
use Rattle.std.specs.Option.{option_or}
use Rattle.std.proofs.lemmas.Bool.{false_from_ne_true}
use Rattle.std.proofs.lemmas.List.{drop_all, drop_more}
use Rattle.cipher_spec.specs.Gcm.{sealed}
use Rattle.context_codec.specs.Context.{KeyValue, ctx_text}
use Rattle.edk_codec.specs.Entry.{Entry}
use Rattle.edk_codec.specs.RawInfo.{raw_info}
use Rattle.edk_codec.proofs.Infos.{length-raw_info}
use Rattle.keyring_trait.specs.Wrapping.{WrapKeyValue, wrap, iv_in, is_entry_of, unwrap, first_some, unwrapped}
use Rattle.keyring_trait.proofs.Wrapping.{entry_fits, entry_parts, unwrap_other}
use Rattle.raw_aes_keyring.specs.Finding.{FindsIv}

-- what is made of these parts is a wrap
pub wrap_made : {E : Type 0} (made : Result Entry E) (w : WrapKeyValue) (provider info cipher iv key aad : List ℕ) → IfOk made (λ e. e ≡ record { provider = provider; info = info; cipher = cipher })
    → provider ≡ w.namespace → info ≡ raw_info w.name iv → cipher ≡ (sealed w.key iv aad key).0 ++ (sealed w.key iv aad key).1 → IfOk made (λ e. (c : List KeyValue) → aad ≡ ctx_text c → e ≡ wrap w c iv key)
unfolding wrap
wrap_made (Err e) w provider info cipher iv key aad is provider_is info_is cipher_is = tt
wrap_made (Ok e) w provider info cipher iv key aad is provider_is info_is cipher_is = λ c aad_is. is ∙ rw (provider_is, cipher_is, info_is, aad_is) refl

-- an entry with the key's namespace and a ciphertext of the right length is one of the key exactly where its information has an IV
pub finds_iv : (w : WrapKeyValue) (e : Entry) (found : Option (List ℕ)) → e.provider ≡ w.namespace → length e.cipher ≡ 48 → IfSome found (λ iv. length iv ≡ 12)
    → IfSome found (λ iv. e.info ≡ raw_info w.name iv) → IfNone found ((iv : List ℕ) → length iv ≡ 12 → e.info ≢ raw_info w.name iv) → FindsIv w e found
finds_iv w e (Some iv) provider long twelve info none =
    let fits = entry_fits w e iv provider info twelve long in
    (fits.0, sym fits.1)
finds_iv w e None provider long twelve info none =
    false_from_ne_true (is_entry_of w e) (λ own. let parts = entry_parts w e own in none (iv_in w e) parts.iv parts.info)

option_or-none : {A : Type 0} (o : Option A) → option_or o None ≡ o
option_or-none None = refl
option_or-none (Some x) = refl

-- what one key unwraps
pub unwrapped_one : (w : WrapKeyValue) (c : List KeyValue) (entries : List Entry) → unwrapped (w ∷ []) entries c ≡ first_some (unwrap w c) entries
unfolding unwrapped
unwrapped_one w c entries = option_or-none (first_some (unwrap w c) entries)

-- in what is found of an entry that isn't one of the key there is no IV
pub not_own : (w : WrapKeyValue) (e : Entry) (found : Option (List ℕ)) → FindsIv w e found → is_some found ≡ false → is_entry_of w e ≡ false
not_own w e (Some iv) finds none = absurd cc
not_own w e None finds none = finds

-- What the key unwraps of the entries is what it unwraps of those from the index on.
abbrev pub Passed : WrapKeyValue → List Entry → ℕ → Type 0
Passed w entries i = (c : List KeyValue) → first_some (unwrap w c) entries ≡ first_some (unwrap w c) (drop i entries)

-- one entry more that isn't one of the key
pub passed_more : (w : WrapKeyValue) (entries : List Entry) (i : ℕ) (e : Entry) → i < length entries → e ≡ get_or entries i e → is_entry_of w e ≡ false → Passed w entries i → Passed w entries (i + 1)
passed_more w entries i e inside at other so_far = λ c.
    let rest = drop (i + 1) entries in
    let split : drop i entries ≡ e ∷ rest = drop_more entries i e inside ∙ ap (λ (x : Entry). x ∷ rest) (sym at) in
    so_far c ∙ ap (first_some (unwrap w c)) split ∙ ap (λ (o : Option (List ℕ)). option_or o (first_some (unwrap w c) rest)) (unwrap_other w c e other)

-- what one key unwraps, where the entries before the index are passed over
pub unwrapped_from : (w : WrapKeyValue) (c : List KeyValue) (entries : List Entry) (i : ℕ) → Passed w entries i → unwrapped (w ∷ []) entries c ≡ first_some (unwrap w c) (drop i entries)
unwrapped_from w c entries i passed = unwrapped_one w c entries ∙ passed c

-- where all are passed over, it unwraps none
pub unwrapped_none : (w : WrapKeyValue) (c : List KeyValue) (entries : List Entry) (i : ℕ) → i ≡ length entries → Passed w entries i → unwrapped (w ∷ []) entries c ≡ None
unwrapped_none w c entries i all passed =
    unwrapped_from w c entries i passed ∙ ap (first_some (unwrap w c)) (drop_all i entries (omega (arith, all)))

pub info_is_short : (info name iv : List ℕ) → info ≡ raw_info name iv → length name ≤ 1024 → length iv ≡ 12 → length info ≤ 65535
info_is_short info name iv is short twelve = omega (arith, ap length is, length-raw_info name iv, short, twelve)
