-- Wrapping a data key under a raw AES key, and unwrapping it. AWS Encryption SDK Specification,
-- "Raw AES Keyring", OnEncrypt and OnDecrypt; the cipher is AES-256 in GCM (NIST SP 800-38D).
use Rattle.std.specs.Prelude.{◌≡◌, ℕ, zero, suc, ◌+◌, Bool, not, ◌&&◌, ◌==◌, List, [], ◌∷◌, ◌++◌}
use Rattle.std.specs.Prelude.{length, take, drop, filter, All, Contains, Option, None}
use Rattle.std.specs.Prelude.{if◌then◌else◌}
use Rattle.std.specs.Option.{option_or}
use Rattle.std.specs.Str.{bytes_eq}
use Rattle.cipher_spec.specs.Gcm.{sealed, opened}
use Rattle.context_codec.specs.Context.{KeyValue, ctx_text}
use Rattle.edk_codec.specs.Entry.{Entry}
use Rattle.edk_codec.specs.RawInfo.{raw_info}

-- A wrapping key: the namespace and the name by which an entry speaks of it, its 32 bytes, and
-- whether it is retired. A retired key unwraps and doesn't wrap.
pub record WrapKeyValue : Type 0 where
  pub namespace : List ℕ
  pub name : List ℕ
  pub key : List ℕ
  pub retired : Bool

-- The data key sealed under a wrapping key and an IV. The associated data is the text of the whole
-- context.
unfoldable pub wrap : WrapKeyValue → List KeyValue → List ℕ → List ℕ → Entry
wrap w c iv key =
    let s = sealed w.key iv (ctx_text c) key in
    record { provider = w.namespace; info = raw_info w.name iv; cipher = s.0 ++ s.1 }

-- the IV of an entry of this key: what its information has after the name and two lengths of four
-- bytes
abbrev pub iv_in : WrapKeyValue → Entry → List ℕ
iv_in w e = drop (length w.name + 8) e.info

-- The entry is one of this key: it has the key's namespace and name, an IV of 12 bytes, and a
-- ciphertext of 32 with a tag of 16.
abbrev pub is_entry_of : WrapKeyValue → Entry → Bool
is_entry_of w e =
    bytes_eq e.provider w.namespace && bytes_eq e.info (raw_info w.name (iv_in w e))
    && length (iv_in w e) == 12 && length e.cipher == 48

-- the data key, where the entry is one of this key and opens under it
unfoldable pub unwrap : WrapKeyValue → List KeyValue → Entry → Option (List ℕ)
unwrap w c e =
    if is_entry_of w e then opened w.key (iv_in w e) (ctx_text c) (take 32 e.cipher)
    (drop 32 e.cipher) else None

-- what is found of the first element of which something is
abbrev pub first_some : {X A : Type 0} → (X → Option A) → List X → Option A
first_some find [] = None
first_some find (x ∷ xs) = option_or (find x) (first_some find xs)

-- The first data key that opens: the wrapping keys in order, and for each the entries in order.
unfoldable pub unwrapped : List WrapKeyValue → List Entry → List KeyValue → Option (List ℕ)
unwrapped keys entries c = first_some (λ w. first_some (unwrap w c) entries) keys

abbrev pub is_active : WrapKeyValue → Bool
is_active w = not w.retired

-- the keys that wrap, of those that unwrap: the ones that aren't retired, in order
abbrev pub active : List WrapKeyValue → List WrapKeyValue
active keys = filter is_active keys

-- each key's wrap of the data key, in order, with the IVs in order
abbrev pub made_under : List WrapKeyValue → List KeyValue → List ℕ → List (List ℕ) → List Entry
made_under [] c key ivs = []
made_under (w ∷ ws) c key [] = []
made_under (w ∷ ws) c key (iv ∷ ivs) = wrap w c iv key ∷ made_under ws c key ivs

-- the wraps of a data key by the keys that wrap
abbrev pub made : List WrapKeyValue → List KeyValue → List ℕ → List (List ℕ) → List Entry
made keys c key ivs = made_under (active keys) c key ivs

-- so many IVs of 12 bytes, as they stand one behind another
abbrev pub ivs_of : ℕ → List ℕ → List (List ℕ)
ivs_of zero bytes = []
ivs_of (suc n) bytes = take 12 bytes ∷ ivs_of n (drop 12 bytes)

-- IVs for the keys that wrap, each of 12 bytes
pub record AreIvs (writers : List WrapKeyValue) (ivs : List (List ℕ)) : Type 0 where
  pub enough : length ivs ≡ length (active writers)
  pub long : All (λ iv. length iv ≡ 12) ivs

-- The entry is a wrap of the data key over the context, under this key.
pub record IsWrap (w : WrapKeyValue) (c : List KeyValue) (key : List ℕ) (e : Entry) : Type 0 where
  pub iv : List ℕ
  pub iv_long : length iv ≡ 12
  pub key_long : length key ≡ 32
  pub is : e ≡ wrap w c iv key

-- The wrapping key is one of these, the entry one of those, and the entry is a wrap of the data key
-- over the context under the wrapping key.
pub record IsOpened (keys : List WrapKeyValue) (entries : List Entry) (c : List KeyValue)
    (key : List ℕ) : Type 0 where
  pub under : WrapKeyValue
  pub entry : Entry
  pub key_listed : Contains keys under
  pub entry_listed : Contains entries entry
  pub wrap : IsWrap under c key entry
