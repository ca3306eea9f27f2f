-- The leaves of the tree that a JSON keyring file means. The form and its refusals are this
-- library's.
use Rattle.std.specs.Prelude.{ℕ, Bool, false, List}
use Rattle.std.specs.Str.{bytes_eq}
use Rattle.esdk_fields.specs.declared.refusals.FileRefusal.TheVariants.{BadKey, ReservedNamespace}
use Rattle.keyring_trait.specs.Wrapping.{WrapKeyValue}
use Rattle.raw_aes_keyring.specs.RawKey.{reserved_namespace}
use Rattle.keyring_file.specs.Base64Key.{base64_key}
use Rattle.keyring_file.specs.Walk.{◌>>=◌, ◌>>◌, Walk, walk_done, walk_or_refuse, walk_refuse_if}
use Rattle.keyring_file.specs.Walk.{count_leaves, kept}
use Rattle.keyring_file.specs.Walk.{used}

abbrev pub wrap_key : List ℕ → List ℕ → List ℕ → Bool → WrapKeyValue
wrap_key namespace name key retired =
    record { namespace = namespace; name = name; key = key; retired = retired }

-- The bytes of a raw key. K4 where the namespace is the reserved one; K3 where the text isn't
-- strict base64 of 32 bytes; K5, which is the same whether keys are retired or not, so that none is
-- kept as retired; K7.
unfoldable pub raw_key : {P : Type 0} → (place : ℕ) (namespace name text : List ℕ) → Walk P (List ℕ)
raw_key place namespace name text = do
  walk_refuse_if (bytes_eq namespace reserved_namespace) ReservedNamespace
  key ← walk_or_refuse (BadKey place) (base64_key text)
  kept (wrap_key namespace name key false)
  count_leaves 1
  walk_done key

-- A raw key, which may be retired.
unfoldable pub raw_leaf : {P : Type 0} → (place : ℕ) (namespace name text : List ℕ) (retired : Bool)
    → Walk P WrapKeyValue
raw_leaf place namespace name text retired = do
  key ← raw_key place namespace name text
  walk_done (wrap_key namespace name key retired)

-- A keyring that is handed over. K8; K7, where it counts as many leaves as it wraps.
unfoldable pub plug_leaf : {P : Type 0} → (P → ℕ) → List ℕ → Walk P P
plug_leaf wraps name = do
  keyring ← used name
  count_leaves (wraps keyring)
  walk_done keyring
