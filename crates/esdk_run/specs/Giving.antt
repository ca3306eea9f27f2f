-- What a keyring tree gives to encrypt with, where no cache stands over it, and what it refuses.
use Rattle.std.specs.Prelude.{◌≡◌, ℕ, List, [], ◌∷◌, length, take, drop, Option, option_map, None}
use Rattle.std.specs.Prelude.{IfSome, Ok}
use Rattle.esdk_fields.specs.declared.refusals.Refusal.{Refusal}
use Rattle.context_codec.specs.Context.{KeyValue}
use Rattle.keyring_trait.specs.declared.served.Served.TheVariants.{Direct}
use Rattle.keyring_trait.specs.Keyring.{KeyringMeaning, WrapsBy}
use Rattle.keyring_trait.specs.Uses.{AskedOnce}
use Rattle.keyring_trait.specs.Manager.{refusal_named, reserved_used}
use Rattle.keyring_trait.specs.Materials.{EncMaterialsValue}
use Rattle.keyring_trait.specs.Requests.{EncRequestValue}
use Rattle.keyring_trait.specs.Wrapping.{first_some, ivs_of, made}

-- Q1, where a key has the reserved prefix; else Q5 or Q6, where the tree refuses to make a data key
unfoldable pub refusal_over : List KeyValue → KeyringMeaning → Option Refusal
refusal_over context tree =
    first_some (λ o. o) (reserved_used context ∷ option_map refusal_named tree.refuses_none ∷ [])

-- What is given for a request and these random bytes, where it isn't refused, as `refusal` says:
-- its context and its required keys, no more and no others; the first 32 bytes as data key; and an
-- entry for each wrap of the tree. Where the tree tells its keys, the entries are their wraps of
-- the data key, in order, with the bytes behind it as IVs.
pub record TreeGives (refusal : Option Refusal) (tree : KeyringMeaning) (request : EncRequestValue)
    (random : List ℕ) (materials : EncMaterialsValue) : Type 0 where
  pub unrefused : refusal ≡ None
  pub whole : materials.context ≡ request.context
  pub required : materials.required ≡ request.required
  pub key : materials.key ≡ take 32 random
  pub count : length materials.entries ≡ tree.wraps
  pub wrapped : IfSome tree.keys
      (λ keys. materials.entries ≡ made keys request.context (take 32 random)
      (ivs_of tree.wraps (drop 32 random)))
  pub served : materials.served ≡ Direct

-- The keys that the leaves of the tree went by in the run, each asked once, made the entries with
-- the bytes behind the data key as IVs, whether it tells its keys or not.
abbrev pub TreeGaveBy : KeyringMeaning → KeyringMeaning → EncRequestValue → List ℕ
    → EncMaterialsValue → Type 0
TreeGaveBy tree left request random materials =
    AskedOnce tree.uses left.uses
    (WrapsBy left.wraps request.context random None
    (Ok (record { key = materials.key; entries = materials.entries })))
