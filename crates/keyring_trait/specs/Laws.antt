-- What the laws of this crate say of wrapping, unwrapping and unlocking.
use Rattle.std.specs.Prelude.{◌≡◌, ◌≢◌, ◌↔◌, ◌≤◌, ℕ, ◌*◌, true, false, List, length, Option, Some}
use Rattle.std.specs.Prelude.{None, Contains}
use Rattle.esdk_fields.specs.Counts.{Stayed}
use Rattle.esdk_fields.specs.declared.faults.Fault.TheVariants.{ContextMismatch, MissingRequired}
use Rattle.context_codec.specs.Context.{KeyValue, IsAscending, IsContext}
use Rattle.context_codec.specs.Join.{mismatch}
use Rattle.context_codec.specs.KeySet.{AreAscendingKeys}
use Rattle.context_codec.specs.Split.{SpellsContext}
use Rattle.edk_codec.specs.Entry.{Entry}
use Rattle.context_codec.specs.Parts.{holds, is_among, stored_of, only_of, only_given, whole_of}
use Rattle.context_codec.specs.Parts.{stored_in}
use Rattle.context_codec.specs.Laws.{IsLeastKey}
use Rattle.keyring_trait.specs.Keyring.{KeyringMeaning, WrappedValue, Opens, Wraps, wanted}
use Rattle.keyring_trait.specs.Wrapping.{WrapKeyValue, wrap, unwrap, unwrapped, active, made}
use Rattle.keyring_trait.specs.Wrapping.{ivs_of, IsWrap, IsOpened, AreIvs}
use Rattle.keyring_trait.specs.Unlocking.{Unlocks, reserved_key, missing_required, unlock}

-- ---- wrapping

-- An entry is unwrapped to a data key exactly where it is a wrap of that data key, by the same key
-- and over the same context.
abbrev pub UnwrapsWraps : Type 0
UnwrapsWraps = (w : WrapKeyValue) (c : List KeyValue) (key : List ℕ) (e : Entry)
    → (unwrap w c e ≡ Some key) ↔ IsWrap w c key e

-- An entry of another namespace is passed over, whatever its context.
abbrev pub PassesOtherNamespaces : Type 0
PassesOtherNamespaces = (v w : WrapKeyValue) (c d : List KeyValue) (iv key : List ℕ)
    → v.namespace ≢ w.namespace → unwrap v c (wrap w d iv key) ≡ None

-- So is an entry of another name.
abbrev pub PassesOtherNames : Type 0
PassesOtherNames = (v w : WrapKeyValue) (c d : List KeyValue) (iv key : List ℕ) → length iv ≡ 12
    → v.name ≢ w.name → unwrap v c (wrap w d iv key) ≡ None

-- The entry is a wrap of the data key over the context, under one of the writer's keys.
pub record IsWrapOf (writers : List WrapKeyValue) (c : List KeyValue) (key : List ℕ)
    (e : Entry) : Type 0 where
  pub under : WrapKeyValue
  pub iv : List ℕ
  pub listed : Contains writers under
  pub long : length iv ≡ 12
  pub is : e ≡ wrap under c iv key

-- Some entry is a wrap of the data key over the context under this key.
pub record HasWrap (w : WrapKeyValue) (c : List KeyValue) (key : List ℕ)
    (entries : List Entry) : Type 0 where
  pub iv : List ℕ
  pub long : length iv ≡ 12
  pub listed : Contains entries (wrap w c iv key)

-- One wrapping key: what entries speak of it by, and its bytes, are the same, whatever else is kept
-- of it.
pub record IsSameKey (v w : WrapKeyValue) : Type 0 where
  pub namespace : v.namespace ≡ w.namespace
  pub name : v.name ≡ w.name
  pub key : v.key ≡ w.key

-- No writer's key and other reader's key share namespace and name.
abbrev pub AreApart : List WrapKeyValue → List WrapKeyValue → Type 0
AreApart writers readers =
    (v w : WrapKeyValue) → Contains writers v → Contains readers w → v.namespace ≡ w.namespace
    → v.name ≡ w.name → IsSameKey v w

-- The entries are wraps of one data key over a context, one at least under each of the writer's
-- keys; and a reader has one of these.
pub record AreWrapped (writers readers : List WrapKeyValue) (c : List KeyValue) (key : List ℕ)
    (entries : List Entry) : Type 0 where
  pub long : length key ≡ 32
  pub wraps : (e : Entry) → Contains entries e → IsWrapOf writers c key e
  pub each : (w : WrapKeyValue) → Contains writers w → HasWrap w c key entries
  pub apart : AreApart writers readers
  pub writer : WrapKeyValue
  pub reader : WrapKeyValue
  pub written : Contains writers writer
  pub read : Contains readers reader
  pub shared : IsSameKey writer reader

-- Then the reader unwraps that data key, whatever other keys it has.
abbrev pub UnwrapsTheKey : Type 0
UnwrapsTheKey = (writers readers : List WrapKeyValue) (c : List KeyValue) (key : List ℕ)
    (entries : List Entry)
    → AreWrapped writers readers c key entries → unwrapped readers entries c ≡ Some key

-- A data key that is unwrapped was wrapped.
abbrev pub UnwrapsOnlyWraps : Type 0
UnwrapsOnlyWraps = (keys : List WrapKeyValue) (entries : List Entry) (c : List KeyValue)
    (key : List ℕ) → unwrapped keys entries c ≡ Some key → IsOpened keys entries c key

-- None is unwrapped exactly where no key opens an entry.
abbrev pub UnwrapsNone : Type 0
UnwrapsNone = (keys : List WrapKeyValue) (entries : List Entry) (c : List KeyValue)
    → (unwrapped keys entries c ≡ None)
    ↔ ((w : WrapKeyValue) → Contains keys w → (e : Entry) → Contains entries e
    → unwrap w c e ≡ None)

-- What the keys that wrap make of a data key is wrapped, one entry for each of them.
abbrev pub WrapsWhatIsMade : Type 0
WrapsWhatIsMade = (writers readers : List WrapKeyValue) (c : List KeyValue) (key : List ℕ)
    (ivs : List (List ℕ)) (writer reader : WrapKeyValue)
    → AreIvs writers ivs → length key ≡ 32 → AreApart (active writers) readers
    → Contains (active writers) writer → Contains readers reader → IsSameKey writer reader
    → AreWrapped (active writers) readers c key (made writers c key ivs)
    × (length (made writers c key ivs) ≡ length (active writers))

-- As many groups of 12 bytes as there are keys that wrap are their IVs.
abbrev pub DrawsIvs : Type 0
DrawsIvs = (keys : List WrapKeyValue) (n : ℕ) (bytes : List ℕ) → length (active keys) ≡ n
    → length bytes ≡ 12 * n → AreIvs keys (ivs_of n bytes)

-- ---- a keyring

-- A keyring tells these keys, one of which isn't retired, and no two of which share namespace and
-- name. It was handed this data key over a context, with so many random bytes as it wants, and made
-- this of it.
pub record HasWrapped (ring : KeyringMeaning) (keys : List WrapKeyValue) (c : List KeyValue)
    (random key : List ℕ) (wrapped : WrappedValue) : Type 0 where
  pub told : ring.keys ≡ Some keys
  pub apart : AreApart keys keys
  pub some : 1 ≤ ring.wraps
  pub count : length (active keys) ≡ ring.wraps
  pub drawn : length random ≡ wanted true ring.wraps
  pub long : length key ≡ 32
  pub wraps : Wraps ring c random (Some key) wrapped

-- What it finds among these entries, whatever was asked of it between and as long as it doesn't
-- fail, is that data key.
abbrev pub WrappedKeysComeBack : Type 0
WrappedKeysComeBack = (ring old new : KeyringMeaning) (keys : List WrapKeyValue) (c : List KeyValue)
    (random key : List ℕ) (wrapped : WrappedValue) (found : Option (List ℕ))
    → HasWrapped ring keys c random key wrapped → old.keys ≡ ring.keys
    → Stayed old.faults new.faults → Opens old new c wrapped.entries found → found ≡ Some key

-- ---- unlocking

-- A reader is given the pairs of a context whose keys are required, and beside them only pairs of
-- the context.
pub record IsEnough (c : List KeyValue) (required : List (List ℕ))
    (given : List KeyValue) : Type 0 where
  pub ascending : IsAscending given
  pub required_given : (p : KeyValue) → Contains c p → is_among required p ≡ true → Contains given p
  pub others : (p : KeyValue) → Contains given p → Contains c p

-- each of these keys is given
abbrev pub AreGiven : List (List ℕ) → List KeyValue → Type 0
AreGiven keys given = (key : List ℕ) → Contains keys key → holds given key ≡ true

-- Where the entries of a header are wraps over the whole context, its stored pairs are those whose
-- keys the writer did not require, and the reader is given enough, and every key that it requires,
-- it unlocks with the whole context, the pairs that are only authenticated, and the data key.
abbrev pub UnlocksWhatWasStored : Type 0
UnlocksWhatWasStored = (writers readers : List WrapKeyValue) (c given : List KeyValue)
    (required asked : List (List ℕ)) (key : List ℕ) (entries : List Entry)
    → IsContext c → holds c reserved_key ≡ false → AreWrapped writers readers c key entries
    → IsEnough c required given → AreGiven asked given
    → unlock (stored_of required c) entries given asked readers ≡ Unlocks c (only_of required c) key

-- What a reader unlocks is the whole context of stored and given pairs, and a data key that was
-- wrapped over it under one of the reader's keys.
pub record IsUnlockedByKey (stored : List KeyValue) (entries : List Entry) (given : List KeyValue)
    (keys : List WrapKeyValue) (whole only : List KeyValue) (key : List ℕ) : Type 0 where
  pub whole_is : whole ≡ whole_of stored given
  pub only_is : only ≡ only_given stored given
  pub opened : IsOpened keys entries whole key

abbrev pub UnlocksOnlyWraps : Type 0
UnlocksOnlyWraps = (stored given : List KeyValue) (entries : List Entry) (required : List (List ℕ))
    (keys : List WrapKeyValue) (whole only : List KeyValue) (key : List ℕ)
    → unlock stored entries given required keys ≡ Unlocks whole only key
    → IsUnlockedByKey stored entries given keys whole only key

-- ---- the keys that faults name

-- the key is required and not given
pub record IsMissing (given : List KeyValue) (required : List (List ℕ))
    (key : List ℕ) : Type 0 where
  pub listed : Contains required key
  pub absent : holds given key ≡ false

-- M13 names the least required key that is not given.
abbrev pub NamesTheLeastMissing : Type 0
NamesTheLeastMissing = (given : List KeyValue) (required : List (List ℕ))
    → AreAscendingKeys required → (key : List ℕ)
    → (missing_required given required ≡ Some (MissingRequired key))
    ↔ IsLeastKey (IsMissing given required) key

-- the key is stored and given, with different values
pub record HasTwoValues (stored given : List KeyValue) (key : List ℕ) : Type 0 where
  pub value : List ℕ
  pub other : List ℕ
  pub in_stored : Contains stored (key, value)
  pub in_given : Contains given (key, other)
  pub differ : value ≢ other

-- M12 names the least key that is stored and given with different values.
abbrev pub NamesTheLeastMismatch : Type 0
NamesTheLeastMismatch = (stored given : List KeyValue) → IsAscending stored → IsAscending given
    → (key : List ℕ)
    → (mismatch stored given ≡ Some (ContextMismatch key))
    ↔ IsLeastKey (HasTwoValues stored given) key

-- ---- a header's bytes

-- The stored pairs are the context that the bytes spell.
abbrev pub StoresTheSpelled : Type 0
StoresTheSpelled = (bytes : List ℕ) (c : List KeyValue) → SpellsContext bytes c
    → stored_in bytes ≡ c
