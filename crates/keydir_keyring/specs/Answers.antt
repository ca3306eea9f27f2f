-- What a call of the keyring answers, when it fails, and what it leaves.
use Rattle.std.specs.Prelude.{◌≡◌, ℕ, ◌+◌, ◌≤◌, List, [], ◌∷◌, ⊤, Option, Result, Ok, Err}
use Rattle.std.specs.Prelude.{MatchResult}
use Rattle.esdk_fields.specs.Counts.{counted}
use Rattle.context_codec.specs.Context.{KeyValue}
use Rattle.edk_codec.specs.Entry.{Entry}
use Rattle.esdk_base.specs.Streams.{ShelfState}
use Rattle.keyring_trait.specs.declared.ring_refusals.RingError.{RingError}
use Rattle.keyring_trait.specs.declared.ring_refusals.RingError.TheVariants.{Refused, KeyringFault}
use Rattle.keyring_trait.specs.declared.ring_refusals.RingError.TheVariants.{Memory}
use Rattle.keyring_trait.specs.Keyring.{WrappedValue, Wraps}
use Rattle.keyring_trait.specs.Wrapping.{WrapKeyValue, unwrapped}
use Rattle.raw_aes_keyring.specs.Keyring.{raw_meaning}
use Rattle.keydir_keyring.specs.Keydir.{KeydirValue, keydir_key}
use Rattle.keydir_keyring.specs.Reading.{HasNoKey, IsKey}

-- A call keeps the shelf's files, of which it is given no more than 33 bytes, and all of the
-- keyring but its shelf and its count, which never falls.
pub record KeydirKeeps {S : Type 0} (state : S → ShelfState) (old new : KeydirValue S)
    : Type 0 where
  pub shelf : (state new.shelf).files ≡ (state old.shelf).files
  pub most : (state new.shelf).given ≤ (state old.shelf).given + 33
  pub file : new.file ≡ old.file
  pub namespace : new.namespace ≡ old.namespace
  pub name : new.name ≡ old.name
  pub later : old.faults ≤ new.faults

-- There was a key to read: the shelf's calls gave just these 32 bytes for the keyring's file. The
-- keyring's count stays.
pub record HadKey {S : Type 0} (state : S → ShelfState) (old new : KeydirValue S) (key : List ℕ)
    : Type 0 where
  pub read : IsKey (state old.shelf) (state new.shelf) old.file key
  pub count : new.faults ≡ old.faults

-- There was no key to read: a read failed, or the file gave more or fewer than 32 bytes. The
-- keyring counts that; the shelf's count doesn't fall.
pub record HadNone {S : Type 0} (state : S → ShelfState) (old new : KeydirValue S) : Type 0 where
  pub cause : HasNoKey (state old.shelf) (state new.shelf) old.file
  pub later : (state old.shelf).faults ≤ (state new.shelf).faults
  pub count : new.faults ≡ counted old.faults 1

-- why a call fails: there was no key to read, or memory ran out once it was read
abbrev pub KeyCallFails : {S : Type 0} → (S → ShelfState) → KeydirValue S → KeydirValue S
    → RingError
    → Type 0
KeyCallFails state old new (Refused r) = ⊥
KeyCallFails state old new KeyringFault = HadNone state old new
KeyCallFails state old new Memory = (key : List ℕ) × HadKey state old new key

-- what a call answers: what the key that there was to read gives, or why it fails
abbrev pub KeydirAnswers : {S T : Type 0} → (S → ShelfState) → KeydirValue S → KeydirValue S
    → (List ℕ → T → Type 0) → Result T RingError → Type 0
KeydirAnswers state old new gives result =
    MatchResult result (λ x. (key : List ℕ) × HadKey state old new key × gives key x)
    (λ e. KeyCallFails state old new e)

-- ---- what a key of these bytes gives

-- the raw AES keyring of the key
abbrev pub IsRawOf : {S : Type 0} → KeydirValue S → List ℕ → WrapKeyValue → Type 0
IsRawOf k key keyring = keyring ≡ keydir_key k key

-- what that keyring wraps
abbrev pub WrapsAsRaw : {S : Type 0} → KeydirValue S → List KeyValue → List ℕ → Option (List ℕ)
    → List ℕ → WrappedValue → Type 0
WrapsAsRaw k c random handed key wrapped =
    Wraps (raw_meaning (keydir_key k key)) c random handed wrapped

-- what it finds
abbrev pub FindsAsRaw : {S : Type 0} → KeydirValue S → List KeyValue → List Entry → List ℕ
    → Option (List ℕ) → Type 0
FindsAsRaw k c entries key found = found ≡ unwrapped (keydir_key k key ∷ []) entries c

-- ---- the key that a call goes by

-- A call that read a key went by it alone, and one that couldn't read it by none.
abbrev pub KeyIsReadBy : Result WrapKeyValue RingError → List WrapKeyValue → Type 0
KeyIsReadBy (Ok keyring) keys = keys ≡ keyring ∷ []
KeyIsReadBy (Err (Refused r)) keys = ⊤
KeyIsReadBy (Err KeyringFault) keys = keys ≡ []
KeyIsReadBy (Err Memory) keys = ⊤
