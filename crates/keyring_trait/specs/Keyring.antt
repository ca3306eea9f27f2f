-- What a keyring is to its callers, and what its calls answer.
-- AWS Encryption SDK Specification, "Keyring Interface", OnEncrypt and OnDecrypt.
use Rattle.std.specs.Prelude.{◌≡◌, ℕ, ◌+◌, ◌*◌, ◌≤◌, Bool, true, false, List, length, take, drop, ⊤}
use Rattle.std.specs.Prelude.{Option, Some, None, IfSome, Result, Ok, Err}
use Rattle.esdk_fields.specs.Counts.{Rose, Stayed}
use Rattle.context_codec.specs.Context.{KeyValue}
use Rattle.edk_codec.specs.Entry.{Entry}
use Rattle.keyring_trait.specs.declared.ring_refusals.RingRefusal.{RingRefusal}
use Rattle.keyring_trait.specs.declared.ring_refusals.RingError.{RingError}
use Rattle.keyring_trait.specs.declared.ring_refusals.RingError.TheVariants.{Refused, KeyringFault}
use Rattle.keyring_trait.specs.declared.ring_refusals.RingError.TheVariants.{Memory}
use Rattle.keyring_trait.specs.Uses.{KeyUse}
use Rattle.keyring_trait.specs.Wrapping.{WrapKeyValue, active, unwrapped, made, ivs_of, IsOpened}

-- The wrapping keys, retired or not, where the keyring tells them; how many entries it makes of a
-- data key; what it refuses with a data key handed to it, and without one; how often it failed;
-- whether it is steady, so that it never fails; and which keys its calls went by, where it shows
-- that.
pub record KeyringMeaning : Type 0 where
  pub keys : Option (List WrapKeyValue)
  pub wraps : ℕ
  pub refuses_key : Option RingRefusal
  pub refuses_none : Option RingRefusal
  pub faults : ℕ
  pub steady : Bool
  pub uses : Option (List KeyUse)

-- A call keeps all but the count of faults and what is shown of the keys' uses. That count never
-- falls, and of a steady keyring it stays.
pub record KeyringGoes (old new : KeyringMeaning) : Type 0 where
  pub keys : new.keys ≡ old.keys
  pub wraps : new.wraps ≡ old.wraps
  pub refuses_key : new.refuses_key ≡ old.refuses_key
  pub refuses_none : new.refuses_none ≡ old.refuses_none
  pub steady : new.steady ≡ old.steady
  pub later : old.faults ≤ new.faults
  pub still : old.steady ≡ true → Stayed old.faults new.faults

-- ---- wrapping

-- what is refused, with a data key handed over or without
abbrev pub refusal_with : Bool → KeyringMeaning → Option RingRefusal
refusal_with true m = m.refuses_key
refusal_with false m = m.refuses_none

-- how many random bytes are wanted: an IV of 12 for each entry, and before them the 32 of a data
-- key where none is handed over
abbrev pub wanted : Bool → ℕ → ℕ
wanted true wraps = 12 * wraps
wanted false wraps = 32 + 12 * wraps

-- the data key: the one handed over, or the first 32 bytes
abbrev pub data_key_in : Option (List ℕ) → List ℕ → List ℕ
data_key_in (Some key) random = key
data_key_in None random = take 32 random

-- the bytes of the IVs
abbrev pub ivs_in : Option (List ℕ) → List ℕ → List ℕ
ivs_in (Some key) random = random
ivs_in None random = drop 32 random

-- A data key, and the entries that hold it wrapped.
pub record WrappedValue : Type 0 where
  pub key : List ℕ
  pub entries : List Entry

-- The data key is the one handed over or drawn, and there is one entry for each wrap. Where the
-- keys are told, these are the wraps of it under those that aren't retired, in order.
pub record Wraps (m : KeyringMeaning) (c : List KeyValue) (random : List ℕ)
    (handed : Option (List ℕ)) (wrapped : WrappedValue) : Type 0 where
  pub key : wrapped.key ≡ data_key_in handed random
  pub count : length wrapped.entries ≡ m.wraps
  pub told : IfSome m.keys (λ keys. wrapped.entries
      ≡ made keys c wrapped.key (ivs_of m.wraps (ivs_in handed random)))

-- These keys made the entries: each of them that isn't retired the wrap of the data key, in order.
-- There are as many such keys as the keyring has wraps.
pub record AreMadeBy (wraps : ℕ) (c : List KeyValue) (ivs : List ℕ) (wrapped : WrappedValue)
    (keys : List WrapKeyValue) : Type 0 where
  pub each : length (active keys) ≡ wraps
  pub entries : wrapped.entries ≡ made keys c wrapped.key (ivs_of wraps ivs)

-- What a call that went by these keys wraps: what they made.
abbrev pub WrapsBy : ℕ → List KeyValue → List ℕ → Option (List ℕ) → Result WrappedValue RingError
    → List WrapKeyValue → Type 0
WrapsBy wraps c random handed (Ok wrapped) keys =
    AreMadeBy wraps c (ivs_in handed random) wrapped keys
WrapsBy wraps c random handed (Err e) keys = ⊤

-- Why nothing is wrapped: the refusal that stands, or a failure that was counted, or want of
-- memory; the latter two only where no refusal stands.
abbrev pub WrapCause : Option RingRefusal → ℕ → ℕ → RingError → Type 0
WrapCause refusal old new (Refused r) = refusal ≡ Some r
WrapCause refusal old new KeyringFault = (refusal ≡ None) × Rose old new
WrapCause refusal old new Memory = refusal ≡ None

-- ---- unwrapping

-- What is found with these keys, retired or not. A data key is one that some key of these opens;
-- nothing is found only where none opens an entry; and where nothing failed it is the one of the
-- first key, and for it of the first entry.
pub record OpensWith (keys : List WrapKeyValue) (entries : List Entry) (c : List KeyValue)
    (stayed : Type 0) (found : Option (List ℕ)) : Type 0 where
  pub opened : IfSome found (λ key. IsOpened keys entries c key)
  pub none : found ≡ None → unwrapped keys entries c ≡ None
  pub first : stayed → found ≡ unwrapped keys entries c

-- the same, where the keys are told
abbrev pub Opens : KeyringMeaning → KeyringMeaning → List KeyValue → List Entry → Option (List ℕ)
    → Type 0
Opens old new c entries found =
    IfSome old.keys (λ keys. OpensWith keys entries c (Stayed old.faults new.faults) found)

-- What a call that went by these keys finds: just what the first of them opens, and for it from
-- the first entry, whatever failed meanwhile; and where a failure is the answer, none opens one.
abbrev pub FindsBy : List KeyValue → List Entry → Result (Option (List ℕ)) RingError
    → List WrapKeyValue → Type 0
FindsBy c entries (Ok found) keys = found ≡ unwrapped keys entries c
FindsBy c entries (Err (Refused r)) keys = ⊤
FindsBy c entries (Err KeyringFault) keys = unwrapped keys entries c ≡ None
FindsBy c entries (Err Memory) keys = ⊤

-- Why it isn't known what opens: a failure that was counted, or want of memory.
abbrev pub UnwrapCause : ℕ → ℕ → RingError → Type 0
UnwrapCause old new (Refused r) = ⊥
UnwrapCause old new KeyringFault = Rose old new
UnwrapCause old new Memory = ⊤
