-- What keyrings in a row answer together.
use Rattle.std.specs.Prelude.{◌≡◌, ℕ, ◌+◌, ◌≤◌, true, List, [], ◌∷◌, ◌++◌, length, ⊤, Option, Some}
use Rattle.std.specs.Prelude.{None, IfSome, Result, Ok, Err, MatchResult}
use Rattle.esdk_fields.specs.Counts.{Stayed}
use Rattle.context_codec.specs.Context.{KeyValue}
use Rattle.edk_codec.specs.Entry.{Entry}
use Rattle.keyring_trait.specs.Wrapping.{WrapKeyValue, active, made, ivs_of, unwrapped}
use Rattle.keyring_trait.specs.Keyring.{KeyringMeaning, KeyringGoes, WrappedValue, OpensWith}
use Rattle.keyring_trait.specs.Keyring.{UnwrapCause}
use Rattle.keyring_trait.specs.declared.ring_refusals.RingError.{RingError}
use Rattle.keyring_trait.specs.declared.ring_refusals.RingError.TheVariants.{Refused, KeyringFault}
use Rattle.keyring_trait.specs.declared.ring_refusals.RingError.TheVariants.{Memory}
use Rattle.multi_keyring.specs.Tree.{all_keys, all_wraps}

-- what each keyring says of its entries (the clauses of `wraps`)
pub record IsCounted (m : KeyringMeaning) : Type 0 where
  pub bound : m.wraps ≤ 64
  pub told : IfSome m.keys (λ keys. length (active keys) ≡ m.wraps)
  pub generates : m.refuses_none ≡ None → 1 ≤ m.wraps
  pub steady : m.steady ≡ true → Stayed m.faults m.faults

-- each keyring of a row does
abbrev pub AllCounted : List KeyringMeaning → Type 0
AllCounted [] = ⊤
AllCounted (m ∷ ms) = IsCounted m × AllCounted ms

-- each keyring of a row goes on
abbrev pub AllGo : List KeyringMeaning → List KeyringMeaning → Type 0
AllGo [] [] = ⊤
AllGo [] (n ∷ ns) = ⊥
AllGo (o ∷ os) [] = ⊥
AllGo (o ∷ os) (n ∷ ns) = KeyringGoes o n × AllGo os ns

-- The entries of a data key that was handed to each keyring of a row stand behind those that were
-- there; where all tell their keys, they are the wraps under these.
pub record Appends (ms : List KeyringMeaning) (c : List KeyValue) (key random : List ℕ)
    (before now : List Entry) : Type 0 where
  pub count : length now ≡ length before + all_wraps ms
  pub told : IfSome (all_keys ms)
      (λ keys. now ≡ before ++ made keys c key (ivs_of (all_wraps ms) random))

-- These keys made such entries: as many of them aren't retired as the row makes entries.
pub record AppendsBy (wraps : ℕ) (c : List KeyValue) (key random : List ℕ)
    (before now : List Entry) (keys : List WrapKeyValue) : Type 0 where
  pub each : length (active keys) ≡ wraps
  pub entries : now ≡ before ++ made keys c key (ivs_of wraps random)

-- what a row appends that went by these keys
abbrev pub RowWrapsBy : ℕ → List KeyValue → List ℕ → List ℕ → List Entry
    → Result WrappedValue RingError → List WrapKeyValue → Type 0
RowWrapsBy wraps c key random before (Ok wrapped) keys =
    AppendsBy wraps c key random before wrapped.entries keys
RowWrapsBy wraps c key random before (Err e) keys = ⊤

-- what was found, or why it isn't known, where these keys are told and so many faults were and are
-- counted
abbrev pub OpensAs : Option (List WrapKeyValue) → ℕ → ℕ → List KeyValue → List Entry
    → Result (Option (List ℕ)) RingError → Type 0
OpensAs told before now c entries answer =
    MatchResult answer
    (λ found. IfSome told (λ keys. OpensWith keys entries c (Stayed before now) found))
    (UnwrapCause before now)

-- ---- no key

-- no data key was found, or it isn't known, since a keyring failed
abbrev pub FindsNoKey : Result (Option (List ℕ)) RingError → Type 0
FindsNoKey (Ok None) = ⊤
FindsNoKey (Ok (Some key)) = ⊥
FindsNoKey (Err (Refused r)) = ⊥
FindsNoKey (Err KeyringFault) = ⊤
FindsNoKey (Err Memory) = ⊥

-- of these keyrings none opens an entry that didn't fail and tells its keys
abbrev pub NoneOpens : List KeyringMeaning → List KeyringMeaning → List KeyValue → List Entry
    → Type 0
NoneOpens [] [] c entries = ⊤
NoneOpens [] (n ∷ ns) c entries = ⊥
NoneOpens (o ∷ os) [] c entries = ⊥
NoneOpens (o ∷ os) (n ∷ ns) c entries =
    (Stayed o.faults n.faults → IfSome o.keys (λ keys. unwrapped keys entries c ≡ None))
    × NoneOpens os ns c entries

-- ---- keyrings that aren't asked

-- A keyring tells its keys, didn't fail, and has a key that opens an entry.
pub record OpensEntry (old now : KeyringMeaning) (c : List KeyValue) (entries : List Entry)
    : Type 0 where
  pub keys : List WrapKeyValue
  pub key : List ℕ
  pub told : old.keys ≡ Some keys
  pub stayed : Stayed old.faults now.faults
  pub found : unwrapped keys entries c ≡ Some key

-- Behind a keyring of a row that finds a key the others aren't asked: they mean what they meant.
abbrev pub RestBehind : List KeyringMeaning → List KeyringMeaning → List KeyValue → List Entry
    → Type 0
RestBehind [] [] c entries = ⊤
RestBehind [] (n ∷ ns) c entries = ⊥
RestBehind (o ∷ os) [] c entries = ⊥
RestBehind (o ∷ os) (n ∷ ns) c entries =
    (OpensEntry o n c entries → ns ≡ os) × RestBehind os ns c entries
