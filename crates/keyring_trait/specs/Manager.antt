-- What a cryptographic materials manager is to its callers, and what its calls answer.
-- AWS Encryption SDK Specification, "CMM Interface", Get Encryption Materials and Decrypt
-- Materials.
use Rattle.std.specs.Prelude.{◌≡◌, ℕ, ◌≤◌, ◌<◌, Bool, true, false, List, [], ◌∷◌, ◌++◌, length}
use Rattle.std.specs.Prelude.{take, drop, All, ⊤, Option, Some, None, option_map, find, nat_eq}
use Rattle.std.specs.Prelude.{codes, Result, MatchResult}
use Rattle.std.specs.List.{starts_with}
use Rattle.esdk_fields.specs.Counts.{Rose, Stayed}
use Rattle.esdk_fields.specs.declared.faults.Fault.{Fault}
use Rattle.esdk_fields.specs.declared.faults.Fault.TheVariants as faults
use Rattle.esdk_fields.specs.declared.refusals.Refusal.{Refusal}
use Rattle.esdk_fields.specs.declared.refusals.Refusal.TheVariants as refusals
use Rattle.context_codec.specs.Context.{KeyValue, ctx_text}
use Rattle.context_codec.specs.KeySet.{has, with_keys}
use Rattle.context_codec.specs.Parts.{holds, only_given, whole_of}
use Rattle.keyring_trait.specs.declared.journal.JournalLine.{JournalLine}
use Rattle.keyring_trait.specs.declared.journal.Kind.{Kind}
use Rattle.keyring_trait.specs.declared.manager_errors.ManagerError.{ManagerError}
use Rattle.keyring_trait.specs.declared.manager_errors.ManagerError.TheVariants as errors
use Rattle.keyring_trait.specs.declared.ring_refusals.RingRefusal.{RingRefusal}
use Rattle.keyring_trait.specs.declared.ring_refusals.RingRefusal.TheVariants as rings
use Rattle.keyring_trait.specs.declared.served.Served.{Served}
use Rattle.keyring_trait.specs.declared.served.Served.TheVariants.{Direct, New, Hit}
use Rattle.keyring_trait.specs.Laws.{HasTwoValues}
use Rattle.keyring_trait.specs.Materials.{EncMaterialsValue, DecMaterialsValue}
use Rattle.keyring_trait.specs.Requests.{EncRequestValue, DecRequestValue, required_absent}
use Rattle.keyring_trait.specs.Unlocking.{reserved_key, pair_offence}
use Rattle.keyring_trait.specs.Uses.{KeyUse}
use Rattle.keyring_trait.specs.Wrapping.{WrapKeyValue, first_some, unwrapped, made, ivs_of}
use Rattle.keyring_trait.specs.Wrapping.{IsOpened, AreIvs}

-- How many entries it makes of a data key; what its keyrings refuse where no data key is there yet;
-- how often it failed; whether it is steady, so that it never
-- fails; whether it is fresh, so that each data key that isn't served from a cache is drawn for the
-- request; whether it is plain, so that it is fresh and has no
-- cache; and the keys that it requires by itself of every context.
pub record ManagerMeaning : Type 0 where
  pub wraps : ℕ
  pub refuses : Option RingRefusal
  pub faults : ℕ
  pub steady : Bool
  pub fresh : Bool
  pub plain : Bool
  pub demands : List (List ℕ)

-- A call keeps all but the count of faults. That never falls, and of a steady manager it stays.
pub record ManagerGoes (old new : ManagerMeaning) : Type 0 where
  pub wraps : new.wraps ≡ old.wraps
  pub refuses : new.refuses ≡ old.refuses
  pub steady : new.steady ≡ old.steady
  pub fresh : new.fresh ≡ old.fresh
  pub plain : new.plain ≡ old.plain
  pub demands : new.demands ≡ old.demands
  pub later : old.faults ≤ new.faults
  pub still : old.steady ≡ true → Stayed old.faults new.faults

-- ---- a manager at a moment

-- keys that were told are told still
abbrev pub TellsOn : (List WrapKeyValue → Type 0) → (List WrapKeyValue → Type 0) → Type 0
TellsOn old new = (keys : List WrapKeyValue) → old keys → new keys

-- What a manager is at a moment: what it means to its callers; which keys it tells as its wrapping
-- keys, retired or not, in order; that it is exact, so that it refuses exactly where the
-- definitions say so, in their order, and requires its own demands and no more; which lines of what
-- it served it bears, so that it can go on from them; and which lines are within the limits of its
-- cache, or, without a cache, say what is true of all that it serves; and what its keyrings show of
-- the uses of their keys. Then the materials that it gave in one call, before which its keyrings
-- showed this: to this request to encrypt, at this moment, with these random bytes; and those that
-- it found so for this request to decrypt, at this moment. One that asks a keyring says by which
-- keys; one that asks another manager says what that one gave.
pub record ManagerNow : Type 1 where
  pub meaning : ManagerMeaning
  pub tells : List WrapKeyValue → Type 0
  pub exact : Type 0
  pub bears : List JournalLine → Type 0
  pub within : List JournalLine → Type 0
  pub uses : Option (List KeyUse)
  pub gave : Option (List KeyUse) → EncRequestValue → ℕ → List ℕ → EncMaterialsValue → Type 0
  pub found : Option (List KeyUse) → DecRequestValue → ℕ → DecMaterialsValue → Type 0

-- What a manager keeps from one moment to a later one: all that it means but the count of faults,
-- the keys that it tells, of which a plain manager tells no others later, that it is exact, and the
-- limits, which no call widens.
pub record Went (old new : ManagerNow) : Type 0 where
  pub goes : ManagerGoes old.meaning new.meaning
  pub tells : TellsOn old.tells new.tells
  pub same : old.meaning.plain ≡ true → TellsOn new.tells old.tells
  pub exact : old.exact → new.exact
  pub limits : (lines : List JournalLine) → new.within lines → old.within lines

-- ---- how materials were served

-- not from a cache
abbrev pub IsNew : Served → Type 0
IsNew Direct = ⊤
IsNew (New number) = ⊤
IsNew (Hit number) = ⊥

-- all of these were served directly
abbrev pub AllDirect : List JournalLine → Type 0
AllDirect lines = All (λ line. line.served ≡ Direct) lines

-- a plain manager's are served directly
abbrev pub ServesPlainly : ManagerMeaning → Served → Type 0
ServesPlainly m served = m.plain ≡ true → served ≡ Direct

-- ---- materials to encrypt with

-- keys with this prefix are kept for the format
abbrev pub has_reserved_prefix : List ℕ → Bool
has_reserved_prefix key = starts_with nat_eq key (codes "aws-crypto-")

-- Q1: the first key of the context that has the reserved prefix
abbrev pub reserved_used : List KeyValue → Option Refusal
reserved_used context = option_map (λ p. refusals.ReservedPrefix p.0)
    (find (λ p. has_reserved_prefix p.0) context)

-- Q5 and Q6: what the keyrings refuse
abbrev pub refusal_named : RingRefusal → Refusal
refusal_named rings.NoGenerator = refusals.NoGenerator
refusal_named rings.GeneratorHasKey = refusals.GeneratorHasKey

-- What a request is refused for, in this order. The keys that are demanded and those of the context
-- ascend, so that the first such key is the least.
unfoldable pub request_refusal : ManagerMeaning → List KeyValue → Option Refusal
request_refusal m context = first_some (λ o. o)
    (required_absent context m.demands ∷ reserved_used context ∷ option_map refusal_named m.refuses
    ∷ [])

-- The entries are wraps of the data key over the whole context, one under each of these keys that
-- isn't retired, in order. The IV of each stands in its information.
pub record AreWraps (keys : List WrapKeyValue) (materials : EncMaterialsValue) : Type 0 where
  pub ivs : List (List ℕ)
  pub are_ivs : AreIvs keys ivs
  pub entries : materials.entries ≡ made keys materials.context materials.key ivs

-- The data key is the first 32 of these random bytes. Where the keys are told, the entries are the
-- wraps of it under those that aren't retired, with the bytes behind it as IVs.
pub record AreDrawn (wraps : ℕ) (tells : List WrapKeyValue → Type 0) (random : List ℕ)
    (materials : EncMaterialsValue) : Type 0 where
  pub key : materials.key ≡ take 32 random
  pub entries : (keys : List WrapKeyValue) → tells keys
      → materials.entries ≡ made keys materials.context materials.key
      (ivs_of wraps (drop 32 random))

-- What a manager answers to a request with these random bytes: the context is the request's, and
-- the keys that a reader has to give are the request's and maybe more; an exact manager adds those
-- that it demands, and no others, and answers only where nothing is refused.
pub record GivesMaterials (n : ManagerNow) (request : EncRequestValue) (random : List ℕ)
    (materials : EncMaterialsValue) : Type 0 where
  pub context : materials.context ≡ request.context
  pub required : All (λ key. has materials.required key ≡ true) request.required
  pub count : length materials.entries ≡ n.meaning.wraps
  pub wrapped : (keys : List WrapKeyValue) → n.tells keys → AreWraps keys materials
  pub fresh : n.meaning.fresh ≡ true → IsNew materials.served
      → AreDrawn n.meaning.wraps n.tells random materials
  pub plain : ServesPlainly n.meaning materials.served
  pub demanded : n.exact → materials.required ≡ with_keys request.required n.meaning.demands
  pub unrefused : n.exact → request_refusal n.meaning request.context ≡ None

-- The refusal stands in the context, or is one of the keyrings'.
abbrev pub RefusalStands : ManagerMeaning → List KeyValue → Refusal → Type 0
RefusalStands m context (refusals.ReservedPrefix key) =
    (has_reserved_prefix key ≡ true) × (holds context key ≡ true)
RefusalStands m context (refusals.RequiredAbsent key) = holds context key ≡ false
RefusalStands m context refusals.NoGenerator = m.refuses ≡ Some rings.NoGenerator
RefusalStands m context refusals.GeneratorHasKey = m.refuses ≡ Some rings.GeneratorHasKey
RefusalStands m context refusal = ⊥

-- Why there are no materials: a refusal that stands; or a failure that was counted; or want of
-- memory. Of an exact manager it is the first refusal, and it fails only where nothing is refused.
abbrev pub GivesNone : ManagerNow → ManagerNow → EncRequestValue → ManagerError → Type 0
GivesNone old new request (errors.Refusal refusal) =
    RefusalStands old.meaning request.context refusal
    × (old.exact → request_refusal old.meaning request.context ≡ Some refusal)
GivesNone old new request errors.KeyringFault = Rose old.meaning.faults new.meaning.faults
    × (old.exact → request_refusal old.meaning request.context ≡ None)
GivesNone old new request (errors.Fault fault) = ⊥
GivesNone old new request errors.Memory = ⊤

-- ---- materials to decrypt with

-- What a manager answers to a header's pairs and entries: the whole context, its pairs that are
-- only authenticated, and a data key that a told key opens from an entry; where nothing failed it
-- is that of the first key, and for it of the first entry. An exact manager answers only where
-- nothing is wrong with the pairs.
pub record FindsMaterials (old new : ManagerNow) (request : DecRequestValue)
    (materials : DecMaterialsValue) : Type 0 where
  pub context : materials.context ≡ whole_of request.stored request.given
  pub only : materials.only ≡ only_given request.stored request.given
  pub opened : (keys : List WrapKeyValue) → old.tells keys
      → IsOpened keys request.entries materials.context materials.key
  pub first : (keys : List WrapKeyValue) → old.tells keys
      → Stayed old.meaning.faults new.meaning.faults
      → unwrapped keys request.entries materials.context ≡ Some materials.key
  pub plain : ServesPlainly old.meaning materials.served
  pub unfaulted : old.exact → pair_offence request.stored request.given old.meaning.demands ≡ None

-- the text of the whole context has so many bytes, which are too many
abbrev pub ContextIsTooLong : DecRequestValue → ℕ → Type 0
ContextIsTooLong request n =
    (n ≡ length (ctx_text (whole_of request.stored request.given))) × (65535 < n)

-- The fault stands in the pairs, or no told key opens an entry.
abbrev pub FaultStands : (List WrapKeyValue → Type 0) → DecRequestValue → Fault → Type 0
FaultStands tells request faults.ReservedKey = holds request.stored reserved_key ≡ true
FaultStands tells request (faults.ContextMismatch key) =
    HasTwoValues request.stored request.given key
FaultStands tells request (faults.MissingRequired key) = holds request.given key ≡ false
FaultStands tells request (faults.ContextTooLong n) = ContextIsTooLong request n
FaultStands tells request faults.NoKeyOpens = (keys : List WrapKeyValue) → tells keys
    → unwrapped keys request.entries (whole_of request.stored request.given) ≡ None
FaultStands tells request fault = ⊥

-- what is wrong with the pairs, where this is the fault that is answered; that no key opens says
-- that nothing is
abbrev pub offence_told : Fault → Option Fault
offence_told faults.NoKeyOpens = None
offence_told fault = Some fault

-- Why there are no materials: a fault that stands; or a failure that was counted; or want of
-- memory. Of an exact manager it is the first fault of the pairs, and it fails, or says that no key
-- opens, only where nothing is wrong with them.
abbrev pub FindsNone : ManagerNow → ManagerNow → DecRequestValue → ManagerError → Type 0
FindsNone old new request (errors.Fault fault) = FaultStands old.tells request fault
    × (old.exact → pair_offence request.stored request.given old.meaning.demands
    ≡ offence_told fault)
FindsNone old new request errors.KeyringFault = Rose old.meaning.faults new.meaning.faults
    × (old.exact → pair_offence request.stored request.given old.meaning.demands ≡ None)
FindsNone old new request (errors.Refusal refusal) = ⊥
FindsNone old new request errors.Memory = ⊤

-- ---- what was served

-- Where a manager bears the lines of what it served, it bears one line more once it served, and the
-- same lines after an error. The session's number plays no part.
abbrev pub BearsOn : {M E : Type 0} → ManagerNow → ManagerNow → Kind → ℕ → Option ℕ → (M → Served)
    → Result M E → Type 0
BearsOn old new kind now size served result =
    MatchResult result
    (λ m. (lines : List JournalLine) (session : ℕ) → old.bears lines
    → new.bears (lines ++ record {
      session = session;
      kind = kind;
      served = served m;
      now = now;
      length = size;
    } ∷ []))
    (λ _. (lines : List JournalLine) → old.bears lines → new.bears lines)

abbrev pub enc_served : EncMaterialsValue → Served
enc_served m = m.served

abbrev pub dec_served : DecMaterialsValue → Served
dec_served m = m.served
