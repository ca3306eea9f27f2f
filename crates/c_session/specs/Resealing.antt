-- A message that is resealed piece by piece: what was given to the caller, and what waits.
-- `opened` and `sealed` say what a manager is at a moment. The manager of the old message was
-- `begun` when the message began, and that of the new one `first`.
use Rattle.std.specs.Prelude.{◌≡◌, ℕ, ◌+◌, ◌*◌, ◌≤◌, List, [], ◌++◌, length, take, false}
use Rattle.std.specs.Prelude.{Option, Some, None, Result, Ok, Err}
use Rattle.esdk_fields.specs.declared.faults.Fault.TheVariants as faults
use Rattle.esdk_fields.specs.declared.refusals.Outside.TheVariants as outsides
use Rattle.esdk_base.specs.Streams.{SinkState, SourceState}
use Rattle.context_codec.specs.Context.{KeyValue}
use Rattle.header_codec.specs.declared.settings.Settings.{Settings}
use Rattle.keyring_trait.specs.Manager.{ManagerNow, Went}
use Rattle.keyring_trait.specs.Materials.{EncMaterialsValue}
use Rattle.keyring_trait.specs.Unlocking.{Unlocking, Unlocks}
use Rattle.body_format.specs.declared.verdicts.Verdict.TheVariants.{Going, Whole}
use Rattle.message_format.specs.Judgement.{content, judged}
use Rattle.stream_seal.specs.Start.{drawn_id, message_of, most_text}
use Rattle.esdk_decrypt.specs.Decrypt.{AnswersTo}
use Rattle.reseal_core.specs.declared.errors.InputError.{InputError}
use Rattle.reseal_core.specs.declared.errors.InputError.TheVariants as inputs
use Rattle.reseal_core.specs.declared.errors.ResealError.{ResealError}
use Rattle.reseal_core.specs.declared.errors.ResealError.TheVariants as reseals
use Rattle.reseal_core.specs.declared.resealer.Resealer.{Resealer}
use Rattle.reseal_core.specs.Reseal.{HasMaterials, Passes, ResealEndsSo, Resealing, resealing_from}
use Rattle.reseal_core.specs.Session.{ResealingValue, new_resealing_session}
use Rattle.reseal_core.specs.Stands.{ResealerHasSession, Stands}
use Rattle.reseal_core.specs.Underway.{Reached}
use Rattle.c_session.specs.declared.reason.Reason.{Reason}
use Rattle.c_session.specs.declared.reason.Reason.TheVariants as reasons

-- How a message is resealed: the limits of the old one and the pairs that are given to open it, the
-- frame length of the new one and the random bytes that it is made with.
pub record HowResealed : Type 0 where
  pub settings : Settings
  pub pairs : List KeyValue
  pub size : ℕ
  pub random : List ℕ

-- what `reseal` is asked for that: the managers were so, and have come to where they are so now
abbrev pub how_asked : HowResealed → ManagerNow → ManagerNow → ManagerNow → ManagerNow → Resealing
how_asked how opened opening sealed sealing =
    resealing_from opened opening sealed sealing 0 how.settings how.pairs how.size

-- an input of which these bytes came so far
abbrev pub came_so_far : List ℕ → SourceState
came_so_far bytes =
    record { left = None; given = length bytes; faults = 0; came = bytes; ended = false }

-- an output to which these bytes were put so far, and where so many puts failed
abbrev pub put_so_far : ℕ → List ℕ → SinkState
put_so_far faults bytes = record { written = Some bytes; faults = faults }

-- ---- the resealer

-- It stands for a session, and its random bytes are those of so many wraps as long as it goes on.
pub record ResealerIsReady (resealer : Resealer) (wraps : ℕ) : Type 0 where
  pub session : ResealerHasSession resealer
  pub drawn : (v : ResealingValue) → Stands resealer v → v.stopped ≡ false
      → length v.random ≡ 64 + 12 * wraps

-- These bytes of the old message were fed to it from its beginning, and what was put is the front
-- of the new message of what they release.
abbrev pub ResealsSoFar : {A B : Type 0} → (A → ManagerNow) → (B → ManagerNow) → HowResealed → A → A
    → B → B → Resealer → List ℕ → List ℕ → Type 0
ResealsSoFar opened sealed how begun opening first sealing resealer taken put =
    Reached opened sealed 0 (new_resealing_session how.settings how.pairs how.size how.random) taken
    begun opening first sealing (put_so_far 0 []) (put_so_far 0 put) resealer

-- The machine goes on so; its manager makes as many wraps as the machine was told.
pub record SessionReseals {A B : Type 0} (opened : A → ManagerNow) (sealed : B → ManagerNow)
    (how : HowResealed) (begun opening : A) (first sealing : B) (machine : Resealer × ℕ)
    (taken put : List ℕ) : Type 0 where
  pub so_far : ResealsSoFar opened sealed how begun opening first sealing machine.0 taken put
  pub wraps : machine.1 ≡ (sealed sealing).meaning.wraps
  pub opened_went : Went (opened begun) (opened opening)
  pub sealed_went : Went (sealed first) (sealed sealing)

-- ---- why it ends

-- what an error of `reseal` is called
abbrev pub reseal_reason : InputError → Reason
reseal_reason (inputs.Fault fault) = reasons.Fault fault
reseal_reason (inputs.Refusal refusal) = reasons.Refusal refusal
reseal_reason (inputs.Outside outsides.KeyringFault) = reasons.Keyring
reseal_reason (inputs.Outside outside) = reasons.Memory
reseal_reason inputs.Memory = reasons.Memory

-- what an error of a resealer is called; of one that goes on, it isn't that it stopped
abbrev pub unresealed_as : ResealError → Reason
unresealed_as (reseals.Fault fault) = reasons.Fault fault
unresealed_as (reseals.Refusal refusal) = reasons.Refusal refusal
unresealed_as reseals.KeyringFault = reasons.Keyring
unresealed_as reseals.SinkFault = reasons.Memory
unresealed_as reseals.Stopped = reasons.Memory
unresealed_as reseals.Memory = reasons.Memory

-- `reseal` of an input of which these bytes came ends with this error, and so much was put. That a
-- put failed is want of memory.
pub record ResealEndsFor (asked : Resealing) (random bytes put : List ℕ) (reason : Reason) : Type 0
  where
    pub error : InputError
    pub named : reason ≡ reseal_reason error
    pub failed : ℕ
    pub ends : ResealEndsSo asked random (came_so_far []) (came_so_far bytes) (put_so_far 0 [])
        (put_so_far failed put) error

-- ---- a piece

-- A front of the piece was taken, and the message ends there for this reason.
pub record ResealsNoMore (asked : Resealing) (random taken piece put : List ℕ) (reason : Reason)
    : Type 0 where
  pub count : ℕ
  pub within : count ≤ length piece
  pub ends : ResealEndsFor asked random (taken ++ take count piece) put reason

-- what taking a piece comes to: all of it was taken, or no more is
abbrev pub SessionResealsPiece : {A B T : Type 0} → (A → ManagerNow) → (B → ManagerNow)
    → HowResealed → A → A → B → B → Resealer × ℕ → List ℕ → List ℕ → List ℕ → Result T Reason
    → Type 0
SessionResealsPiece opened sealed how begun opening first sealing machine taken piece put
    (Ok done) =
    SessionReseals opened sealed how begun opening first sealing machine (taken ++ piece) put
SessionResealsPiece opened sealed how begun opening first sealing machine taken piece put
    (Err reason) =
    ResealsNoMore (how_asked how (opened begun) (opened opening) (sealed first) (sealed sealing))
    how.random taken piece put reason

-- The manager of the new message is there still, and the piece was taken so.
pub record FedResealing {A B T : Type 0} (opened : A → ManagerNow) (sealed : B → ManagerNow)
    (how : HowResealed) (begun opening : A) (first : B) (after : Option B)
    (machine : Resealer × ℕ) (taken piece put : List ℕ) (result : Result T Reason) : Type 0 where
  pub sealing : B
  pub is_there : after ≡ Some sealing
  pub comes : SessionResealsPiece opened sealed how begun opening first sealing machine taken piece
      put result

-- so it was, where the machine went on
abbrev pub FeedsResealing : {A B T : Type 0} → (A → ManagerNow) → (B → ManagerNow) → A → A
    → Option B → Option B → Resealer × ℕ → Resealer × ℕ → List ℕ → List ℕ → List ℕ
    → Result T Reason → Type 0
FeedsResealing {A} {B} opened sealed old new before after machine next waiting waits piece result =
    (how : HowResealed) (begun : A) (first sealing : B) (taken given : List ℕ)
    → before ≡ Some sealing
    → SessionReseals opened sealed how begun old first sealing machine taken (given ++ waiting)
    → FedResealing opened sealed how begun new first after next taken piece (given ++ waits) result

-- ---- the end

-- These bytes are a whole message, with this whole context and these pairs only authenticated, and
-- what was put is the new message of its content.
pub record ResealsWhole (asked : Resealing) (random bytes put : List ℕ) : Type 0 where
  pub whole : List KeyValue
  pub only : List KeyValue
  pub key : List ℕ
  pub answered : AnswersTo asked.opening.manager asked.opening.settings asked.opening.given bytes
      (Unlocks whole only key)
  pub verdict : (judged bytes asked.opening.settings (Unlocks whole only key)).verdict ≡ Whole
  pub materials : EncMaterialsValue
  pub has : HasMaterials asked random whole only materials
  pub room : length (content (judged bytes asked.opening.settings (Unlocks whole only key)))
      ≤ most_text asked.size
  pub all : put ≡ message_of materials asked.size (drawn_id random)
      (content (judged bytes asked.opening.settings (Unlocks whole only key)))

-- More bytes are wanted behind these, and what was put is the front of the new message of what they
-- release.
pub record ResealWantsMore (asked : Resealing) (random bytes put : List ℕ) : Type 0 where
  pub answer : Unlocking
  pub passes : Passes asked random (came_so_far []) (came_so_far bytes) (put_so_far 0 [])
      (put_so_far 0 put) bytes answer
  pub going : (judged bytes asked.opening.settings answer).verdict ≡ Going

-- What the end comes to: the new message is whole, or a front of it was put, where memory ran out;
-- or the old one isn't whole.
abbrev pub ResealsEnd : {T : Type 0} → Resealing → List ℕ → List ℕ → List ℕ → Result T Reason
    → Type 0
ResealsEnd asked random bytes put (Ok done) = ResealsWhole asked random bytes put
ResealsEnd asked random bytes put (Err (reasons.Fault faults.Truncated)) =
    ResealWantsMore asked random bytes put
ResealsEnd asked random bytes put (Err reasons.Memory) =
    (rest : List ℕ) × ResealsWhole asked random bytes (put ++ rest)
ResealsEnd asked random bytes put (Err reason) = ⊥

-- so it was, where the machine went on
abbrev pub EndsResealing : {A B T : Type 0} → (A → ManagerNow) → (B → ManagerNow) → A → Option B
    → Resealer × ℕ → List ℕ → List ℕ → Result T Reason → Type 0
EndsResealing {A} {B} opened sealed opening there machine waiting waits result =
    (how : HowResealed) (begun : A) (first sealing : B) (taken given : List ℕ)
    → there ≡ Some sealing
    → SessionReseals opened sealed how begun opening first sealing machine taken (given ++ waiting)
    → ResealsEnd (how_asked how (opened begun) (opened opening) (sealed first) (sealed sealing))
    how.random taken (given ++ waits) result
