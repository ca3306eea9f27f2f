-- A message that is opened piece by piece: what was given to the caller, and what waits.
-- `state` says what a manager is at a moment. The manager was `begun` when the message began.
use Rattle.std.specs.Prelude.{◌≡◌, ℕ, ◌≤◌, List, ◌++◌, length, take, Result, Ok, Err}
use Rattle.esdk_fields.specs.declared.faults.Fault.TheVariants as faults
use Rattle.esdk_base.specs.declared.receiver.FeedError.{FeedError}
use Rattle.esdk_base.specs.declared.receiver.FeedError.TheVariants as feeds
use Rattle.context_codec.specs.Context.{KeyValue}
use Rattle.header_codec.specs.declared.settings.Settings.{Settings}
use Rattle.keyring_trait.specs.Manager.{ManagerNow, Went}
use Rattle.keyring_trait.specs.Saying.{said_last}
use Rattle.body_format.specs.declared.verdicts.Verdict.{Verdict}
use Rattle.body_format.specs.declared.verdicts.Verdict.TheVariants.{Faulty, Going, Whole}
use Rattle.message_format.specs.Judgement.{content}
use Rattle.stream_open.specs.declared.errors.OpenError.{OpenError}
use Rattle.stream_open.specs.declared.errors.OpenError.TheVariants as errors
use Rattle.stream_open.specs.declared.session.Opener.{Opener}
use Rattle.stream_open.specs.Asking.{Heard, IsHeard}
use Rattle.stream_open.specs.Feeding.{judged_all}
use Rattle.stream_open.specs.Receiving.{FedTo}
use Rattle.stream_open.specs.Session.{OpeningValue, asked_header, judged_now, new_opening_session}
use Rattle.c_session.specs.declared.reason.Reason.{Reason}
use Rattle.c_session.specs.declared.reason.Reason.TheVariants as reasons
use Rattle.c_session.specs.Sealing.{IsFrontOf}

-- The opener goes on with this message, of which these bytes were taken: they were fed to it from
-- its beginning, under these limits and with these given pairs. What was given to the caller and
-- what waits is, put together, what they release.
pub record SessionOpens {M : Type 0} (state : M → ManagerNow) (begun manager : M) (opener : Opener)
    (waiting : List ℕ) (settings : Settings) (pairs : List KeyValue) (taken given : List ℕ) : Type 0
  where
    pub fed : FedTo state 0 (new_opening_session settings pairs) taken (given ++ waiting) begun
        manager opener
    pub all : given ++ waiting ≡ content (judged_now fed.session)
    pub went : Went (state begun) (state manager)

-- These bytes are judged so. The manager was asked once at the most, about the header that is whole
-- in them, and this was heard from it; and what was given and what waits is what they release.
pub record SessionReleases {M : Type 0} (state : M → ManagerNow) (begun manager : M)
    (waiting : List ℕ)
    (settings : Settings) (pairs : List KeyValue) (bytes given : List ℕ)
    (verdict : Verdict) : Type 0
  where
    pub heard : Heard
    pub hears : IsHeard (said_last (state begun) (state manager)) 0 pairs
        (asked_header (new_opening_session settings pairs) bytes) ⊥ heard
    pub judged : (judged_all (new_opening_session settings pairs) bytes heard).verdict ≡ verdict
    pub all : given ++ waiting ≡ content (judged_all (new_opening_session settings pairs) bytes
        heard)

-- Memory ran out, or the manager failed: what was given and what waits is a front of what some
-- front of the bytes releases.
pub record BreaksOff (settings : Settings) (pairs : List KeyValue) (taken piece given : List ℕ)
    (waiting : List ℕ) : Type 0 where
  pub count : ℕ
  pub within : count ≤ length piece
  pub session : OpeningValue
  pub limits : session.settings ≡ settings
  pub told : session.given ≡ pairs
  pub bytes : session.taken ≡ taken ++ take count piece
  pub front : IsFrontOf (content (judged_now session)) given waiting

-- what taking a piece comes to
abbrev pub SessionOpensPiece : {M T : Type 0} → (M → ManagerNow) → M → M → Opener → List ℕ
    → Settings
    → List KeyValue → List ℕ → List ℕ → List ℕ → Result T Reason → Type 0
SessionOpensPiece state begun manager opener waiting settings pairs taken piece given (Ok done) =
    SessionOpens state begun manager opener waiting settings pairs (taken ++ piece) given
SessionOpensPiece state begun manager opener waiting settings pairs taken piece given
    (Err (reasons.Fault fault)) =
    SessionReleases state begun manager waiting settings pairs (taken ++ piece) given (Faulty fault)
SessionOpensPiece state begun manager opener waiting settings pairs taken piece given
    (Err reasons.Keyring) =
    BreaksOff settings pairs taken piece given waiting
SessionOpensPiece state begun manager opener waiting settings pairs taken piece given
    (Err reasons.Memory) =
    BreaksOff settings pairs taken piece given waiting
SessionOpensPiece state begun manager opener waiting settings pairs taken piece given (Err reason) =
    ⊥

-- what the end comes to: the bytes are a whole message, or more are wanted
abbrev pub OpensEnd : {M T : Type 0} → (M → ManagerNow) → M → M → List ℕ → Settings
    → List KeyValue → List ℕ → List ℕ → Result T Reason → Type 0
OpensEnd state begun manager waiting settings pairs taken given (Ok done) =
    SessionReleases state begun manager waiting settings pairs taken given Whole
OpensEnd state begun manager waiting settings pairs taken given
    (Err (reasons.Fault faults.Truncated)) =
    SessionReleases state begun manager waiting settings pairs taken given Going
OpensEnd state begun manager waiting settings pairs taken given (Err reason) = ⊥

-- why an opener isn't fed; of one that goes on, it isn't that it stopped
abbrev pub unopened_as : {E : Type 0} → FeedError OpenError E → Reason
unopened_as (feeds.Machine (errors.Fault fault)) = reasons.Fault fault
unopened_as (feeds.Machine errors.KeyringFault) = reasons.Keyring
unopened_as (feeds.Machine errors.Stopped) = reasons.Memory
unopened_as (feeds.Machine errors.Memory) = reasons.Memory
unopened_as (feeds.Receiver error) = reasons.Memory
