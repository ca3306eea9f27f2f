-- An opener whose contents a receiver takes: a piece that is fed to its end.
-- `state` says what a manager is at a moment; `takes old new bytes`: the receiver took all of these
-- bytes; `fails old new bytes error`: it failed with this error while it was given them.
use Rattle.std.specs.Prelude.{◌≡◌, ℕ, ◌≤◌, List, [], ◌++◌, length, take, true, Some, None, Result}
use Rattle.std.specs.Prelude.{Ok, Err}
use Rattle.esdk_fields.specs.declared.faults.Fault.{Fault}
use Rattle.esdk_base.specs.declared.receiver.FeedError.{FeedError}
use Rattle.esdk_base.specs.declared.receiver.FeedError.TheVariants as feeds
use Rattle.header_codec.specs.Table.{header_fault}
use Rattle.keyring_trait.specs.Manager.{ManagerNow}
use Rattle.keyring_trait.specs.Saying.{said_last}
use Rattle.keyring_trait.specs.Unlocking.{Unlocking}
use Rattle.body_format.specs.declared.verdicts.Verdict.TheVariants.{Faulty}
use Rattle.message_format.specs.Judgement.{content}
use Rattle.stream_open.specs.declared.errors.OpenError.{OpenError}
use Rattle.stream_open.specs.declared.errors.OpenError.TheVariants as errors
use Rattle.stream_open.specs.declared.session.Opener.{Opener}
use Rattle.stream_open.specs.Asking.{Heard, Failed, served_in, IsHeard, BearsHeard}
use Rattle.stream_open.specs.Feeding.{GoesOn, FeedsToOpener, judged_all}
use Rattle.stream_open.specs.Session.{OpeningValue, judged_now, asked_header, keeping, MayRunOut}
use Rattle.stream_open.specs.Stands.{Stands}

-- It stands for a session, as every opener does.
pub record OpenerHasSession (opener : Opener) : Type 0 where
  pub session : OpeningValue
  pub stands : Stands opener session

-- What handing out a content comes to: it was taken, or the receiver failed at it. Where it is
-- empty, the receiver isn't asked.
abbrev pub OpenerGivesOut : {R E T : Type 0} → (R → R → List ℕ → Type 0)
    → (R → R → List ℕ → E → Type 0)
    → List ℕ → R → R → Result T E → Type 0
OpenerGivesOut takes fails bytes old new (Ok done) = takes old new bytes × (bytes ≡ [] → new ≡ old)
OpenerGivesOut takes fails bytes old new (Err error) =
    (1 ≤ length bytes) × fails old new bytes error

-- ---- what was fed

-- These bytes were fed to a session at a moment. It went on, and gave this. The manager was asked
-- once at the most, at the end of a header; this was heard from it, which the session keeps, and it
-- bears its lines so.
pub record FedTo {M : Type 0} (state : M → ManagerNow) (now : ℕ) (v : OpeningValue)
    (bytes given : List ℕ) (old new : M) (opener : Opener) : Type 0 where
  pub on : GoesOn v
  pub session : OpeningValue
  pub stands : Stands opener session
  pub feeds : FeedsToOpener v bytes session given
  pub heard : Heard
  pub hears : IsHeard (said_last (state old) (state new)) now v.given (asked_header v bytes) ⊥ heard
  pub bears : BearsHeard (state old) (state new) now (served_in heard)
  pub answer : session.answer ≡ (keeping v heard).answer
  pub served : session.served ≡ (keeping v heard).served
  pub unasked : asked_header v bytes ≡ None → new ≡ old

-- What is fed behind other bytes was fed with them as one: the manager answered once at the most.
abbrev pub FedAsOne : {M : Type 0} → (M → ManagerNow) → M → M → M → Type 0
FedAsOne state old mid new =
    (now : ℕ) (v : OpeningValue) (first second given more : List ℕ) (opener next : Opener)
    (fed : FedTo state now v first given old mid opener)
    → FedTo state now fed.session second more mid new next
    → FedTo state now v (first ++ second) (given ++ more) old new next

-- The piece was fed to its end, and the receiver took what that gave.
pub record FedWhole {M R : Type 0} (state : M → ManagerNow) (takes : R → R → List ℕ → Type 0)
    (now : ℕ) (v : OpeningValue) (piece : List ℕ) (old new : M) (before after : R)
    (opener : Opener) : Type 0 where
  pub given : List ℕ
  pub fed : FedTo state now v piece given old new opener
  pub taken : takes before after given
  pub nothing : given ≡ [] → after ≡ before

-- So many bytes of the piece were fed, and the receiver failed with this error at what they gave.
pub record FedUntil {M R E : Type 0} (state : M → ManagerNow) (fails : R → R → List ℕ → E → Type 0)
    (now : ℕ) (v : OpeningValue) (piece : List ℕ) (error : E) (old new : M) (before after : R)
    (opener : Opener) : Type 0 where
  pub count : ℕ
  pub within : count ≤ length piece
  pub given : List ℕ
  pub some : 1 ≤ length given
  pub fed : FedTo state now v (take count piece) given old new opener
  pub failed : fails before after given error

-- ---- why no more is fed

-- The bytes taken and all of the piece have this fault, whatever follows, and what is released
-- before it was given since. It is the header's where no answer is kept.
pub record PieceHasFault (v : OpeningValue) (piece : List ℕ) (heard : Heard) (given : List ℕ)
    (fault : Fault) : Type 0 where
  pub verdict : (judged_all v piece heard).verdict ≡ Faulty fault
  pub stays : (more : List ℕ) → judged_all v (piece ++ more) heard ≡ judged_all v piece heard
  pub released : content (judged_all v piece heard) ≡ content (judged_now v) ++ given
  pub unheard : (keeping v heard).answer ≡ None
      → header_fault v.settings (v.taken ++ piece) ≡ Some fault

-- The fault; or the manager failed at the header that is whole with the piece, and nothing was
-- given; or memory ran out in a session where it may, and nothing was given.
abbrev pub Breaks : OpeningValue → List ℕ → Heard → List ℕ → OpeningValue → OpenError → Type 0
Breaks v piece heard given reached (errors.Fault fault) = PieceHasFault v piece heard given fault
Breaks v piece heard given reached errors.KeyringFault = (heard ≡ Failed) × (given ≡ [])
Breaks v piece heard given reached errors.Memory = MayRunOut reached × (given ≡ [])
Breaks v piece heard given reached errors.Stopped = ⊥

-- the session that an error ended behind these bytes
abbrev pub broken_off : OpeningValue → List ℕ → Heard → OpeningValue
broken_off v bytes heard =
    record (keeping v heard) { taken = v.taken ++ bytes; stopped = true; out = [] }

-- So many bytes of the piece were taken, and then the session ended with this error. The receiver
-- took what was given until then.
pub record FedShort {M R : Type 0} (state : M → ManagerNow) (takes : R → R → List ℕ → Type 0)
    (now : ℕ) (v : OpeningValue) (piece : List ℕ) (error : OpenError) (old new : M)
    (before after : R) (opener : Opener) : Type 0 where
  pub on : GoesOn v
  pub count : ℕ
  pub within : count ≤ length piece
  pub reached : OpeningValue
  pub given : List ℕ
  pub feeds : FeedsToOpener v (take count piece) reached given
  pub heard : Heard
  pub hears : IsHeard (said_last (state old) (state new)) now v.given (asked_header v piece)
      (error ≡ errors.Memory) heard
  pub bears : BearsHeard (state old) (state new) now (served_in heard)
  pub unasked : asked_header v piece ≡ None → new ≡ old
  pub kept : (answer : Unlocking) → reached.answer ≡ Some answer
      → (keeping v heard).answer ≡ Some answer
  pub why : Breaks v piece heard given reached error
  pub stands : Stands opener (broken_off v (take count piece) heard)
  pub taken : takes before after given
  pub nothing : given ≡ [] → after ≡ before

-- An earlier call answered an error: nothing was taken, asked or given.
pub record StaysStopped {M R : Type 0} (v : OpeningValue) (old new : M) (before after : R)
    (opener : Opener) : Type 0 where
  pub off : v.stopped ≡ true
  pub stands : Stands opener (record v { out = [] })
  pub unasked : new ≡ old
  pub untaken : after ≡ before

-- what feeding a piece to this session comes to
abbrev pub FeedsOpenerPiece : {M R E T : Type 0} → (M → ManagerNow) → (R → R → List ℕ → Type 0)
    → (R → R → List ℕ → E → Type 0) → ℕ → OpeningValue → List ℕ → M → M → R → R → Opener
    → Result T (FeedError OpenError E) → Type 0
FeedsOpenerPiece state takes fails now v piece old new before after opener (Ok done) =
    FedWhole state takes now v piece old new before after opener
FeedsOpenerPiece state takes fails now v piece old new before after opener
    (Err (feeds.Receiver error)) =
    FedUntil state fails now v piece error old new before after opener
FeedsOpenerPiece state takes fails now v piece old new before after opener
    (Err (feeds.Machine errors.Stopped)) =
    StaysStopped v old new before after opener
FeedsOpenerPiece state takes fails now v piece old new before after opener
    (Err (feeds.Machine error)) =
    FedShort state takes now v piece error old new before after opener
