-- A session that is fed a whole piece, or is ended, and a receiver that takes what it gives.
-- `state` says what a manager is at a moment; `takes old new bytes`: the receiver took all of these
-- bytes; `fails old new bytes error`: it failed with this error while it was given them.
use Rattle.std.specs.Prelude.{◌≡◌, ◌≢◌, ◌↔◌, ℕ, ◌≤◌, List, [], ◌++◌, length, Option, Some, None}
use Rattle.std.specs.Prelude.{Result, Ok, Err, nat_eq}
use Rattle.std.specs.BTreeMap.{BTreeMap}
use Rattle.std.specs.Global.{Box}
use Rattle.std.specs.Map.{update}
use Rattle.esdk_base.specs.declared.receiver.FeedError.{FeedError}
use Rattle.esdk_base.specs.declared.receiver.FeedError.TheVariants as failures
use Rattle.keyring_trait.specs.declared.journal.JournalLine.{JournalLine}
use Rattle.keyring_trait.specs.Manager.{ManagerNow}
use Rattle.stream_seal.specs.declared.errors.SealError.{SealError}
use Rattle.stream_seal.specs.declared.session.Sealer.{Sealer}
use Rattle.stream_seal.specs.Feeding as sealing
use Rattle.stream_seal.specs.Receiving as seal
use Rattle.stream_seal.specs.Session as seal_session
use Rattle.stream_seal.specs.Session.{SealingValue}
use Rattle.stream_open.specs.declared.errors.OpenError.{OpenError}
use Rattle.stream_open.specs.declared.session.Opener.{Opener}
use Rattle.stream_open.specs.Asking.{BearsHeard, Heard, Nothing, served_in}
use Rattle.stream_open.specs.Receiving as opening
use Rattle.stream_open.specs.Session as open_session
use Rattle.stream_open.specs.Session.{OpeningValue}
use Rattle.desk_core.specs.declared.errors.DeskError.{DeskError}
use Rattle.desk_core.specs.declared.errors.DeskError.TheVariants as errors
use Rattle.desk_core.specs.declared.session.Session.{Session}
use Rattle.desk_core.specs.declared.live_sessions.Desk.{Desk}
use Rattle.desk_core.specs.Session.{SessionValue, Sealing, Opening, open_answer, open_error}
use Rattle.desk_core.specs.Session.{seal_error}
use Rattle.desk_core.specs.Desk.{DeskValue, open_lines}
use Rattle.desk_core.specs.Stands.{AreLive, Stands, StandsAtNumber, manager_of}

-- ---- a piece

-- A sealer was fed the piece to its end, up to a byte that can't be taken, or until the receiver
-- failed. Any error ends the session.
abbrev pub FeedsSealing : {R E T : Type 0} → (R → R → List ℕ → Type 0)
    → (R → R → List ℕ → E → Type 0) → SealingValue → List ℕ → R → R → Option SessionValue
    → Result T (FeedError DeskError E) → Type 0
FeedsSealing takes fails v piece before after left (Ok done) =
    (sealer : Sealer) × seal.SealerFedWhole takes v piece before after sealer
    × (left ≡ Some (Sealing (sealing.fed v piece)))
FeedsSealing takes fails v piece before after left (Err (failures.Receiver error)) =
    (sealer : Sealer) × seal.SealerFedUntil fails v piece error before after sealer × (left ≡ None)
FeedsSealing takes fails v piece before after left
    (Err (failures.Machine (errors.Refusal refusal))) =
    (sealer : Sealer) × seal.SealerFedShort takes v piece refusal before after sealer
    × (left ≡ None)
FeedsSealing takes fails v piece before after left (Err (failures.Machine error)) = ⊥

-- An opener was fed so, and this was heard from the manager. The desk gives its error.
abbrev pub FeedsOpening : {M R E T : Type 0} → (M → ManagerNow) → (R → R → List ℕ → Type 0)
    → (R → R → List ℕ → E → Type 0) → ℕ → OpeningValue → List ℕ → M → M → R → R → Heard
    → Option SessionValue → Result T (FeedError DeskError E) → Type 0
FeedsOpening state takes fails now v piece old new before after heard left (Ok done) =
    (opener : Opener)
    × (whole : opening.FedWhole state takes now v piece old new before after opener)
    × (heard ≡ whole.fed.heard) × (left ≡ Some (Opening whole.fed.session))
FeedsOpening state takes fails now v piece old new before after heard left
    (Err (failures.Receiver error)) =
    (opener : Opener)
    × (until : opening.FedUntil state fails now v piece error old new before after opener)
    × (heard ≡ until.fed.heard) × (left ≡ None)
FeedsOpening state takes fails now v piece old new before after heard left
    (Err (failures.Machine error)) =
    (opener : Opener) × (own : OpenError)
    × (short : opening.FedShort state takes now v piece own old new before after opener)
    × (heard ≡ short.heard) × (left ≡ None) × (error ≡ open_error own)

-- Whatever was fed to a session that seals before: it still seals, and the receiver took something;
-- or the receiver failed at something, or a byte was refused, and that ended it.
abbrev pub SealsOn : {R E T : Type 0} → (R → R → List ℕ → Type 0) → (R → R → List ℕ → E → Type 0)
    → R → R → Option SessionValue → Result T (FeedError DeskError E) → Type 0
SealsOn takes fails before after left (Ok done) =
    (given : List ℕ) × takes before after given × ((t : SealingValue) × (left ≡ Some (Sealing t)))
SealsOn takes fails before after left (Err (failures.Receiver error)) =
    (given : List ℕ) × fails before after given error × (left ≡ None)
SealsOn takes fails before after left (Err (failures.Machine (errors.Refusal refusal))) =
    (given : List ℕ) × takes before after given × (left ≡ None)
SealsOn takes fails before after left (Err (failures.Machine error)) = ⊥

-- What feeding a piece to this session comes to, where there is one; of a session that seals, where
-- each piece before was fed to its end, or this one goes on from a step. This was heard from the
-- manager, and this session is left.
abbrev pub FeedsSession : {M R E T : Type 0} → (M → ManagerNow) → (R → R → List ℕ → Type 0)
    → (R → R → List ℕ → E → Type 0) → ℕ → Option SessionValue → List ℕ → M → M → R → R → Heard
    → Option SessionValue → Result T (FeedError DeskError E) → Type 0
FeedsSession state takes fails now None piece old new before after heard left result =
    (result ≡ Err (failures.Machine errors.NotLive)) × (after ≡ before) × (new ≡ old)
    × (heard ≡ Nothing) × (left ≡ None)
FeedsSession state takes fails now (Some (Sealing v)) piece old new before after heard left result =
    (new ≡ old) × (heard ≡ Nothing) × SealsOn takes fails before after left result
    × (sealing.IsFeeding v piece → FeedsSealing takes fails v piece before after left result)
FeedsSession state takes fails now (Some (Opening v)) piece old new before after heard left result =
    FeedsOpening state takes fails now v piece old new before after heard left result

-- ---- the end

-- the final frame was taken, or the receiver failed at it
abbrev pub FinishesSealing : {R E T : Type 0} → (R → R → List ℕ → Type 0)
    → (R → R → List ℕ → E → Type 0) → SealingValue → R → R → Result T (FeedError DeskError E)
    → Type 0
FinishesSealing takes fails v before after (Ok done) =
    takes before after (seal_session.sealing_finished v).out
FinishesSealing takes fails v before after (Err (failures.Receiver error)) =
    (1 ≤ length (seal_session.sealing_finished v).out)
    × fails before after (seal_session.sealing_finished v).out error
FinishesSealing takes fails v before after (Err (failures.Machine error)) = ⊥

-- the message is whole, or it isn't, and the receiver isn't asked
abbrev pub FinishesOpening : {R E T : Type 0} → OpeningValue → R → R
    → Result T (FeedError DeskError E) → Type 0
FinishesOpening v before after (Ok done) =
    (open_session.opening_finish_answer v ≡ Ok tt) × (after ≡ before)
FinishesOpening v before after (Err (failures.Receiver error)) = ⊥
FinishesOpening v before after (Err (failures.Machine error)) =
    (open_answer (open_session.opening_finish_answer v) ≡ Err error) × (after ≡ before)

-- what ending this session comes to, where there is one
abbrev pub FinishesSession : {R E T : Type 0} → (R → R → List ℕ → Type 0)
    → (R → R → List ℕ → E → Type 0) → Option SessionValue → R → R
    → Result T (FeedError DeskError E) → Type 0
FinishesSession takes fails None before after result =
    (result ≡ Err (failures.Machine errors.NotLive)) × (after ≡ before)
FinishesSession takes fails (Some (Sealing v)) before after result =
    FinishesSealing takes fails v before after result
FinishesSession takes fails (Some (Opening v)) before after result =
    FinishesOpening v before after result

-- ---- the desk

-- the desk after such a call of this session, which added these lines and left this; nothing is
-- lent
abbrev pub handed_over : DeskValue → ℕ → List JournalLine → Option SessionValue → DeskValue
handed_over v id lines left = record {
  live = update nat_eq v.live id left;
  last = v.last;
  journal = v.journal ++ lines;
  out = [];
}

-- A piece was fed to this session at this moment, and this was heard from the manager, which bears
-- its lines so. The desk is that after the call, with a line more where materials were served.
pub record FeedsInto {M R E T : Type 0} (state : M → ManagerNow) (takes : R → R → List ℕ → Type 0)
    (fails : R → R → List ℕ → E → Type 0) (v : DeskValue) (id now : ℕ) (piece : List ℕ)
    (old new : Desk M) (before after : R) (result : Result T (FeedError DeskError E)) : Type 0 where
  pub heard : Heard
  pub left : Option SessionValue
  pub feeds : FeedsSession state takes fails now (v.live id) piece (manager_of old)
      (manager_of new) before after heard left result
  pub bears : BearsHeard (state (manager_of old)) (state (manager_of new)) now (served_in heard)
  pub stands : Stands new (handed_over v id (open_lines id now heard) left)

-- ---- one machine

-- what the desk calls the error of a sealer, or of an opener; a receiver's stays its own
abbrev pub seal_failure : {E : Type 0} → FeedError SealError E → FeedError DeskError E
seal_failure (failures.Machine error) = failures.Machine (seal_error error)
seal_failure (failures.Receiver error) = failures.Receiver error

abbrev pub open_failure : {E : Type 0} → FeedError OpenError E → FeedError DeskError E
open_failure (failures.Machine error) = failures.Machine (open_error error)
open_failure (failures.Receiver error) = failures.Receiver error

-- the machine that is left by such an answer
abbrev pub machine_by : {A T E : Type 0} → Result T E → A → Option A
machine_by (Ok done) machine = Some machine
machine_by (Err error) machine = None

-- A machine was fed so, at a moment, by the session that it stood for. It stands for the session
-- that is left, if one is, which is live.
pub record FeedsMachine {M R E T : Type 0} (state : M → ManagerNow)
    (takes : R → R → List ℕ → Type 0) (fails : R → R → List ℕ → E → Type 0) (s : SessionValue)
    (id now : ℕ) (piece : List ℕ) (old new : M) (before after : R)
    (result : Result T (FeedError DeskError E)) (machine : Session)
    (lines more : List JournalLine) : Type 0 where
  pub heard : Heard
  pub left : Option SessionValue
  pub feeds : FeedsSession state takes fails now (Some s) piece old new before after heard left
      result
  pub bears : BearsHeard (state old) (state new) now (served_in heard)
  pub journal : more ≡ lines ++ open_lines id now heard
  pub stands : StandsAtNumber (machine_by result machine) left
  pub live : result ≢ Err (failures.Machine errors.NotLive)

-- The same of the session of this number, where it is live; and these are live then.
pub record FeedsAt {M R E T : Type 0} (state : M → ManagerNow) (takes : R → R → List ℕ → Type 0)
    (fails : R → R → List ℕ → E → Type 0) (live : ℕ → Option SessionValue) (id now : ℕ)
    (piece : List ℕ) (old new : M) (before after : R) (result : Result T (FeedError DeskError E))
    (sessions : BTreeMap ℕ (Box Session)) (lines more : List JournalLine) : Type 0 where
  pub heard : Heard
  pub left : Option SessionValue
  pub feeds : FeedsSession state takes fails now (live id) piece old new before after heard left
      result
  pub bears : BearsHeard (state old) (state new) now (served_in heard)
  pub journal : more ≡ lines ++ open_lines id now heard
  pub stands : AreLive sessions (update nat_eq live id left)
  pub not_live : (result ≡ Err (failures.Machine errors.NotLive)) ↔ (live id ≡ None)
