-- A piece that is fed to a session of the desk, the session's end, and how its job ends.
use Rattle.std.specs.Prelude.{◌≡◌, ◌≢◌, ◌⊎◌, ◌≤◌, ℕ, List, [], ◌++◌, length, take, alloc_error}
use Rattle.std.specs.Prelude.{true, is_some, Option, Some, None, Result, Ok, Err}
use Rattle.std.specs.declared.alloc.AllocError.{AllocError}
use Rattle.esdk_fields.specs.declared.faults.Fault.{Fault}
use Rattle.esdk_fields.specs.declared.refusals.Outside.TheVariants as outsides
use Rattle.esdk_base.specs.Shelf.{Files}
use Rattle.esdk_base.specs.declared.receiver.FeedError.{FeedError}
use Rattle.esdk_base.specs.declared.receiver.FeedError.TheVariants as failures
use Rattle.keyring_trait.specs.declared.journal.JournalLine.{JournalLine}
use Rattle.keyring_trait.specs.declared.journal.Kind.TheVariants.{Unseal}
use Rattle.keyring_trait.specs.declared.served.Served.{Served}
use Rattle.keyring_trait.specs.Saying.{Saying}
use Rattle.keyring_trait.specs.Unlocking.{Unlocking}
use Rattle.stream_seal.specs.Feeding as seals
use Rattle.stream_seal.specs.Session as seal
use Rattle.stream_seal.specs.Session.{SealingValue}
use Rattle.stream_open.specs.Feeding as opens
use Rattle.stream_open.specs.Session.{OpeningValue, judged_now}
use Rattle.message_format.specs.Judgement.{content, judged}
use Rattle.body_format.specs.declared.verdicts.Verdict.TheVariants.{Whole}
use Rattle.esdk_decrypt.specs.Decrypt.{fault_at_end, fault_of}
use Rattle.desk_core.specs.declared.errors.DeskError.{DeskError}
use Rattle.desk_core.specs.declared.errors.DeskError.TheVariants as errors
use Rattle.desk_core.specs.Session.{SessionValue, Sealing, Opening}
use Rattle.desk_core.specs.Desk.{DeskValue, lines_of}
use Rattle.batch_report.specs.declared.job_lines.JobEnd.{JobEnd}
use Rattle.batch_report.specs.declared.job_lines.JobEnd.TheVariants as ends
use Rattle.esdk_batch.specs.Answering.{HasAnswer, HasFailed, KeepsServed}
use Rattle.esdk_batch.specs.Files.{FileGains, KeepsOthers}

-- how a job ends whose session answers this error; want of memory ends the batch
abbrev pub EndsFor : DeskError → Result JobEnd AllocError → Type 0
EndsFor (errors.Refusal refusal) result = result ≡ Ok (ends.Refusal refusal)
EndsFor (errors.Fault fault) result = result ≡ Ok (ends.Fault fault)
EndsFor errors.KeyringFault result = result ≡ Ok (ends.Outside outsides.KeyringFault)
EndsFor errors.Memory result = result ≡ Err alloc_error
EndsFor errors.NotLive result = ⊥

-- the same of an error with which a session is fed into the end of a file, which may be the shelf's
abbrev pub JobEndsBy : {E : Type 0} → FeedError DeskError E → Result JobEnd AllocError → Type 0
JobEndsBy (failures.Machine error) result = EndsFor error result
JobEndsBy (failures.Receiver error) result = result ≡ Ok (ends.Outside outsides.ShelfFault)

-- every other session is as before, no number is drawn, and the journal gained these lines
pub record KeepsDesk (session : ℕ) (v w : DeskValue) (gained : List JournalLine) : Type 0 where
  pub others : (other : ℕ) → other ≢ session → w.live other ≡ v.live other
  pub last : w.last ≡ v.last
  pub journal : w.journal ≡ v.journal ++ gained

-- ---- a piece

-- A piece was fed to a session that seals, and the file gained the frames that it gave; or no more
-- could be taken, for this reason; or an append failed, behind a front of them.
abbrev pub JobSealsPiece : SealingValue → List ℕ → Option SessionValue → List ℕ → Option Files
    → Option Files → Option JobEnd → Type 0
JobSealsPiece s piece left to files after None =
    (left ≡ Some (Sealing (seals.fed s piece))) × (seals.feed_refusal s piece ≡ None)
    × FileGains files after to (seals.fed_out s piece)
JobSealsPiece s piece left to files after (Some (ends.Refusal refusal)) =
    (left ≡ None) × (seals.feed_refusal s piece ≡ Some refusal)
    × FileGains files after to (seals.fed_out s piece)
JobSealsPiece s piece left to files after (Some (ends.Outside outsides.ShelfFault)) =
    (left ≡ None) × ((n : ℕ) × FileGains files after to (take n (seals.fed_out s piece)))
JobSealsPiece s piece left to files after (Some end) = ⊥

-- A piece was fed to a session that opens: it goes on as this one, which keeps the manager's
-- answer, and the file gained what was released.
pub record JobOpensPiece (manager : Saying) (s : OpeningValue) (piece : List ℕ) (t : OpeningValue)
    (to : List ℕ) (files after : Option Files) : Type 0 where
  pub released : List ℕ
  pub feeds : opens.FeedsToOpener s piece t released
  pub keeps : KeepsServed manager s s.taken → KeepsServed manager t t.taken
  pub gains : FileGains files after to released

-- The bytes taken with a front of the piece are judged by an answer that the manager may give to
-- their header, whose materials were served so. The file gained so many bytes of what that releases
-- beside what the session had released.
pub record Judges (manager : Saying) (s : OpeningValue) (piece to : List ℕ)
    (files after : Option Files) (served : Option Served) (answer : Unlocking) (used count : ℕ)
    : Type 0 where
  pub released : List ℕ
  pub answered : KeepsServed manager s s.taken
      → HasAnswer manager s.settings s.given (s.taken ++ take used piece) served answer
  pub content : content (judged (s.taken ++ take used piece) s.settings answer)
      ≡ content (judged_now s) ++ released
  pub gains : FileGains files after to (take count released)

-- They have this fault, and the file gained all that was released before it.
pub record JobFindsFault (manager : Saying) (s : OpeningValue) (piece to : List ℕ)
    (files after : Option Files) (served : Option Served) (fault : Fault) : Type 0 where
  pub answer : Unlocking
  pub used : ℕ
  pub count : ℕ
  pub judges : Judges manager s piece to files after served answer used count
  pub all : length judges.released ≤ count
  pub verdict : fault_of (judged (s.taken ++ take used piece) s.settings answer).verdict
      ≡ Some fault

-- the same by how the job ended, if it did
abbrev pub PieceOpensSo : Saying → OpeningValue → List ℕ → Option SessionValue → List ℕ
    → Option Files
    → Option Files → Option Served → Option JobEnd → Type 0
PieceOpensSo manager s piece left to files after served None =
    (t : OpeningValue) × (left ≡ Some (Opening t)) × JobOpensPiece manager s piece t to files after
PieceOpensSo manager s piece left to files after served (Some (ends.Fault fault)) =
    (left ≡ None) × JobFindsFault manager s piece to files after served fault
PieceOpensSo manager s piece left to files after served
    (Some (ends.Outside outsides.KeyringFault)) =
    (left ≡ None)
    × ((used : ℕ) × HasFailed manager s.settings s.given (s.taken ++ take used piece))
    × (content (judged_now s) ≡ []) × (after ≡ files)
PieceOpensSo manager s piece left to files after served (Some (ends.Outside outsides.ShelfFault)) =
    (left ≡ None) × ((answer : Unlocking) × (used : ℕ) × (count : ℕ)
    × Judges manager s piece to files after served answer used count)
PieceOpensSo manager s piece left to files after served (Some end) = ⊥

-- a session that seals still seals, and one that opens still opens
abbrev pub JobGoesOnAs : SessionValue → Option SessionValue → Type 0
JobGoesOnAs (Sealing s) left = (t : SealingValue) × (left ≡ Some (Sealing t))
JobGoesOnAs (Opening s) left = (t : OpeningValue) × (left ≡ Some (Opening t))

-- How the materials of a session that opens were served, before these lines and after them: no line
-- came, and they are served as before; or they weren't served, and the one line that came says how
-- they are.
abbrev pub ServedOnce : ℕ → Option Served → List JournalLine → Option Served → Type 0
ServedOnce session before gained after = ((gained ≡ []) × (after ≡ before))
    ⊎ ((before ≡ None) × ((now : ℕ) × (served : Served)
    × (gained ≡ lines_of session Unseal now None (Some served)) × (after ≡ Some served)))

-- The materials of a session that opens are served so now; where the session is left, as it says,
-- and where the manager failed, not at all.
pub record Serves (session : ℕ) (s : OpeningValue) (gained : List JournalLine)
    (left : Option SessionValue) (served : Option Served) (end : Option JobEnd) : Type 0 where
  pub once : ServedOnce session s.served gained served
  pub kept : (t : OpeningValue) → left ≡ Some (Opening t) → t.served ≡ served
  pub failed : end ≡ Some (ends.Outside outsides.KeyringFault) → served ≡ None

-- of a session that seals no line comes
abbrev pub ServesSo : ℕ → SessionValue → List JournalLine → Option SessionValue → Option Served
    → Option JobEnd → Type 0
ServesSo session (Sealing s) gained left served end = gained ≡ []
ServesSo session (Opening s) gained left served end = Serves session s gained left served end

-- What feeding a piece comes to, of a session that was fed each piece before it to its end, or that
-- goes on.
abbrev pub FeedsSo : Saying → SessionValue → List ℕ → Option SessionValue → List ℕ → Option Files
    → Option Files → Option Served → Option JobEnd → Type 0
FeedsSo manager (Sealing s) piece left to files after served end =
    seals.SealerIsFed s → JobSealsPiece s piece left to files after end
FeedsSo manager (Opening s) piece left to files after served end =
    opens.GoesOn s → PieceOpensSo manager s piece left to files after served end

-- The journal gained lines; an opener's materials are served so behind it.
pub record FeedsJobPiece (manager : Saying) (session : ℕ) (s : SessionValue) (piece : List ℕ)
    (v w : DeskValue) (to : List ℕ) (files after : Option Files) (end : Option JobEnd)
    : Type 0 where
  pub gained : List JournalLine
  pub served : Option Served
  pub desk : KeepsDesk session v w gained
  pub others : KeepsOthers files after to
  pub lives : end ≡ None → JobGoesOnAs s (w.live session)
  pub over : is_some end ≡ true → w.live session ≡ None
  pub serves : ServesSo session s gained (w.live session) served end
  pub feeds : FeedsSo manager s piece (w.live session) to files after served end

-- ---- the end

-- The file gained the final frame, or what was taken is a whole message; or it isn't, or an append
-- failed.
abbrev pub FinishesSo : SessionValue → List ℕ → Option Files → Option Files → JobEnd → Type 0
FinishesSo (Sealing s) to files after ends.Done =
    FileGains files after to (seal.sealing_finished s).out
FinishesSo (Sealing s) to files after (ends.Outside outsides.ShelfFault) =
    (n : ℕ) × FileGains files after to (take n (seal.sealing_finished s).out)
FinishesSo (Sealing s) to files after end = ⊥
FinishesSo (Opening s) to files after ends.Done =
    ((judged_now s).verdict ≡ Whole) × FileGains files after to []
FinishesSo (Opening s) to files after (ends.Fault fault) =
    (fault_at_end (judged_now s).verdict ≡ Some fault) × (after ≡ files)
FinishesSo (Opening s) to files after end = ⊥

pub record EndsSession (session : ℕ) (s : SessionValue) (v w : DeskValue) (to : List ℕ)
    (files after : Option Files) (end : JobEnd) : Type 0 where
  pub desk : KeepsDesk session v w []
  pub left : w.live session ≡ None
  pub finishes : FinishesSo s to files after end
