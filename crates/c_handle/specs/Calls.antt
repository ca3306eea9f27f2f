-- What an export comes to: of a handle that holds a session, what the session's call comes to.
use Rattle.std.specs.Prelude.{◌≡◌, ◌⊎◌, ℕ, ℤ, pos, negsuc, Bool, true, false, List, length, Option}
use Rattle.std.specs.Prelude.{None, Some}
use Rattle.c_session.specs.declared.answer.Answer.{Answer}
use Rattle.c_session.specs.declared.file_session.FileSession.{FileSession}
use Rattle.c_session.specs.declared.file_session.Kept.{Kept}
use Rattle.c_session.specs.FileSession.{SessionReadsFile, TakesKept, answer_code, first_answer}
use Rattle.c_session.specs.FileSession.{reason_kept, waiting_in}
use Rattle.c_handle.specs.declared.handle.Handle.{Handle}
use Rattle.c_handle.specs.Handle.{HoldsSession, HoldsNoSession}

-- The handle holds a session that this one became by the call, and the code is its answer's.
pub record CalledSo (new : Handle) (code : ℤ) (call : Answer → Kept → Kept → Type 0)
    (session : FileSession) : Type 0 where
  pub answer : Answer
  pub after : FileSession
  pub holds : HoldsSession new after
  pub told : code ≡ pos (answer_code answer (reason_kept after.kept))
  pub called : call answer session.kept after.kept

-- So it is of the session that the handle held; a handle that held none is as it was, and the code
-- says so.
pub record CallsSession (old new : Handle) (code : ℤ) (call : Answer → Kept → Kept → Type 0)
    : Type 0 where
  pub closed : old.live ≡ false → (code ≡ pos 2001) × (new ≡ old)
  pub called : (session : FileSession) → HoldsSession old session → CalledSo new code call session

-- ---- a new session

-- The handle holds the session over the tree of the keyring file in these bytes, and the code is
-- that of its first answer; or it holds none, since memory ran out.
abbrev pub MakesSession : List ℕ → Handle → ℤ → Type 0
MakesSession file new code =
    ((session : FileSession) × HoldsSession new session × SessionReadsFile file session.kept
    × (code ≡ pos (answer_code (first_answer session.kept) (reason_kept session.kept))))
    ⊎ (HoldsNoSession new × (code ≡ pos 5000))

-- ---- what is handed out

-- Nothing was handed out; or of what waits as much as the room has room for.
abbrev pub HandsUnless : Bool → Kept → Kept → List ℕ → ℕ → List ℕ → Type 0
HandsUnless true old new room written after = (new ≡ old) × (written ≡ 0) × (after ≡ room)
HandsUnless false old new room written after = TakesKept old room written new after

-- So it was, and so many bytes wait still.
pub record HandsOutBy (silent : Bool) (old new : Kept) (room : List ℕ) (written waits : ℕ)
    (after : List ℕ) : Type 0 where
  pub out : HandsUnless silent old new room written after
  pub left : waits ≡ length (waiting_in new)

-- The session became another by the call, and of what waited then so much was handed out.
pub record CallGoesOn (call : Kept → Type 0) (silent : Bool) (new : Kept) (room : List ℕ)
    (written waits : ℕ) (after : List ℕ) : Type 0 where
  pub between : Kept
  pub called : call between
  pub hands : HandsOutBy silent between new room written waits after

-- nothing is handed out, and nothing waits
abbrev pub HandsNothing : List ℕ → ℕ → ℕ → List ℕ → Type 0
HandsNothing room written waits after = (written ≡ 0) × (waits ≡ 0) × (after ≡ room)

-- ---- what is told

-- This is told of the session, which the handle holds still. A handle that holds none stays so, and
-- that is told.
pub record Tells (old new : Handle) (tells : Kept → Type 0) (none : Type 0) : Type 0 where
  pub closed : old.live ≡ false → (new ≡ old) × none
  pub told : (session : FileSession) → HoldsSession old session
      → HoldsSession new session × tells session.kept

-- a number, or -1 where there is none
abbrev pub number_or : Option ℕ → ℤ
number_or None = negsuc 0
number_or (Some number) = pos number

-- the number is told of the session, where there is one
abbrev pub TellsNumber : ℤ → (Option ℕ → Kept → Type 0) → Kept → Type 0
TellsNumber code tells kept = (number : Option ℕ) × (code ≡ number_or number) × tells number kept

-- nothing is shown, and -1 is told
abbrev pub TellsNone : List ℕ → ℤ → List ℕ → Type 0
TellsNone room code after = (code ≡ number_or None) × (after ≡ room)
