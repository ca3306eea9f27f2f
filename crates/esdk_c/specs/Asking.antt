-- What the calls come to that ask about a message.
use Rattle.std.specs.Prelude.{◌≡◌, ℕ, ℤ, pos, Bool, false, List, Result, Ok, Err}
use Rattle.c_session.specs.declared.file_session.FileSession.{FileSession}
use Rattle.c_session.specs.declared.file_session.Kept.{Kept}
use Rattle.c_session.specs.declared.reason.Reason.{Reason}
use Rattle.c_session.specs.Front.{ListsHeaderFront}
use Rattle.c_session.specs.Reason.{code_of_reason}
use Rattle.c_session.specs.Telling.{Shows}
use Rattle.c_handle.specs.declared.handle.Handle.{Handle}
use Rattle.c_handle.specs.Handle.{HoldsSession}

-- What came is shown, and the code is 0. Or nothing came: the code says why, the number is 0, and
-- the room is as it was.
abbrev pub ShowsAll : {E : Type 0} → (E → ℕ) → Result (List ℕ) E → List ℕ → ℤ → ℕ → List ℕ → Type 0
ShowsAll code_of (Ok text) room code whole after = (code ≡ pos 0) × Shows text room whole after
ShowsAll code_of (Err error) room code whole after =
    (code ≡ pos (code_of error)) × (whole ≡ 0) × (after ≡ room)

-- The listing of the header that the bytes begin with is shown; or it is told why there is none.
pub record ListsInto (uncommitted : Bool) (message room : List ℕ) (code : ℤ) (whole : ℕ)
    (after : List ℕ) : Type 0 where
  pub came : Result (List ℕ) Reason
  pub lists : ListsHeaderFront uncommitted message came
  pub shows : ShowsAll code_of_reason came room code whole after

-- The handle holds the session that this one is behind the question. What came of it is shown, or
-- it is told why nothing did.
pub record AskedSo {E : Type 0} (new : Handle) (code_of : E → ℕ)
    (asks : Kept → Kept → Result (List ℕ) E → Type 0) (room : List ℕ) (code : ℤ) (whole : ℕ)
    (after : List ℕ) (session : FileSession) : Type 0 where
  pub left : FileSession
  pub holds : HoldsSession new left
  pub came : Result (List ℕ) E
  pub asked : asks session.kept left.kept came
  pub shows : ShowsAll code_of came room code whole after

-- So it is of the session that the handle held; a handle that held none is as it was, and the code
-- says so.
pub record AsksHandle {E : Type 0} (old new : Handle) (code_of : E → ℕ)
    (asks : Kept → Kept → Result (List ℕ) E → Type 0) (room : List ℕ) (code : ℤ) (whole : ℕ)
    (after : List ℕ) : Type 0 where
  pub closed : old.live ≡ false → (code ≡ pos 2001) × (new ≡ old) × (whole ≡ 0) × (after ≡ room)
  pub asked : (session : FileSession) → HoldsSession old session
      → AskedSo new code_of asks room code whole after session
