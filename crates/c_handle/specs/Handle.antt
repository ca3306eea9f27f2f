-- What a handle holds, and what its calls come to.
use Rattle.std.specs.Prelude.{◌≡◌, true, false, Option, Some, None}
use Rattle.std.specs.Global.{Box}
use Rattle.c_session.specs.declared.file_session.FileSession.{FileSession}
use Rattle.c_handle.specs.declared.handle.Handle.{Handle}

-- the handle holds this session
abbrev pub HoldsSession : Handle → FileSession → Type 0
HoldsSession handle session = (handle.live ≡ true) × (handle.held.home ≡ Some session)

-- the handle holds no session
abbrev pub HoldsNoSession : Handle → Type 0
HoldsNoSession handle = (handle.live ≡ false) × (handle.held.home ≡ None)

-- the session was taken out, where there was one
abbrev pub TakesSession : Handle → Option (Box FileSession) → Handle → Type 0
TakesSession old None new = HoldsNoSession old × (new ≡ old)
TakesSession old (Some session) new = HoldsSession old session.value × HoldsNoSession new
