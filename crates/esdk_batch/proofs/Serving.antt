-- How the materials of a session were served to which bytes are fed, and which lines the journal gains of that.
use Rattle.std.proofs.Common.{◌≡◌, ℕ, List, ◌++◌, Some, None, inl, inr, refl}
use Rattle.header_codec.specs.Header.{HeaderValue}
use Rattle.keyring_trait.specs.Saying.{Saying}
use Rattle.stream_open.specs.Asking.{Heard, Nothing, Found, Named, Failed, IsHeard}
use Rattle.stream_open.specs.Session.{OpeningValue, asked_header, keeping}
use Rattle.stream_open.proofs.AnyCut.{asked_by}
use Rattle.desk_core.specs.Desk.{open_lines}
use Rattle.desk_core.specs.Session.{Opening}
use Rattle.desk_core.specs.Stands.{IsLive}
use Rattle.esdk_batch.specs.Ending.{ServedOnce}

-- the manager is asked where the session keeps no answer of it, and wasn't served
unserved : (v : OpeningValue) (piece : List ℕ) (h : HeaderValue) → IsLive (Opening v) → asked_header v piece ≡ Some h → v.served ≡ None
unserved v piece h live asked = live.1 (asked_by v.stopped v.answer v.settings (v.taken ++ piece) h asked)

pub heard_once : (asking : Saying) (asked_at : ℕ) (session now : ℕ) (v : OpeningValue) (piece : List ℕ) (short : Type 0) (heard : Heard) → IsLive (Opening v) → IsHeard asking asked_at v.given (asked_header v piece) short heard
    → ServedOnce session v.served (open_lines session now heard) (keeping v heard).served
heard_once asking asked_at session now v piece short Nothing live hears = inl (refl, refl)
heard_once asking asked_at session now v piece short (Found m) live (h, asked, finds) = inr (unserved v piece h live asked, (now, m.served, refl, refl))
heard_once asking asked_at session now v piece short (Named fault) live hears = inl (refl, refl)
heard_once asking asked_at session now v piece short Failed live hears = inl (refl, refl)

-- where the manager failed they weren't
pub failed_unserved : (asking : Saying) (asked_at : ℕ) (v : OpeningValue) (piece : List ℕ) (short : Type 0) (heard : Heard) → heard ≡ Failed → IsLive (Opening v) → IsHeard asking asked_at v.given (asked_header v piece) short heard
    → (keeping v heard).served ≡ None
failed_unserved asking asked_at v piece short Nothing is live hears = absurd cc
failed_unserved asking asked_at v piece short (Found m) is live hears = absurd cc
failed_unserved asking asked_at v piece short (Named fault) is live hears = absurd cc
failed_unserved asking asked_at v piece short Failed is live (h, asked, none) = unserved v piece h live asked
