-- A step of one session over the manager, and what is recorded of it.
use Rattle.std.specs.Prelude.{◌≡◌, ℕ, ◌++◌, List, Bool, Option, Some, IfOk, Result, nat_eq}
use Rattle.std.specs.BTreeMap.{BTreeMap}
use Rattle.std.specs.Global.{Box}
use Rattle.std.specs.Map.{update}
use Rattle.keyring_trait.specs.declared.journal.JournalLine.{JournalLine}
use Rattle.keyring_trait.specs.Manager.{ManagerNow}
use Rattle.keyring_trait.specs.Saying.{said_last}
use Rattle.stream_open.specs.Asking.{BearsHeard, Heard, served_in}
use Rattle.stream_open.specs.declared.errors.OpenError.{OpenError}
use Rattle.stream_open.specs.declared.session.Opener.{Opener}
use Rattle.stream_open.specs.Session.{OpeningValue}
use Rattle.stream_open.specs.Stands as open_stands
use Rattle.desk_core.specs.declared.errors.DeskError.{DeskError}
use Rattle.desk_core.specs.declared.session.Session.{Session}
use Rattle.desk_core.specs.Session.{SessionValue, open_answer, desk_step_answer, desk_stepped}
use Rattle.desk_core.specs.Session.{desk_fed}
use Rattle.desk_core.specs.Desk.{open_lines}
use Rattle.desk_core.specs.Stands.{StandsFor, IsLive, AreLive}
use Rattle.desk_core.specs.Calls.{MayHear}

-- A step of an opener at a moment, over a manager that was so and is so now: what it comes to
-- there, by its own answer, which the desk gives as its error.
pub record StepsOpener (old new : ManagerNow) (now : ℕ) (v : OpeningValue) (piece : List ℕ)
    (result : Result ℕ DeskError) (opener : Opener) : Type 0 where
  pub own : Result ℕ OpenError
  pub steps : open_stands.OpenerSteps old new now v piece own opener
  pub answer : result ≡ open_answer own

-- This was heard in the step, the manager bears its lines so, and the journal has one line more
-- where it answered with materials. The answer is the session's; where it is no error, the machine
-- stands for the session after the step, which is live.
pub record DeskSteps (old new : ManagerNow) (s : SessionValue) (id now : ℕ) (piece : List ℕ)
    (result : Result ℕ DeskError) (machine : Session)
    (before after : List JournalLine) : Type 0 where
  pub heard : Heard
  pub short : Bool
  pub hears : MayHear (said_last old new) now (Some s) piece heard short
  pub bears : BearsHeard old new now (served_in heard)
  pub journal : after ≡ before ++ open_lines id now heard
  pub answer : result ≡ desk_step_answer s piece heard short
  pub stands : IfOk result (λ _. StandsFor machine (desk_stepped s piece heard short))
  pub live : IfOk result (λ _. IsLive (desk_stepped s piece heard short))

-- The same of the session of this number, where it is live: what is live after it are the others,
-- and what the step left of this one.
pub record StepsAt (old new : ManagerNow) (live : ℕ → Option SessionValue) (id now : ℕ)
    (piece : List ℕ) (result : Result ℕ DeskError) (sessions : BTreeMap ℕ (Box Session))
    (before after : List JournalLine) : Type 0 where
  pub heard : Heard
  pub short : Bool
  pub hears : MayHear (said_last old new) now (live id) piece heard short
  pub bears : BearsHeard old new now (served_in heard)
  pub journal : after ≡ before ++ open_lines id now heard
  pub answer : result ≡ (desk_fed (live id) piece heard short).answer
  pub left : AreLive sessions (update nat_eq live id (desk_fed (live id) piece heard short).left)
