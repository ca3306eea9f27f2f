-- The beginning of a session that seals a message, and what is recorded of it.
use Rattle.std.specs.Prelude.{◌≡◌, ℕ, ◌++◌, List, [], Bool, Option, Some, None, ⊤, Result, Ok, Err}
use Rattle.std.specs.Global.{Box}
use Rattle.esdk_fields.specs.declared.refusals.Refusal.{Refusal}
use Rattle.keyring_trait.specs.declared.journal.JournalLine.{JournalLine}
use Rattle.keyring_trait.specs.Materials.{EncMaterialsValue}
use Rattle.keyring_trait.specs.Saying.{Saying}
use Rattle.stream_seal.specs.Session.{new_sealing_session}
use Rattle.desk_core.specs.declared.errors.DeskError.{DeskError}
use Rattle.desk_core.specs.declared.errors.DeskError.TheVariants as errors
use Rattle.desk_core.specs.declared.session.Session.{Session}
use Rattle.desk_core.specs.SealRequest.{SealRequestValue}
use Rattle.desk_core.specs.Session.{SessionValue, Sealing, Turn, Reply, seal_opened}
use Rattle.desk_core.specs.Desk.{seal_lines}
use Rattle.desk_core.specs.Stands.{StandsFor, IsLive}
use Rattle.desk_core.specs.Calls.{IsReply}

-- no session begins for that reason; want of memory is free
abbrev pub NotBegun : Option Refusal → DeskError → Type 0
NotBegun refusal errors.NotLive = ⊥
NotBegun refusal (errors.Refusal r) = refusal ≡ Some r
NotBegun refusal (errors.Fault fault) = ⊥
NotBegun refusal errors.KeyringFault = ⊥
NotBegun refusal errors.Memory = ⊤

-- a session begins with these materials, in frames of this length, under this id
abbrev pub begun_value : EncMaterialsValue → SealRequestValue → List ℕ → SessionValue
begun_value m request id = Sealing (new_sealing_session m request.wish.declared request.size id)

-- the machine is that of the session that is left; or there is an error, and none is left
abbrev pub DeskBeginsAs : Turn ℕ → ℕ → Result (Box Session) DeskError → Type 0
DeskBeginsAs turn id (Ok machine) =
    (s : SessionValue) × (turn.answer ≡ Ok id) × (turn.left ≡ Some s) × (turn.out ≡ [])
    × StandsFor machine.value s × IsLive s
DeskBeginsAs turn id (Err error) = (turn.answer ≡ Err error) × (turn.left ≡ None) × (turn.out ≡ [])

-- The manager said this, and the journal has one line more where it gave materials.
pub record DeskBegins (manager : Saying) (request : SealRequestValue) (id now : ℕ) (random : List ℕ)
    (result : Result (Box Session) DeskError) (before after : List JournalLine) : Type 0 where
  pub reply : Reply
  pub short : Bool
  pub replies : IsReply manager request now random short reply
  pub journal : after ≡ before ++ seal_lines id now request reply
  pub begins : DeskBeginsAs (seal_opened request random reply short id) id result
