-- What each call of a desk comes to, and what the manager may say in it.
use Rattle.std.specs.Prelude.{◌≡◌, ℕ, ◌+◌, ◌≤◌, List, All, length, Bool, true, false, Option, Some}
use Rattle.std.specs.Prelude.{None, Result}
use Rattle.stream_seal.specs.Start.{drawn_rest}
use Rattle.keyring_trait.specs.declared.manager_errors.ManagerError.TheVariants as managers
use Rattle.keyring_trait.specs.Manager.{ManagerNow}
use Rattle.keyring_trait.specs.Materials.{EncMaterialsValue}
use Rattle.keyring_trait.specs.Saying.{Saying, said_last}
use Rattle.header_codec.specs.declared.settings.Settings.{Settings}
use Rattle.context_codec.specs.Context.{IsContext, KeyValue}
use Rattle.edk_codec.specs.Entry.{IsEntry}
use Rattle.stream_open.specs.Asking.{BearsHeard, Heard, Nothing, IsHeard, served_in}
use Rattle.stream_open.specs.Session.{asked_header, MayRunOut}
use Rattle.desk_core.specs.declared.errors.DeskError.{DeskError}
use Rattle.desk_core.specs.declared.live_sessions.Desk.{Desk}
use Rattle.desk_core.specs.SealRequest.{SealRequestValue}
use Rattle.desk_core.specs.Session.{SessionValue, Sealing, Opening, Reply, NoReply, Gives, Refuses}
use Rattle.desk_core.specs.Session.{Fails, desk_fed, seal_opened, open_opened}
use Rattle.desk_core.specs.Desk.{DeskValue, OpenSeal, OpenOpen, Feed, after_desk_call}
use Rattle.desk_core.specs.Stands.{Stands}

-- ---- a session that is opened to seal a message

-- Materials of which a header can always be made, as those of the type `EncMaterials` are: their
-- context is one, and their entries are at most 64, with no part that is too long.
pub record MaterialsAreWritable (materials : EncMaterialsValue) : Type 0 where
  pub context : IsContext materials.context
  pub few : length materials.entries ≤ 64
  pub each : All IsEntry materials.entries

-- The manager says so to the request, with the random bytes behind the message id; `short` says
-- that memory ran out, before it answered or behind that.
abbrev pub IsReply : Saying → SealRequestValue → ℕ → List ℕ → Bool → Reply → Type 0
IsReply manager request now random short NoReply = short ≡ true
IsReply manager request now random short (Gives materials) =
    manager.gives request.wish now (drawn_rest random) materials × MaterialsAreWritable materials
IsReply manager request now random short (Refuses refusal) =
    manager.gives_none request.wish (managers.Refusal refusal) × (short ≡ false)
IsReply manager request now random short Fails =
    manager.gives_none request.wish managers.KeyringFault × (short ≡ false)

-- The next number was drawn, and the manager said this. The answer and the desk are those of this
-- call.
pub record OpensSeal {M : Type 0} (manager : Saying) (v : DeskValue) (request : SealRequestValue)
    (now : ℕ) (random : List ℕ) (result : Result ℕ DeskError) (desk : Desk M) : Type 0 where
  pub reply : Reply
  pub short : Bool
  pub replies : IsReply manager request now random short reply
  pub answer : result ≡ (seal_opened request random reply short (v.last + 1)).answer
  pub stands : Stands desk (after_desk_call v (v.last + 1) short
      (OpenSeal request now random reply))

-- ---- a session that is opened to open a message

-- The next number was drawn. The answer and the desk are those of this call, in which memory ran
-- out or not.
pub record OpensOpen {M : Type 0} (v : DeskValue) (settings : Settings) (given : List KeyValue)
    (result : Result ℕ DeskError) (desk : Desk M) : Type 0 where
  pub short : Bool
  pub answer : result ≡ (open_opened settings given short (v.last + 1)).answer
  pub stands : Stands desk (after_desk_call v (v.last + 1) short (OpenOpen settings given))

-- ---- a piece that is fed

-- What may be heard in a step at this moment: of a message that is opened, what the manager answers
-- to the header that is asked about, and nothing where none is; of another one nothing. Memory may
-- run out of a message that is opened, until content was given of it, or its header is unlocked and
-- its body framed.
abbrev pub MayHear : Saying → ℕ → Option SessionValue → List ℕ → Heard → Bool → Type 0
MayHear manager now None piece heard short = (heard ≡ Nothing) × (short ≡ false)
MayHear manager now (Some (Sealing v)) piece heard short = (heard ≡ Nothing) × (short ≡ false)
MayHear manager now (Some (Opening v)) piece heard short =
    IsHeard manager now v.given (asked_header v piece) (short ≡ true) heard
    × (short ≡ true → MayRunOut v)

-- Over a manager that was so and is so now: this was heard in the step, and the manager bears its
-- lines so. The answer and the desk are those of this call.
pub record DeskFeeds {M : Type 0} (old new : ManagerNow) (v : DeskValue) (id now : ℕ)
    (piece : List ℕ)
    (result : Result ℕ DeskError) (desk : Desk M) : Type 0 where
  pub heard : Heard
  pub short : Bool
  pub hears : MayHear (said_last old new) now (v.live id) piece heard short
  pub bears : BearsHeard old new now (served_in heard)
  pub answer : result ≡ (desk_fed (v.live id) piece heard short).answer
  pub stands : Stands desk (after_desk_call v id short (Feed now piece heard))
