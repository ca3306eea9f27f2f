-- A session that is opened: no error of it says that it isn't live, and where there is none it is.
use Rattle.std.proofs.Common.{◌≡◌, ℕ, Bool, true, false, List, refl, ap, ◌∙◌}
use Rattle.std.specs.Prelude.{Option, Some, None, Ok, Err, nat_eq}
use Rattle.std.specs.Map.{update}
use Rattle.std.proofs.lemmas.Map.{update_here}
use Rattle.esdk_fields.specs.declared.refusals.Refusal.{Refusal}
use Rattle.context_codec.specs.Context.{KeyValue}
use Rattle.header_codec.specs.declared.settings.Settings.{Settings}
use Rattle.keyring_trait.specs.Materials.{EncMaterialsValue}
use Rattle.stream_seal.specs.Start.{start_refusal, drawn_id}
use Rattle.desk_core.specs.declared.errors.DeskError.{DeskError}
use Rattle.desk_core.specs.declared.errors.DeskError.TheVariants.{NotLive}
use Rattle.desk_core.specs.SealRequest.{SealRequestValue}
use Rattle.desk_core.specs.Session.{Fails, Gives, NoReply, Refuses, Reply, SessionValue, Turn, begun_turn, open_opened, seal_opened}

pub open_error_lives : (settings : Settings) (given : List KeyValue) (short : Bool) (id : ℕ) (error : DeskError) → Err error ≡ (open_opened settings given short id).answer → error ≡ NotLive → ⊥
open_error_lives settings given true id error is dead = cc
open_error_lives settings given false id error is dead = absurd cc

begun_lives : (request : SealRequestValue) (random : List ℕ) (m : EncMaterialsValue) (id : ℕ) (refusal : Option Refusal) (error : DeskError) → Err error ≡ (begun_turn request random m id refusal).answer
    → error ≡ NotLive → ⊥
begun_lives request random m id None error is dead = absurd cc
begun_lives request random m id (Some refusal) error is dead = cc

pub seal_error_lives : (request : SealRequestValue) (random : List ℕ) (reply : Reply) (short : Bool) (id : ℕ) (error : DeskError) → Err error ≡ (seal_opened request random reply short id).answer
    → error ≡ NotLive → ⊥
seal_error_lives request random NoReply short id error is dead = cc
seal_error_lives request random (Gives m) true id error is dead = cc
seal_error_lives request random (Gives m) false id error is dead = begun_lives request random m id (start_refusal m request.max_keys (drawn_id random)) error is dead
seal_error_lives request random (Refuses refusal) short id error is dead = cc
seal_error_lives request random Fails short id error is dead = cc

begun_none : (request : SealRequestValue) (random : List ℕ) (m : EncMaterialsValue) (id : ℕ) (refusal : Option Refusal) (error : DeskError) → Err error ≡ (begun_turn request random m id refusal).answer
    → (begun_turn request random m id refusal).left ≡ None
begun_none request random m id None error is = absurd cc
begun_none request random m id (Some refusal) error is = refl

-- a session that answers an error isn't live
pub seal_error_none : (request : SealRequestValue) (random : List ℕ) (reply : Reply) (short : Bool) (id : ℕ) (error : DeskError) → Err error ≡ (seal_opened request random reply short id).answer
    → (seal_opened request random reply short id).left ≡ None
seal_error_none request random NoReply short id error is = refl
seal_error_none request random (Gives m) true id error is = refl
seal_error_none request random (Gives m) false id error is = begun_none request random m id (start_refusal m request.max_keys (drawn_id random)) error is
seal_error_none request random (Refuses refusal) short id error is = refl
seal_error_none request random Fails short id error is = refl

-- ---- a session that was opened

-- The call answered the number that was drawn, and a session is left.
pub record IsOpened (turn : Turn ℕ) (id session : ℕ) : Type 0 where
  pub left : SessionValue
  pub is : turn.left ≡ Some left
  pub same : session ≡ id

pub open_lives : (settings : Settings) (given : List KeyValue) (short : Bool) (id session : ℕ) → Ok session ≡ (open_opened settings given short id).answer → IsOpened (open_opened settings given short id) id session
open_lives settings given true id session is = absurd cc
open_lives settings given false id session is = let same : session ≡ id = cc in record { left = _; is = refl; same = same }

begun_opened : (request : SealRequestValue) (random : List ℕ) (m : EncMaterialsValue) (id session : ℕ) (refusal : Option Refusal) → Ok session ≡ (begun_turn request random m id refusal).answer
    → IsOpened (begun_turn request random m id refusal) id session
begun_opened request random m id session None is = let same : session ≡ id = cc in record { left = _; is = refl; same = same }
begun_opened request random m id session (Some refusal) is = absurd cc

pub seal_lives : (request : SealRequestValue) (random : List ℕ) (reply : Reply) (short : Bool) (id session : ℕ) → Ok session ≡ (seal_opened request random reply short id).answer
    → IsOpened (seal_opened request random reply short id) id session
seal_lives request random NoReply short id session is = absurd cc
seal_lives request random (Gives m) true id session is = absurd cc
seal_lives request random (Gives m) false id session is = begun_opened request random m id session (start_refusal m request.max_keys (drawn_id random)) is
seal_lives request random (Refuses refusal) short id session is = absurd cc
seal_lives request random Fails short id session is = absurd cc

-- it is live at the desk
pub live_after : (live : ℕ → Option SessionValue) (turn : Turn ℕ) (id session : ℕ) (o : IsOpened turn id session) → update nat_eq live id turn.left session ≡ Some o.left
live_after live turn id session o = ap (update nat_eq live id turn.left) o.same ∙ update_here live id turn.left ∙ o.is
