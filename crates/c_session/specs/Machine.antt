-- The machine of a session: what feeding and ending it comes to.
use Rattle.std.specs.Prelude.{◌≡◌, ℕ, List, ◌++◌, Option, Some, Result}
use Rattle.context_codec.specs.Context.{KeyValue}
use Rattle.header_codec.specs.declared.settings.Settings.{Settings}
use Rattle.keyring_trait.specs.Manager.{ManagerNow}
use Rattle.stream_open.specs.declared.session.Opener.{Opener}
use Rattle.stream_seal.specs.declared.session.Sealer.{Sealer}
use Rattle.stream_seal.specs.Session.{SealingValue}
use Rattle.c_session.specs.declared.machine.Machine.{Machine}
use Rattle.c_session.specs.declared.machine.Machine.TheVariants as machines
use Rattle.c_session.specs.declared.reason.Reason.{Reason}
use Rattle.reseal_core.specs.declared.resealer.Resealer.{Resealer}
use Rattle.c_session.specs.Opening.{SessionOpens, OpensEnd, SessionOpensPiece}
use Rattle.c_session.specs.Resealing.{EndsResealing, FedResealing, HowResealed, SessionReseals}
use Rattle.c_session.specs.Sealing.{Seals, SealsEnd, SessionSealsPiece}

-- ---- a piece

-- The sealer that it was is a sealer still, which took the piece so.
pub record SessionFeedsSealing {T : Type 0} (new : Machine) (v : SealingValue)
    (piece given : List ℕ)
    (waiting : List ℕ) (result : Result T Reason) : Type 0 where
  pub sealer : Sealer
  pub machine : new ≡ machines.Sealing sealer
  pub seals : SessionSealsPiece v piece given sealer waiting result

-- The opener that it was is an opener still, which took the piece so.
pub record SessionFeedsOpening {M T : Type 0} (state : M → ManagerNow) (begun manager : M)
    (new : Machine)
    (waiting : List ℕ) (settings : Settings) (pairs : List KeyValue) (taken piece given : List ℕ)
    (result : Result T Reason) : Type 0 where
  pub opener : Opener
  pub machine : new ≡ machines.Opening opener
  pub opens : SessionOpensPiece state begun manager opener waiting settings pairs taken piece given
      result

-- The resealer that it was is a resealer still, which took the piece so.
pub record SessionFeedsResealing {A B T : Type 0} (opened : A → ManagerNow)
    (sealed : B → ManagerNow) (how : HowResealed) (begun opening : A) (first : B) (there : Option B)
    (new : Machine) (taken piece put : List ℕ) (result : Result T Reason) : Type 0 where
  pub resealer : Resealer × ℕ
  pub machine : new ≡ machines.Resealing resealer
  pub reseals : FedResealing opened sealed how begun opening first there resealer taken piece put
      result

-- the machine was fed a piece
abbrev pub SessionFeedsMachine : {A B T : Type 0} → (A → ManagerNow) → (B → ManagerNow) → Machine
    → Machine → A → A → Option B → Option B → List ℕ → List ℕ → List ℕ → Result T Reason → Type 0
SessionFeedsMachine opened sealed machines.SetUp after old new there then before waiting piece
    result =
    after ≡ machines.SetUp
SessionFeedsMachine opened sealed (machines.Sealing sealer) after old new there then before waiting
    piece result =
    (v : SealingValue) (given : List ℕ) → Seals sealer before v given
    → SessionFeedsSealing after v piece given waiting result
SessionFeedsMachine {A} opened sealed (machines.Opening opener) after old new there then before
    waiting piece result =
    (begun : A) (settings : Settings) (pairs : List KeyValue) (taken given : List ℕ)
    → SessionOpens opened begun old opener before settings pairs taken given
    → SessionFeedsOpening opened begun new after waiting settings pairs taken piece given result
SessionFeedsMachine {A} {B} opened sealed (machines.Resealing resealer) after old new there then
    before waiting piece result =
    (how : HowResealed) (begun : A) (first sealing : B) (taken given : List ℕ)
    → there ≡ Some sealing
    → SessionReseals opened sealed how begun old first sealing resealer taken (given ++ before)
    → SessionFeedsResealing opened sealed how begun new first then after taken piece
    (given ++ waiting) result

-- ---- the end

-- the machine was ended
abbrev pub EndsMachine : {A B T : Type 0} → (A → ManagerNow) → (B → ManagerNow) → Machine → Machine
    → A → Option B → List ℕ → List ℕ → Result T Reason → Type 0
EndsMachine opened sealed machines.SetUp after manager there before waiting result =
    after ≡ machines.SetUp
EndsMachine opened sealed (machines.Sealing sealer) after manager there before waiting result =
    (v : SealingValue) (given : List ℕ) → Seals sealer before v given
    → SealsEnd v given waiting result
EndsMachine {A} opened sealed (machines.Opening opener) after manager there before waiting result =
    (begun : A) (settings : Settings) (pairs : List KeyValue) (taken given : List ℕ)
    → SessionOpens opened begun manager opener before settings pairs taken given
    → OpensEnd opened begun manager waiting settings pairs taken given result
EndsMachine opened sealed (machines.Resealing resealer) after manager there before waiting result =
    EndsResealing opened sealed manager there resealer before waiting result
