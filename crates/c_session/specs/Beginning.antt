-- How a text that is sealed begins.
use Rattle.std.specs.Prelude.{◌≡◌, ◌⊎◌, ℕ, List, [], take, drop, Option, None}
use Rattle.keyring_trait.specs.declared.manager_errors.ManagerError.{ManagerError}
use Rattle.keyring_trait.specs.declared.manager_errors.ManagerError.TheVariants as managers
use Rattle.keyring_trait.specs.Materials.{EncMaterialsValue}
use Rattle.keyring_trait.specs.Requests.{EncRequestValue}
use Rattle.keyring_trait.specs.Saying.{Saying}
use Rattle.stream_seal.specs.declared.session.Sealer.{Sealer}
use Rattle.stream_seal.specs.Session.{new_sealing_session}
use Rattle.stream_seal.specs.Start.{start_refusal}
use Rattle.c_session.specs.declared.reason.Reason.{Reason}
use Rattle.c_session.specs.declared.reason.Reason.TheVariants as reasons
use Rattle.c_session.specs.Sealing.{Seals, SealsNot}

-- The manager gave these materials for the request, with the random bytes behind the first 32; and
-- a message with them begins, in frames of so many bytes, whose id is the first 32. Nothing is
-- given yet: its header waits.
pub record SessionBeginsWith (manager : Saying) (request : EncRequestValue) (size : ℕ)
    (max_keys : Option ℕ) (random : List ℕ) (sealer : Sealer) (waiting : List ℕ) : Type 0 where
  pub materials : EncMaterialsValue
  pub gives : manager.gives request 0 (drop 32 random) materials
  pub unrefused : start_refusal materials max_keys (take 32 random) ≡ None
  pub seals : Seals sealer waiting
      (new_sealing_session materials request.declared size (take 32 random)) []

-- why a manager gives no materials
abbrev pub manager_reason : ManagerError → Reason
manager_reason (managers.Refusal refusal) = reasons.Refusal refusal
manager_reason (managers.Fault fault) = reasons.Fault fault
manager_reason managers.KeyringFault = reasons.Keyring
manager_reason managers.Memory = reasons.Memory

-- Why no message begins: the manager gave no materials for the request, or none can begin with
-- those that it gave.
abbrev pub SessionBeginsNot : Saying → EncRequestValue → Option ℕ → List ℕ → Reason → Type 0
SessionBeginsNot manager request max_keys random reason =
    ((error : ManagerError) × manager.gives_none request error × (reason ≡ manager_reason error))
    ⊎ ((materials : EncMaterialsValue) × manager.gives request 0 (drop 32 random) materials
    × SealsNot (start_refusal materials max_keys (take 32 random)) reason)
