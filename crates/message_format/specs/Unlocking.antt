-- What unlocking a header with a cryptographic materials manager comes to. AWS Encryption SDK
-- Specification, "Decrypt", "Get the decryption materials" and "Verify the header".
use Rattle.std.specs.Prelude.{◌≡◌, ◌⊎◌, ℕ, List, [], ◌∷◌, ◌++◌, Option, Some, None, ⊤}
use Rattle.esdk_fields.specs.declared.faults.Fault.{Fault}
use Rattle.context_codec.specs.Context.{KeyValue}
use Rattle.suite_table.specs.Suites.{suite_id}
use Rattle.suite_table.specs.Keys.{derived}
use Rattle.header_codec.specs.Header.{HeaderValue, lock_of}
use Rattle.keyring_trait.specs.declared.journal.JournalLine.{JournalLine}
use Rattle.keyring_trait.specs.declared.journal.Kind.TheVariants.{Unseal}
use Rattle.keyring_trait.specs.declared.manager_errors.ManagerError.TheVariants as managers
use Rattle.keyring_trait.specs.declared.served.Served.{Served}
use Rattle.keyring_trait.specs.Manager.{ManagerNow}
use Rattle.keyring_trait.specs.Materials.{DecMaterialsValue}
use Rattle.keyring_trait.specs.Requests.{DecRequestValue}
use Rattle.keyring_trait.specs.Saying.{said_last}
use Rattle.message_format.specs.declared.unlock_errors.UnlockError.{UnlockError}
use Rattle.message_format.specs.declared.unlock_errors.UnlockError.TheVariants as errors
use Rattle.message_format.specs.declared.unlocking.Unlocked.{Unlocked}
use Rattle.message_format.specs.Judgement.{lock_fault}

-- ---- the manager

-- what is asked of a manager about this header, when the caller gives these pairs
abbrev pub request_of : List KeyValue → HeaderValue → DecRequestValue
request_of given h = record {
  suite = suite_id h.suite;
  stored = h.stored;
  given = given;
  entries = h.entries;
}

-- the line of materials that were served to a session at a moment
abbrev pub unsealed : ℕ → Served → ℕ → JournalLine
unsealed session served now = record {
  session = session;
  kind = Unseal;
  served = served;
  now = now;
  length = None;
}

-- Where a manager bears the lines of what it served, it bears them later, and one line more where
-- materials were served at this moment.
abbrev pub BearsHeard : ManagerNow → ManagerNow → ℕ → Option Served → Type 0
BearsHeard old new now None = (lines : List JournalLine) → old.bears lines → new.bears lines
BearsHeard old new now (Some served) =
    (lines : List JournalLine) (session : ℕ) → old.bears lines
    → new.bears (lines ++ unsealed session served now ∷ [])

-- The manager found these materials, and bears one line more.
pub record Answered (old new : ManagerNow) (now : ℕ) (request : DecRequestValue)
    (materials : DecMaterialsValue) : Type 0 where
  pub found : (said_last old new).finds request now materials
  pub bears : BearsHeard old new now (Some materials.served)

-- The manager named this fault, or failed, or memory ran out; and it bears the lines that it bore.
abbrev pub Unanswered : ManagerNow → ManagerNow → ℕ → DecRequestValue → UnlockError → Type 0
Unanswered old new now request (errors.Fault fault) =
    (said_last old new).finds_none request (managers.Fault fault) × BearsHeard old new now None
Unanswered old new now request errors.KeyringFault =
    (said_last old new).finds_none request managers.KeyringFault × BearsHeard old new now None
Unanswered old new now request errors.Memory = BearsHeard old new now None

-- ---- the lock

-- Nothing is wrong with the lock, and what was unlocked has what the materials say, and the
-- message's key.
pub record OpensLock (u : Unlocked) (lock : HeaderValue) (m : DecMaterialsValue) : Type 0 where
  pub opens : lock_fault lock m.only m.key ≡ None
  pub whole : u.whole ≡ m.context
  pub only : u.only ≡ m.only
  pub key : u.key ≡ derived lock.suite m.key lock.message_id
  pub lock_is : u.lock ≡ lock
  pub served : u.served ≡ m.served

-- The lock has this fault, M16 or M17. Want of memory is free.
abbrev pub KeepsLock : HeaderValue → DecMaterialsValue → UnlockError → Type 0
KeepsLock lock m (errors.Fault fault) = lock_fault lock m.only m.key ≡ Some fault
KeepsLock lock m errors.KeyringFault = ⊥
KeepsLock lock m errors.Memory = ⊤

-- ---- both

-- The manager found materials for this header and the pairs given, nothing is wrong with its lock
-- with them, and they open it.
pub record IsUnlocked (old new : ManagerNow) (now : ℕ) (given : List KeyValue) (h : HeaderValue)
    (u : Unlocked) : Type 0 where
  pub materials : DecMaterialsValue
  pub answered : Answered old new now (request_of given h) materials
  pub sound : lock_fault h materials.only materials.key ≡ None
  pub opens : OpensLock u (lock_of h) materials

-- The manager found materials, and the lock has this fault with them.
pub record HasLockFault (old new : ManagerNow) (now : ℕ) (given : List KeyValue) (h : HeaderValue)
    (fault : Fault) : Type 0 where
  pub materials : DecMaterialsValue
  pub answered : Answered old new now (request_of given h) materials
  pub closed : lock_fault h materials.only materials.key ≡ Some fault

-- The manager named the fault, or else the lock has it with the materials that the manager found;
-- or the manager failed; or memory ran out, before it served any or after.
abbrev pub StaysLocked : ManagerNow → ManagerNow → ℕ → List KeyValue → HeaderValue → UnlockError
    → Type 0
StaysLocked old new now given h (errors.Fault fault) =
    Unanswered old new now (request_of given h) (errors.Fault fault)
    ⊎ HasLockFault old new now given h fault
StaysLocked old new now given h errors.KeyringFault =
    Unanswered old new now (request_of given h) errors.KeyringFault
StaysLocked old new now given h errors.Memory =
    (served : Option Served) × BearsHeard old new now served
