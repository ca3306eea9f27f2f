-- What trying the manager's materials on a header's lock comes to.
use Rattle.std.proofs.Common.{◌≡◌, ℕ, List, Some, Result, Ok, Err, IfOk, IfErr, refl, sym, ap, subst, ◌∙◌, inr}
use Rattle.context_codec.specs.Context.{KeyValue}
use Rattle.header_codec.specs.Header.{HeaderValue, lock_of}
use Rattle.keyring_trait.specs.Manager.{ManagerNow}
use Rattle.keyring_trait.specs.Materials.{DecMaterialsValue}
use Rattle.message_format.specs.declared.unlock_errors.UnlockError.{UnlockError}
use Rattle.message_format.specs.declared.unlock_errors.UnlockError.TheVariants as errors
use Rattle.message_format.specs.declared.unlocking.Unlocked.{Unlocked}
use Rattle.message_format.specs.Judgement.{lock_fault}
use Rattle.message_format.specs.Unlocking.{request_of, Answered, OpensLock, KeepsLock, IsUnlocked, StaysLocked}

-- the lock of a header is unlocked as the header is
pub lock_same : (h : HeaderValue) (only : List KeyValue) (key : List ℕ) → lock_fault (lock_of h) only key ≡ lock_fault h only key
unfolding lock_fault
lock_same h only key = refl

-- the same where the lock is known by an equation
fault_is : (h lock : HeaderValue) (only : List KeyValue) (key : List ℕ) → lock ≡ lock_of h → lock_fault h only key ≡ lock_fault lock only key
fault_is h lock only key is = sym (lock_same h only key) ∙ ap (λ (l : HeaderValue). lock_fault l only key) (sym is)

-- The manager answered, so the header is unlocked where its lock is.
pub lock_opened : (old new : ManagerNow) (now : ℕ) (given : List KeyValue) (h lock : HeaderValue) (m : DecMaterialsValue) (r : Result Unlocked UnlockError)
    → Answered old new now (request_of given h) m → lock ≡ lock_of h → IfOk r (λ u. OpensLock u lock m) → IfOk r (IsUnlocked old new now given h)
lock_opened old new now given h lock m (Ok u) answered is opens = record {
  materials = m;
  answered = answered;
  sound = fault_is h lock m.only m.key is ∙ opens.opens;
  opens = subst (λ (l : HeaderValue). OpensLock u l m) is opens;
}
lock_opened old new now given h lock m (Err error) answered is opens = tt

-- The manager answered, so what the lock says is why the header stays locked.
pub kept_locked : (old new : ManagerNow) (now : ℕ) (given : List KeyValue) (h lock : HeaderValue) (m : DecMaterialsValue) (r : Result Unlocked UnlockError)
    → Answered old new now (request_of given h) m → lock ≡ lock_of h → IfErr r (KeepsLock lock m) → IfErr r (StaysLocked old new now given h)
kept_locked old new now given h lock m (Ok u) answered is kept = tt
kept_locked old new now given h lock m (Err (errors.Fault fault)) answered is kept =
    inr (record { materials = m; answered = answered; closed = fault_is h lock m.only m.key is ∙ kept })
kept_locked old new now given h lock m (Err errors.KeyringFault) answered is kept = absurd kept
kept_locked old new now given h lock m (Err errors.Memory) answered is kept = (Some m.served, answered.bears)
