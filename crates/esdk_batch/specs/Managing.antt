-- What the manager of a batch's desk keeps from one moment to a later one, and says between.
use Rattle.keyring_trait.specs.Manager.{ManagerNow, Went}
use Rattle.keyring_trait.specs.Saying.{Admits, said_between}
use Rattle.desk_core.specs.declared.live_sessions.Desk.{Desk}
use Rattle.desk_core.specs.Stands.{journal_of, manager_of}

-- All that a manager keeps; and where it bore the desk's journal, it bears it still. `state` says
-- what a manager of this type is.
pub record ManagerWent {M : Type 0} (state : M → ManagerNow) (old new : Desk M) : Type 0 where
  pub went : Went (state (manager_of old)) (state (manager_of new))
  pub bears : (state (manager_of old)).bears (journal_of old)
      → (state (manager_of new)).bears (journal_of new)

-- Whatever it says between these moments, a manager may say that was `first` and is `last`.
abbrev pub SaysWithin : {M : Type 0} → (M → ManagerNow) → (first last : M) → (old new : Desk M)
    → Type 0
SaysWithin state first last old new =
    Admits (said_between (state first) (state last))
    (said_between (state (manager_of old)) (state (manager_of new)))
