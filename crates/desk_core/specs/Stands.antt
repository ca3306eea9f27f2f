-- When a desk stands for the sessions that are live at it.
use Rattle.std.specs.Prelude.{◌≡◌, ℕ, ◌<◌, List, [], ⊤, false, Option, Some, None, option_map}
use Rattle.std.specs.Prelude.{box_value}
use Rattle.std.specs.BTreeMap.{BTreeMap, get}
use Rattle.std.specs.Global.{Box}
use Rattle.std.specs.Ordering.{nat_cmp}
use Rattle.keyring_trait.specs.declared.journal.JournalLine.{JournalLine}
use Rattle.stream_seal.specs.Stands as seal
use Rattle.stream_open.specs.Stands as open_stands
use Rattle.desk_core.specs.declared.session.Session.{Session}
use Rattle.desk_core.specs.declared.session.Session.TheVariants as machines
use Rattle.desk_core.specs.declared.live_sessions.Desk.{Desk}
use Rattle.desk_core.specs.declared.live_sessions.Lent.{Lent}
use Rattle.desk_core.specs.declared.live_sessions.Lent.TheVariants as lents
use Rattle.desk_core.specs.Session.{SessionValue, Sealing, Opening, session_out}
use Rattle.desk_core.specs.Desk.{DeskValue}

-- ---- one session

-- a sealer stands for a message that is sealed, an opener for one that is opened
abbrev pub StandsFor : Session → SessionValue → Type 0
StandsFor (machines.Sealing sealer) (Sealing v) = seal.Stands sealer v
StandsFor (machines.Sealing sealer) (Opening v) = ⊥
StandsFor (machines.Opening opener) (Sealing v) = ⊥
StandsFor (machines.Opening opener) (Opening v) = open_stands.Stands opener v

-- It isn't stopped; and it was served only where it keeps an answer of the manager.
abbrev pub IsLive : SessionValue → Type 0
IsLive (Sealing v) = v.stopped ≡ false
IsLive (Opening v) = (v.stopped ≡ false) × (v.answer ≡ None → v.served ≡ None)

-- it stands for a session that is live, as every machine of a desk does
abbrev pub HasMachine : Session → Type 0
HasMachine machine = (s : SessionValue) × StandsFor machine s × IsLive s

-- there is such a session in both, or none in either
abbrev pub StandsAtNumber : Option Session → Option SessionValue → Type 0
StandsAtNumber None None = ⊤
StandsAtNumber None (Some s) = ⊥
StandsAtNumber (Some machine) None = ⊥
StandsAtNumber (Some machine) (Some s) = StandsFor machine s × IsLive s

-- the machine of this number, if there is one, which is kept in a box
abbrev pub machine_at : BTreeMap ℕ (Box Session) → ℕ → Option Session
machine_at sessions id = option_map box_value (get nat_cmp sessions id)

-- each number has a machine that stands for its session, where it is live, and else none
abbrev pub AreLive : BTreeMap ℕ (Box Session) → (ℕ → Option SessionValue) → Type 0
AreLive sessions live = (id : ℕ) → StandsAtNumber (machine_at sessions id) (live id)

-- they are the machines of a desk
abbrev pub HasMachines : BTreeMap ℕ (Box Session) → Type 0
HasMachines sessions = (live : ℕ → Option SessionValue) × AreLive sessions live

-- ---- the desk

-- the manager of a desk, and the lines of its journal
abbrev pub manager_of : {M : Type 0} → Desk M → M
manager_of desk = desk.manager

abbrev pub journal_of : {M : Type 0} → Desk M → List JournalLine
journal_of desk = desk.journal.items

-- the number that it drew last
abbrev pub last_of : {M : Type 0} → Desk M → ℕ
last_of desk = desk.last_id

-- What was given last: nothing, what a live session gave, or what a session gave when it was ended,
-- which is kept.
abbrev pub Lends : Lent → (ℕ → Option SessionValue) → List ℕ → Type 0
Lends lents.Nothing live out = out ≡ []
Lends (lents.Live id) live out = (s : SessionValue) × (live id ≡ Some s) × (out ≡ session_out s)
Lends (lents.Ended machine) live out =
    (s : SessionValue) × StandsFor machine.value s × (out ≡ session_out s)

-- Its machines stand for the sessions that are live, none of whose numbers wasn't drawn; and its
-- last number, its journal and what it gave last are those.
pub record Stands {M : Type 0} (desk : Desk M) (v : DeskValue) : Type 0 where
  pub sessions : AreLive desk.sessions v.live
  pub undrawn : (id : ℕ) → v.last < id → v.live id ≡ None
  pub last : desk.last_id ≡ v.last
  pub journal : desk.journal.items ≡ v.journal
  pub out : Lends desk.lent v.live v.out

-- the desk is worth something: a new desk is, and every call keeps that
abbrev pub IsWorth : {M : Type 0} → Desk M → Type 0
IsWorth desk = (v : DeskValue) × Stands desk v

-- ---- a loop of steps

-- what a loop still has to do that feeds so many bytes to a session to their end
abbrev pub work_in : Option Session → ℕ → ℕ
work_in None count = count
work_in (Some (machines.Sealing sealer)) count = seal.work_of sealer count
work_in (Some (machines.Opening opener)) count = count

-- the same, of the session of this number
abbrev pub work_at : {M : Type 0} → Desk M → ℕ → ℕ → ℕ
work_at desk id count = work_in (machine_at desk.sessions id) count
