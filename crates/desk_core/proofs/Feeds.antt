-- A piece that is fed: the desk after it, and what its manager bears.
use Rattle.std.proofs.Common.{◌≡◌, ℕ, ◌<◌, List, [], ◌++◌, Bool, nat_eq, Option, Some, None, Result, Ok, Err, refl, sym, ap, subst, ◌∙◌}
use Rattle.std.proofs.lemmas.List.{append-nil}
use Rattle.std.proofs.lemmas.Map.{update_here}
use Rattle.std.specs.Map.{update}
use Rattle.keyring_trait.specs.declared.journal.JournalLine.{JournalLine}
use Rattle.keyring_trait.specs.declared.journal.Kind.TheVariants.{Unseal}
use Rattle.keyring_trait.specs.declared.served.Served.{Served}
use Rattle.keyring_trait.specs.Manager.{ManagerNow}
use Rattle.stream_open.specs.Asking.{BearsHeard, Heard}
use Rattle.desk_core.specs.declared.errors.DeskError.{DeskError}
use Rattle.desk_core.specs.declared.live_sessions.Desk.{Desk}
use Rattle.desk_core.specs.declared.live_sessions.Lent.{Lent}
use Rattle.desk_core.specs.declared.live_sessions.Lent.TheVariants as lents
use Rattle.desk_core.specs.Session.{SessionValue, Turn, answered, desk_fed, session_out, desk_step_answer, desk_stepped}
use Rattle.desk_core.specs.Desk.{DeskValue, lines_of, open_lines}
use Rattle.desk_core.specs.Calls.{DeskFeeds}
use Rattle.desk_core.specs.Stands.{AreLive, Lends}
use Rattle.desk_core.specs.Steps.{StepsAt}
use Rattle.desk_core.proofs.Desks.{NoneAbove, stands_quiet, stands_turn}

-- ---- the turn, by its answer

-- the session is live still, and gave this
record Goes (turn : Turn ℕ) : Type 0 where
  session : SessionValue
  left : turn.left ≡ Some session
  out : turn.out ≡ session_out session

goes_answered : (r : Result ℕ DeskError) (s : SessionValue) (n : ℕ) → Ok n ≡ (answered r s (Some s)).answer → Goes (answered r s (Some s))
goes_answered (Ok used) s n e = record { session = s; left = refl; out = refl }
goes_answered (Err error) s n e = absurd (cc)

goes_fed : (o : Option SessionValue) (piece : List ℕ) (heard : Heard) (short : Bool) (n : ℕ) → Ok n ≡ (desk_fed o piece heard short).answer → Goes (desk_fed o piece heard short)
goes_fed None piece heard short n e = absurd (cc)
goes_fed (Some s) piece heard short n e = goes_answered (desk_step_answer s piece heard short) (desk_stepped s piece heard short) n e

-- nothing is left, and nothing given
record Stops (turn : Turn ℕ) : Type 0 where
  left : turn.left ≡ None
  out : turn.out ≡ []

stops_answered : (r : Result ℕ DeskError) (s : SessionValue) (error : DeskError) → Err error ≡ (answered r s (Some s)).answer → Stops (answered r s (Some s))
stops_answered (Ok used) s error e = absurd (cc)
stops_answered (Err other) s error e = record { left = refl; out = refl }

stops_fed : (o : Option SessionValue) (piece : List ℕ) (heard : Heard) (short : Bool) (error : DeskError) → Err error ≡ (desk_fed o piece heard short).answer → Stops (desk_fed o piece heard short)
stops_fed None piece heard short error e = record { left = refl; out = refl }
stops_fed (Some s) piece heard short error e = stops_answered (desk_step_answer s piece heard short) (desk_stepped s piece heard short) error e

-- ---- the desk

pub feeds_ok : {M : Type 0} (m n : ManagerNow) (next : Desk M) (v : DeskValue) (id now : ℕ) (piece : List ℕ) (used : ℕ) (before : List JournalLine)
    → StepsAt m n v.live id now piece (Ok used) next.sessions before next.journal.items → before ≡ v.journal → NoneAbove v.live v.last → next.last_id ≡ v.last → next.lent ≡ lents.Live id
    → DeskFeeds m n v id now piece (Ok used) next
feeds_ok m n next v id now piece used before step same above last lent =
    let turn : Turn ℕ = desk_fed (v.live id) piece step.heard step.short in
    let goes : Goes turn = goes_fed (v.live id) piece step.heard step.short used step.answer in
    let s : SessionValue = goes.session in
    let live : ℕ → Option SessionValue = update nat_eq v.live id (Some s) in
    let dead : v.last < id → Some s ≡ None = λ h. sym goes.left ∙ ap (λ (o : Option SessionValue). (desk_fed o piece step.heard step.short).left) (above id h) in
    let alive : AreLive next.sessions live = subst (λ (o : Option SessionValue). AreLive next.sessions (update nat_eq v.live id o)) goes.left step.left in
    let lends : Lends next.lent live (session_out s) = subst (λ (l : Lent). Lends l live (session_out s)) (sym lent) (s, update_here v.live id (Some s), refl) in
    record {
      heard = step.heard;
      short = step.short;
      hears = step.hears;
      bears = step.bears;
      answer = step.answer;
      stands = stands_turn next v id (open_lines id now step.heard) turn (Some s) (session_out s) goes.left goes.out above dead alive last
          (step.journal ∙ ap (λ (l : List JournalLine). l ++ open_lines id now step.heard) same) lends;
    }

pub feeds_err : {M : Type 0} (m n : ManagerNow) (next : Desk M) (v : DeskValue) (id now : ℕ) (piece : List ℕ) (error : DeskError) (before : List JournalLine)
    → StepsAt m n v.live id now piece (Err error) next.sessions before next.journal.items → before ≡ v.journal → NoneAbove v.live v.last → next.last_id ≡ v.last → next.lent ≡ lents.Nothing
    → DeskFeeds m n v id now piece (Err error) next
feeds_err m n next v id now piece error before step same above last lent =
    let turn : Turn ℕ = desk_fed (v.live id) piece step.heard step.short in
    let stops : Stops turn = stops_fed (v.live id) piece step.heard step.short error step.answer in
    record {
      heard = step.heard;
      short = step.short;
      hears = step.hears;
      bears = step.bears;
      answer = step.answer;
      stands = stands_quiet next v id (open_lines id now step.heard) turn stops.left stops.out above
          (subst (λ (o : Option SessionValue). AreLive next.sessions (update nat_eq v.live id o)) stops.left step.left) last
          (step.journal ∙ ap (λ (l : List JournalLine). l ++ open_lines id now step.heard) same) lent;
    }

-- ---- the journal

-- a manager that bears the journal bears it with the line that is added
pub bears_then : (m n : ManagerNow) (id now : ℕ) (served : Option Served) (before after : List JournalLine) → BearsHeard m n now served
    → after ≡ before ++ lines_of id Unseal now None served → m.bears before → n.bears after
bears_then m n id now None before after on e bore = subst n.bears (sym (e ∙ append-nil before)) (on before bore)
bears_then m n id now (Some served) before after on e bore = subst n.bears (sym e) (on before id bore)
