-- The desk after a call, by what its session came to.
use Rattle.std.proofs.Common.{◌≡◌, ℕ, ◌<◌, List, [], ◌++◌, true, false, cond, nat_eq, Option, Some, None, Result, Ok, Err, refl, sym, ap, subst, ◌∙◌}
use Rattle.std.proofs.lemmas.Bool.{eqb-true}
use Rattle.std.proofs.lemmas.List.{append-nil}
use Rattle.std.specs.Prelude.{option_map, box_value}
use Rattle.std.specs.BTreeMap.{BTreeMap, get, is_at}
use Rattle.std.specs.Global.{Box}
use Rattle.std.specs.Map.{update}
use Rattle.std.specs.Ordering.{nat_cmp}
use Rattle.keyring_trait.specs.declared.journal.JournalLine.{JournalLine}
use Rattle.desk_core.specs.declared.errors.DeskError.{DeskError}
use Rattle.desk_core.specs.declared.errors.DeskError.TheVariants as errors
use Rattle.desk_core.specs.declared.session.Session.{Session}
use Rattle.desk_core.specs.declared.live_sessions.Desk.{Desk}
use Rattle.desk_core.specs.declared.live_sessions.Lent.{Lent}
use Rattle.desk_core.specs.declared.live_sessions.Lent.TheVariants as lents
use Rattle.desk_core.specs.Session.{SessionValue, Turn, answered, session_out, ended, dropped, desk_finish_answer, desk_finished}
use Rattle.desk_core.specs.Desk.{DeskValue, after_turn}
use Rattle.desk_core.specs.Stands.{StandsFor, IsLive, StandsAtNumber, AreLive, machine_at, Lends, Stands}
use Rattle.desk_core.proofs.Live.{answered_is, are_live_after}

-- ---- numbers

-- no number is live that wasn't drawn
abbrev pub NoneAbove : (ℕ → Option SessionValue) → ℕ → Type 0
NoneAbove live last = (id : ℕ) → last < id → live id ≡ None

none_above_after : (live : ℕ → Option SessionValue) (last id : ℕ) (left : Option SessionValue) → NoneAbove live last → (last < id → left ≡ None) → NoneAbove (update nat_eq live id left) last
none_above_after live last id left before none q above =
    (elim (nat_eq id q) as (λ b. nat_eq id q ≡ b → cond b left (live q) ≡ None)
    [ true ↦ λ e. let same : id ≡ q = eqb-true id q e in none (rw same above) | false ↦ λ e. before q above ]) refl

-- ---- any call

-- the desk stands for the sessions after the call, by what its turn left and gave
pub stands_turn : {M A : Type 0} (next : Desk M) (v : DeskValue) (id : ℕ) (lines : List JournalLine) (turn : Turn A) (left : Option SessionValue) (out : List ℕ) → turn.left ≡ left → turn.out ≡ out
    → NoneAbove v.live v.last → (v.last < id → left ≡ None) → AreLive next.sessions (update nat_eq v.live id left) → next.last_id ≡ v.last → next.journal.items ≡ v.journal ++ lines
    → Lends next.lent (update nat_eq v.live id left) out → Stands next (after_turn v id lines turn)
stands_turn next v id lines turn left out is gives above none alive last journal lends = record {
  sessions = subst (λ (o : Option SessionValue). AreLive next.sessions (update nat_eq v.live id o)) (sym is) alive;
  undrawn = none_above_after v.live v.last id turn.left above (λ h. is ∙ none h);
  last = last;
  journal = journal;
  out = subst (λ (o : Option SessionValue). Lends next.lent (update nat_eq v.live id o) turn.out) (sym is)
      (subst (λ (l : List ℕ). Lends next.lent (update nat_eq v.live id left) l) (sym gives) lends);
}

-- the same of a call that leaves and gives nothing
pub stands_quiet : {M A : Type 0} (next : Desk M) (v : DeskValue) (id : ℕ) (lines : List JournalLine) (turn : Turn A) → turn.left ≡ None → turn.out ≡ [] → NoneAbove v.live v.last
    → AreLive next.sessions (update nat_eq v.live id None) → next.last_id ≡ v.last → next.journal.items ≡ v.journal ++ lines → next.lent ≡ lents.Nothing → Stands next (after_turn v id lines turn)
stands_quiet next v id lines turn is gives above alive last journal lent =
    stands_turn next v id lines turn None [] is gives above (λ h. refl) alive last journal (subst (λ (l : Lent). Lends l (update nat_eq v.live id None) []) (sym lent) refl)

-- ---- which session has a number

pub dead_at : (sessions : BTreeMap ℕ (Box Session)) (live : ℕ → Option SessionValue) (id : ℕ) → AreLive sessions live → None ≡ get nat_cmp sessions id → live id ≡ None
dead_at sessions live id alive none = by (live id) refl
  where
    by : (o : Option SessionValue) → live id ≡ o → live id ≡ None
    by None e = e
    by (Some s) e =
        absurd (subst (λ (p : Option (Box Session)). StandsAtNumber (option_map box_value p) (Some s)) (sym none) (subst (λ (o : Option SessionValue). StandsAtNumber (machine_at sessions id) o) e (alive id)))

-- The machine of this number stands for its session.
pub record LiveAt (live : ℕ → Option SessionValue) (id : ℕ) (machine : Box Session) : Type 0 where
  pub session : SessionValue
  pub there : live id ≡ Some session
  pub stands : StandsFor machine.value session
  pub goes : IsLive session

pub live_at : (sessions : BTreeMap ℕ (Box Session)) (live : ℕ → Option SessionValue) (id : ℕ) (machine : Box Session) → AreLive sessions live → Some machine ≡ get nat_cmp sessions id → LiveAt live id machine
live_at sessions live id machine alive there = by (live id) refl
  where
    at : (o : Option SessionValue) → live id ≡ o → StandsAtNumber (Some machine.value) o
    at o e = subst (λ (p : Option (Box Session)). StandsAtNumber (option_map box_value p) o) (sym there) (subst (λ (p : Option SessionValue). StandsAtNumber (machine_at sessions id) p) e (alive id))

    by : (o : Option SessionValue) → live id ≡ o → LiveAt live id machine
    by None e = absurd (at None e)
    by (Some s) e = record { session = s; there = e; stands = (at (Some s) e).0; goes = (at (Some s) e).1 }

-- the number is taken out
pub removed : (old new : BTreeMap ℕ (Box Session)) (live : ℕ → Option SessionValue) (id : ℕ) → AreLive old live → ((q : ℕ) → get nat_cmp new q ≡ cond (is_at (nat_cmp id) q) None (get nat_cmp old q))
    → AreLive new (update nat_eq live id None)
removed old new live id alive updates = are_live_after old new live id None None alive updates tt

-- ---- the end

-- what `end` comes to: the answer, and the desk after it
pub record EndsTurn {M : Type 0} (v : DeskValue) (id : ℕ) (result : Result (Unit {0}) DeskError) (next : Desk M) : Type 0 where
  pub answer : result ≡ (ended (v.live id)).answer
  pub stands : Stands next (after_turn v id [] (ended (v.live id)))

pub ends_none : {M : Type 0} (next : Desk M) (v : DeskValue) (id : ℕ) → NoneAbove v.live v.last → AreLive next.sessions (update nat_eq v.live id None) → next.last_id ≡ v.last
    → next.journal.items ≡ v.journal → next.lent ≡ lents.Nothing → v.live id ≡ None → EndsTurn v id (Err errors.NotLive) next
ends_none next v id above alive last journal lent none = record {
  answer = sym (ap (λ (o : Option SessionValue). (ended o).answer) none);
  stands = stands_quiet next v id [] (ended (v.live id)) (ap (λ (o : Option SessionValue). (ended o).left) none) (ap (λ (o : Option SessionValue). (ended o).out) none) above alive last
      (journal ∙ sym (append-nil v.journal)) lent;
}

pub ends_err : {M : Type 0} (next : Desk M) (v : DeskValue) (id : ℕ) (machine : Box Session) (error : DeskError) → NoneAbove v.live v.last → AreLive next.sessions (update nat_eq v.live id None)
    → next.last_id ≡ v.last → next.journal.items ≡ v.journal → next.lent ≡ lents.Nothing → (at : LiveAt v.live id machine) → desk_finish_answer at.session ≡ Err error → EndsTurn v id (Err error) next
ends_err next v id machine error above alive last journal lent at fails =
    let s : SessionValue = at.session in
    let turn : Result (Unit {0}) DeskError → Turn (Unit {0}) = λ r. answered r (desk_finished s) None in
    record {
      answer = sym (ap (λ (o : Option SessionValue). (ended o).answer) at.there ∙ ap (λ (r : Result (Unit {0}) DeskError). (turn r).answer) fails);
      stands = stands_quiet next v id [] (ended (v.live id)) (ap (λ (o : Option SessionValue). (ended o).left) at.there ∙ ap (λ (r : Result (Unit {0}) DeskError). (turn r).left) fails)
          (ap (λ (o : Option SessionValue). (ended o).out) at.there ∙ ap (λ (r : Result (Unit {0}) DeskError). (turn r).out) fails) above alive last (journal ∙ sym (append-nil v.journal)) lent;
    }

pub ends_ok : {M : Type 0} (next : Desk M) (v : DeskValue) (id : ℕ) (machine then : Box Session) → NoneAbove v.live v.last → AreLive next.sessions (update nat_eq v.live id None)
    → next.last_id ≡ v.last → next.journal.items ≡ v.journal → next.lent ≡ lents.Ended then → (at : LiveAt v.live id machine) → desk_finish_answer at.session ≡ Ok tt
    → StandsFor then.value (desk_finished at.session) → EndsTurn v id (Ok tt) next
ends_ok next v id machine then above alive last journal lent at goes stands =
    let s : SessionValue = at.session in
    let turn : Result (Unit {0}) DeskError → Turn (Unit {0}) = λ r. answered r (desk_finished s) None in
    record {
      answer = sym (ap (λ (o : Option SessionValue). (ended o).answer) at.there ∙ ap (λ (r : Result (Unit {0}) DeskError). (turn r).answer) goes);
      stands = stands_turn next v id [] (ended (v.live id)) None (session_out (desk_finished s))
          (ap (λ (o : Option SessionValue). (ended o).left) at.there ∙ ap (λ (r : Result (Unit {0}) DeskError). (turn r).left) goes)
          (ap (λ (o : Option SessionValue). (ended o).out) at.there ∙ ap (λ (r : Result (Unit {0}) DeskError). (turn r).out) goes) above (λ h. refl) alive last (journal ∙ sym (append-nil v.journal))
          (subst (λ (l : Lent). Lends l (update nat_eq v.live id None) (session_out (desk_finished s))) (sym lent) (desk_finished s, stands, refl));
    }

-- the answer alone
pub ends_answer : (v : DeskValue) (id : ℕ) (machine : Box Session) (result : Result (Unit {0}) DeskError) → (at : LiveAt v.live id machine) → desk_finish_answer at.session ≡ result
    → result ≡ (ended (v.live id)).answer
ends_answer v id machine result at is =
    sym (ap (λ (o : Option SessionValue). (ended o).answer) at.there ∙ answered_is (desk_finish_answer at.session) (desk_finished at.session) None ∙ is)

-- ---- a session that is dropped

pub record DropsSo {M : Type 0} (v : DeskValue) (id : ℕ) (result : Result (Unit {0}) DeskError) (next : Desk M) : Type 0 where
  pub answer : result ≡ (dropped (v.live id)).answer
  pub stands : Stands next (after_turn v id [] (dropped (v.live id)))

pub drops : {M : Type 0} (next : Desk M) (v : DeskValue) (id : ℕ) (o : Option SessionValue) → NoneAbove v.live v.last → AreLive next.sessions (update nat_eq v.live id None)
    → next.last_id ≡ v.last → next.journal.items ≡ v.journal → next.lent ≡ lents.Nothing → v.live id ≡ o → DropsSo v id (dropped o).answer next
drops next v id o above alive last journal lent there =
    let turn : Turn (Unit {0}) = dropped (v.live id) in
    record {
      answer = sym (ap (λ (p : Option SessionValue). (dropped p).answer) there);
      stands = stands_quiet next v id [] turn (nothing_left (v.live id)) (nothing_given (v.live id)) above alive last (journal ∙ sym (append-nil v.journal)) lent;
    }
  where
    nothing_left : (p : Option SessionValue) → (dropped p).left ≡ None
    nothing_left None = refl
    nothing_left (Some s) = refl

    nothing_given : (p : Option SessionValue) → (dropped p).out ≡ []
    nothing_given None = refl
    nothing_given (Some s) = refl
