-- The opener that is made live stands for a session that took nothing; where there is no memory for it, none is live.
use Rattle.std.proofs.Common.{ℕ, ◌+◌, Err, refl, sym, ap, subst}
use Rattle.std.proofs.lemmas.Result.{err_from_is_err_and}
use Rattle.stream_open.specs.Session.{new_opening_session}
use Rattle.desk_core.specs.declared.session.Session.{Session}
use Rattle.desk_core.specs.declared.live_sessions.Desk.{Desk}
use Rattle.desk_core.specs.declared.live_sessions.Lent.TheVariants as lents
use Rattle.desk_core.specs.Session.{Opening}
use Rattle.desk_core.specs.Stands.{StandsFor}
use Rattle.desk_core.proofs.Openings.{opens_open_at}
use Rattle.desk_core.proofs.live_sessions.Desk.open_open.Goals as goal

pub returns-clause-opens : goal.returns-clause-opens
returns-clause-opens g c = λ v stands.
    let next : Desk g.row.M.Denot = record { manager = c.args.self.now.manager; sessions = c.insert.new.sessions; last_id = c.args.self.now.last_id + 1; journal = c.args.self.now.journal; lent = lents.Nothing } in
    let machine = subst (λ (m : Session). StandsFor m (Opening (new_opening_session c.args.settings c.args.given))) (sym c.in_ok-session.ensures.value) c.new-opener.ensures in
    opens_open_at next v c.args.settings c.args.given c.insert.result (c.args.self.now.last_id + 1) (ap (λ (n : ℕ). n + 1) stands.last) stands.undrawn refl stands.journal refl c.insert.ensures.number
    c.insert.ensures.memory (c.insert.ensures.ok v.live (Opening (new_opening_session c.args.settings c.args.given)) stands.sessions machine (refl, λ none. refl)) (c.insert.ensures.err v.live stands.sessions)

pub returns-in_err-session-clause-opens : goal.returns-in_err-session-clause-opens
returns-in_err-session-clause-opens g c = λ v stands.
    let next : Desk g.row.M.Denot = record { manager = c.args.self.now.manager; sessions = c.args.self.now.sessions; last_id = c.args.self.now.last_id + 1; journal = c.args.self.now.journal; lent = lents.Nothing } in
    let p = err_from_is_err_and c.from_residual.result c.from_residual.ensures.1 in
    rw (p.1, p.2) (opens_open_at next v c.args.settings c.args.given (Err c.in_err-session.field-0.0) (c.args.self.now.last_id + 1) (ap (λ (n : ℕ). n + 1) stands.last) stands.undrawn refl stands.journal refl tt
    c.in_err-session.ensures.memory tt stands.sessions)
