-- The session is taken out, and what it gave at its end is lent.
use Rattle.std.proofs.Common.{Err, refl}
use Rattle.std.proofs.lemmas.Result.{err_from_is_err_and}
use Rattle.desk_core.specs.declared.live_sessions.Desk.{Desk}
use Rattle.desk_core.specs.declared.live_sessions.Lent.TheVariants as lents
use Rattle.desk_core.proofs.Desks.{ends_answer, ends_err, ends_ok, live_at, removed}
use Rattle.desk_core.proofs.StillLive.{ended_not_live}
use Rattle.desk_core.proofs.live_sessions.Desk.end.Goals as goal

pub returns-in_ok-session-in-Some-clause-stands : goal.returns-in_ok-session-in-Some-clause-stands
returns-in_ok-session-in-Some-clause-stands g c = λ v stands.
    let at = live_at c.args.self.now.sessions v.live c.args.id c.in-Some.session stands.sessions c.in-Some.ensures.value in
    let next : Desk g.row.M.Denot =
    record { manager = c.args.self.now.manager; sessions = c.remove.new.self; last_id = c.args.self.now.last_id; journal = c.args.self.now.journal; lent = lents.Ended c.in_ok-session-in-Some.session } in
    (ends_ok next v c.args.id c.in-Some.session c.in_ok-session-in-Some.session stands.undrawn (removed c.args.self.now.sessions c.remove.new.self v.live c.args.id stands.sessions c.remove.ensures.updates.0) stands.last
    stands.journal refl at (c.in_ok-session-in-Some.ensures.answer at.session at.stands) (c.in_ok-session-in-Some.ensures.ok at.session at.stands)).stands

pub returns-in_err-session-in-Some-clause-stands : goal.returns-in_err-session-in-Some-clause-stands
returns-in_err-session-in-Some-clause-stands g c = λ v stands.
    let at = live_at c.args.self.now.sessions v.live c.args.id c.in-Some.session stands.sessions c.in-Some.ensures.value in
    let next : Desk g.row.M.Denot = record { manager = c.args.self.now.manager; sessions = c.remove.new.self; last_id = c.args.self.now.last_id; journal = c.args.self.now.journal; lent = lents.Nothing } in
    (ends_err next v c.args.id c.in-Some.session c.in_err-session-in-Some.field-0.0 stands.undrawn (removed c.args.self.now.sessions c.remove.new.self v.live c.args.id stands.sessions c.remove.ensures.updates.0) stands.last
    stands.journal refl at (c.in_err-session-in-Some.ensures.err at.session at.stands)).stands

pub returns-in_err-session-in-Some-clause-not_live : goal.returns-in_err-session-in-Some-clause-not_live
returns-in_err-session-in-Some-clause-not_live g c = λ v stands.
    let at = live_at c.args.self.now.sessions v.live c.args.id c.in-Some.session stands.sessions c.in-Some.ensures.value in
    let p = err_from_is_err_and c.from_residual.result c.from_residual.ensures.1 in
    rw (p.1, p.2) (ended_not_live c.args.self.now.sessions v.live c.args.id (Err c.in_err-session-in-Some.field-0.0) stands.sessions
    (ends_answer v c.args.id c.in-Some.session (Err c.in_err-session-in-Some.field-0.0) at (c.in_err-session-in-Some.ensures.err at.session at.stands)))
