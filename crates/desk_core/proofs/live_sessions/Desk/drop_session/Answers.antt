-- The session is taken out, whatever it was worth.
use Rattle.std.proofs.Common.{Option, Some, None, refl, sym, ap}
use Rattle.desk_core.specs.declared.live_sessions.Desk.{Desk}
use Rattle.desk_core.specs.declared.live_sessions.Lent.TheVariants as lents
use Rattle.desk_core.specs.Session.{SessionValue, dropped}
use Rattle.desk_core.proofs.Desks.{dead_at, drops, live_at, removed}
use Rattle.desk_core.proofs.live_sessions.Desk.drop_session.Goals as goal

pub returns-in-Some-clause-answer : goal.returns-in-Some-clause-answer
returns-in-Some-clause-answer g c = λ v stands.
    let at = live_at c.args.self.now.sessions v.live c.args.id c.in-Some.session stands.sessions c.in-Some.ensures.value in
    sym (ap (λ (o : Option SessionValue). (dropped o).answer) at.there)

pub returns-in-Some-clause-stands : goal.returns-in-Some-clause-stands
returns-in-Some-clause-stands g c = λ v stands.
    let at = live_at c.args.self.now.sessions v.live c.args.id c.in-Some.session stands.sessions c.in-Some.ensures.value in
    let next : Desk g.row.M.Denot = record { manager = c.args.self.now.manager; sessions = c.remove.new.self; last_id = c.args.self.now.last_id; journal = c.args.self.now.journal; lent = lents.Nothing } in
    (drops next v c.args.id (Some at.session) stands.undrawn (removed c.args.self.now.sessions c.remove.new.self v.live c.args.id stands.sessions c.remove.ensures.updates.0) stands.last stands.journal refl
    at.there).stands

pub returns-in-None-clause-answer : goal.returns-in-None-clause-answer
returns-in-None-clause-answer g c = λ v stands.
    sym (ap (λ (o : Option SessionValue). (dropped o).answer) (dead_at c.args.self.now.sessions v.live c.args.id stands.sessions c.in-None.ensures.value))

pub returns-in-None-clause-stands : goal.returns-in-None-clause-stands
returns-in-None-clause-stands g c = λ v stands.
    let next : Desk g.row.M.Denot = record { manager = c.args.self.now.manager; sessions = c.remove.new.self; last_id = c.args.self.now.last_id; journal = c.args.self.now.journal; lent = lents.Nothing } in
    (drops next v c.args.id None stands.undrawn (removed c.args.self.now.sessions c.remove.new.self v.live c.args.id stands.sessions c.remove.ensures.updates.0) stands.last stands.journal refl
    (dead_at c.args.self.now.sessions v.live c.args.id stands.sessions c.in-None.ensures.value)).stands
