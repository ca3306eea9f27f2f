-- What the step comes to is what the desk comes to.
use Rattle.std.proofs.Common.{Ok, Err, refl}
use Rattle.std.proofs.lemmas.Result.{err_from_is_err_and}
use Rattle.stream_open.specs.Asking.{served_in}
use Rattle.desk_core.specs.declared.live_sessions.Desk.{Desk}
use Rattle.desk_core.specs.declared.live_sessions.Lent.TheVariants as lents
use Rattle.desk_core.proofs.Feeds.{bears_then, feeds_err, feeds_ok}
use Rattle.desk_core.proofs.StillLive.{fed_not_live}
use Rattle.desk_core.proofs.live_sessions.Desk.feed.Goals as goal

pub returns-clause-feeds : goal.returns-clause-feeds
returns-clause-feeds g c = λ v stands.
    let next : Desk g.row.M.Denot =
    record { manager = c.step_at.new.manager; sessions = c.step_at.new.sessions; last_id = c.args.self.now.last_id; journal = c.step_at.new.journal; lent = lents.Live c.args.id } in
    feeds_ok (g.M.Manager.state c.args.self.now.manager) (g.M.Manager.state c.step_at.new.manager) next v c.args.id c.args.now c.args.piece.now c.in_ok-used.used c.args.self.now.journal.items (c.in_ok-used.ensures.steps v.live stands.sessions) stands.journal stands.undrawn stands.last refl

pub returns-in_err-used-clause-feeds : goal.returns-in_err-used-clause-feeds
returns-in_err-used-clause-feeds g c = λ v stands.
    let next : Desk g.row.M.Denot = record { manager = c.step_at.new.manager; sessions = c.step_at.new.sessions; last_id = c.args.self.now.last_id; journal = c.step_at.new.journal; lent = lents.Nothing } in
    let p = err_from_is_err_and c.from_residual.result c.from_residual.ensures.1 in
    rw (p.1, p.2) (feeds_err (g.M.Manager.state c.args.self.now.manager) (g.M.Manager.state c.step_at.new.manager) next v c.args.id c.args.now c.args.piece.now c.in_err-used.field-0.0 c.args.self.now.journal.items (c.in_err-used.ensures.steps v.live stands.sessions) stands.journal stands.undrawn stands.last refl)

pub returns-clause-bears : goal.returns-clause-bears
returns-clause-bears g c = λ v stands bore.
    let step = c.in_ok-used.ensures.steps v.live stands.sessions in
    bears_then (g.M.Manager.state c.args.self.now.manager) (g.M.Manager.state c.step_at.new.manager) c.args.id c.args.now (served_in step.heard) c.args.self.now.journal.items c.step_at.new.journal.items
    step.bears step.journal bore

pub returns-in_err-used-clause-bears : goal.returns-in_err-used-clause-bears
returns-in_err-used-clause-bears g c = λ v stands bore.
    let step = c.in_err-used.ensures.steps v.live stands.sessions in
    bears_then (g.M.Manager.state c.args.self.now.manager) (g.M.Manager.state c.step_at.new.manager) c.args.id c.args.now (served_in step.heard) c.args.self.now.journal.items c.step_at.new.journal.items
    step.bears step.journal bore

pub returns-in_err-used-clause-not_live : goal.returns-in_err-used-clause-not_live
returns-in_err-used-clause-not_live g c = λ v stands.
    let step = c.in_err-used.ensures.steps v.live stands.sessions in
    let p = err_from_is_err_and c.from_residual.result c.from_residual.ensures.1 in
    rw (p.1, p.2) (fed_not_live c.args.self.now.sessions v.live c.args.id c.args.piece.now step.heard step.short (Err c.in_err-used.field-0.0) stands.sessions step.answer)

pub returns-clause-not_live : goal.returns-clause-not_live
returns-clause-not_live g c = λ v stands.
    let step = c.in_ok-used.ensures.steps v.live stands.sessions in
    fed_not_live c.args.self.now.sessions v.live c.args.id c.args.piece.now step.heard step.short (Ok c.in_ok-used.used) stands.sessions step.answer
