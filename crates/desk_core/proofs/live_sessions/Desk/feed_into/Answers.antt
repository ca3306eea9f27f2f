-- What feeding the machine comes to is what the desk comes to.
use Rattle.std.proofs.Common.{refl}
use Rattle.stream_open.specs.Asking.{served_in}
use Rattle.desk_core.specs.declared.live_sessions.Desk.{Desk}
use Rattle.desk_core.specs.declared.live_sessions.Lent.TheVariants as lents
use Rattle.desk_core.proofs.Feeds.{bears_then}
use Rattle.desk_core.proofs.Receivers.{feeds_into}
use Rattle.desk_core.proofs.live_sessions.Desk.feed_into.Goals as goal

pub returns-clause-feeds : goal.returns-clause-feeds
returns-clause-feeds g c = λ v stands.
    let next : Desk g.row.M.Denot =
    record { manager = c.feed_at.new.manager; sessions = c.feed_at.new.sessions; last_id = c.args.self.now.last_id; journal = c.feed_at.new.journal; lent = lents.Nothing } in
    feeds_into g.M.Manager.state g.R.Receiver.takes g.R.Receiver.fails c.args.self.now next v c.args.id c.args.now c.args.piece.now c.args.output.now c.feed_at.new.output c.feed_at.result stands
    (c.feed_at.ensures.feeds v.live stands.sessions) refl refl

pub returns-clause-bears : goal.returns-clause-bears
returns-clause-bears g c = λ v stands bore.
    let fed = c.feed_at.ensures.feeds v.live stands.sessions in
    bears_then (g.M.Manager.state c.args.self.now.manager) (g.M.Manager.state c.feed_at.new.manager) c.args.id c.args.now (served_in fed.heard) c.args.self.now.journal.items c.feed_at.new.journal.items
    fed.bears fed.journal bore

pub returns-clause-not_live : goal.returns-clause-not_live
returns-clause-not_live g c = λ v stands. (c.feed_at.ensures.feeds v.live stands.sessions).not_live
