-- What holds of a sealer's sessions holds of the machine's.
use Rattle.std.proofs.Common.{Err, Ok}
use Rattle.desk_core.specs.declared.session.Session.TheVariants as machines
use Rattle.desk_core.specs.Session.{SessionValue}
use Rattle.desk_core.specs.Stands.{IsLive}
use Rattle.desk_core.specs.Receiving.{FeedsMachine}
use Rattle.desk_core.proofs.Machines.{by_sealer}
use Rattle.desk_core.proofs.Receivers.{sealer_err, sealer_ok}
use Rattle.desk_core.proofs.receiving.feed_session.Goals as goal

pub returns-in-Ok-clause-feeds : goal.returns-in-Ok-clause-feeds
returns-in-Ok-clause-feeds g c =
    by_sealer
    (λ (s : SessionValue). IsLive s
    → FeedsMachine g.M.Manager.state g.R.Receiver.takes g.R.Receiver.fails s c.args.id c.args.now c.args.piece.now c.args.manager.now c.args.manager.now c.args.output.now c.feed.new.output (Ok tt) (machines.Sealing c.feed.new.self) c.args.journal.now.items c.args.journal.now.items)
    c.args.session.now c.in-Sealing.sealer c.in-Sealing.is
    (λ v stands live. sealer_ok g.M.Manager.state g.R.Receiver.takes g.R.Receiver.fails c.args.id c.args.now v c.args.piece.now c.args.manager.now c.args.output.now c.feed.new.output c.feed.new.self c.args.journal.now.items
    (c.in-Ok.ensures.on v stands live) (c.in-Ok.ensures.feeds v stands))

pub returns-in-Err-clause-feeds : goal.returns-in-Err-clause-feeds
returns-in-Err-clause-feeds g c =
    by_sealer
    (λ (s : SessionValue). IsLive s
    → FeedsMachine g.M.Manager.state g.R.Receiver.takes g.R.Receiver.fails s c.args.id c.args.now c.args.piece.now c.args.manager.now c.args.manager.now c.args.output.now c.feed.new.output (Err c.sealing_failed.result) (machines.Sealing c.feed.new.self) c.args.journal.now.items c.args.journal.now.items)
    c.args.session.now c.in-Sealing.sealer c.in-Sealing.is
    (λ v stands live. sealer_err g.M.Manager.state g.R.Receiver.takes g.R.Receiver.fails c.args.id c.args.now v c.args.piece.now c.args.manager.now c.args.output.now c.feed.new.output c.feed.new.self c.args.journal.now.items
    c.in-Err.error c.sealing_failed.result c.sealing_failed.ensures (c.in-Err.ensures.on v stands live) (c.in-Err.ensures.feeds v stands))
