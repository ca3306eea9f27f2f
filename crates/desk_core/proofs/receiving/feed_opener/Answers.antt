-- Until the header is unlocked what is heard is recorded, and no answer is kept.
use Rattle.std.proofs.Common.{sym}
use Rattle.desk_core.specs.Session.{Opening}
use Rattle.desk_core.proofs.Openers.{locked_still}
use Rattle.desk_core.proofs.Receivers.{machine_from, machine_short, machine_unlocked, opener_err, opener_ok}
use Rattle.desk_core.proofs.receiving.feed_opener.Goals as goal

pub returns-in-Ok-clause-feeds : goal.returns-in-Ok-clause-feeds
returns-in-Ok-clause-feeds g c = λ v stands live.
    machine_unlocked g.M.Manager.state g.R.Receiver.takes g.R.Receiver.fails c.args.id c.args.now v c.args.piece.now _ _ _ _ _ c.feed.new.self
    (opener_ok g.M.Manager.state g.R.Receiver.takes g.R.Receiver.fails c.args.now v c.args.piece.now _ _ _ _ c.feed.new.self live (c.in-Ok.ensures.fed v stands)) _ _ (sym (c.in-Some.ensures v stands))

pub returns-in-Err-clause-feeds : goal.returns-in-Err-clause-feeds
returns-in-Err-clause-feeds g c = λ v stands live.
    machine_unlocked g.M.Manager.state g.R.Receiver.takes g.R.Receiver.fails c.args.id c.args.now v c.args.piece.now _ _ _ _ _ c.feed.new.self
    (opener_err g.M.Manager.state g.R.Receiver.takes g.R.Receiver.fails c.args.now v c.args.piece.now _ _ _ _ c.feed.new.self c.in-Err.error _ c.opening_failed.ensures live (c.in-Err.ensures.fed v stands)) _ _
    (sym (c.in-Some.ensures v stands))

pub returns-in-Ok-try_reserve-clause-feeds : goal.returns-in-Ok-try_reserve-clause-feeds
returns-in-Ok-try_reserve-clause-feeds g c = λ v stands live.
    let still = locked_still c.args.opener.now v stands live.0 (sym (c.in-None.ensures v stands)) in
    machine_from g.M.Manager.state g.R.Receiver.takes g.R.Receiver.fails (Opening v) c.args.id c.args.now c.args.piece.now _ _ _ _ c.feed_locked.result _ _ _ _ c.in-Ok-try_reserve.ensures.items
    (c.feed_locked.ensures.feeds v stands live (live.1 still.unheard))

pub returns-in-Err-try_reserve-clause-feeds : goal.returns-in-Err-try_reserve-clause-feeds
returns-in-Err-try_reserve-clause-feeds g c = λ v stands live.
    let still = locked_still c.args.opener.now v stands live.0 (sym (c.in-None.ensures v stands)) in
    machine_short g.M.Manager.state g.R.Receiver.takes g.R.Receiver.fails c.args.id c.args.now v c.args.piece.now c.args.manager.now c.args.output.now c.args.opener.now c.args.opener.now c.args.journal.now.items
    c.try_reserve.new.self.items g.met.R.Receiver.takes_none stands live still c.in-Err-try_reserve.ensures.items
