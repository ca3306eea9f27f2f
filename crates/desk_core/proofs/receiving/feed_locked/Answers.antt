-- What the opener kept of the manager's answer is recorded.
use Rattle.desk_core.proofs.Receivers.{machine_locked, opener_err, opener_ok}
use Rattle.desk_core.proofs.receiving.feed_locked.Goals as goal

pub returns-in-Ok-clause-feeds : goal.returns-in-Ok-clause-feeds
returns-in-Ok-clause-feeds g c = λ v stands live none.
    machine_locked g.M.Manager.state g.R.Receiver.takes g.R.Receiver.fails c.args.id c.args.now v c.args.piece.now _ _ _ _ _ c.feed-answer.new.self
    (opener_ok g.M.Manager.state g.R.Receiver.takes g.R.Receiver.fails c.args.now v c.args.piece.now _ _ _ _ c.feed-answer.new.self live (c.in-Ok.ensures.fed v stands)) _ _ none c.record_served.ensures

pub returns-in-Err-clause-feeds : goal.returns-in-Err-clause-feeds
returns-in-Err-clause-feeds g c = λ v stands live none.
    machine_locked g.M.Manager.state g.R.Receiver.takes g.R.Receiver.fails c.args.id c.args.now v c.args.piece.now _ _ _ _ _ c.feed-answer.new.self
    (opener_err g.M.Manager.state g.R.Receiver.takes g.R.Receiver.fails c.args.now v c.args.piece.now _ _ _ _ c.feed-answer.new.self c.in-Err.error _ c.opening_failed.ensures live (c.in-Err.ensures.fed v stands)) _ _ none c.record_served.ensures
