use Rattle.c_session.proofs.Wholes.{ends_with, not_fed}
use Rattle.c_session.proofs.session.Session.whole.Goals as goal

pub returns-in-Done : goal.returns-in-Done
returns-in-Done g c =
    ends_with g.M.Manager.state c.args.self.now c.feed.new.self c.finish.new.self c.args.rest.now
    c.finish.result c.in-Done.ensures c.finish.ensures

pub returns-in_default : goal.returns-in_default
returns-in_default g c =
    not_fed g.M.Manager.state c.args.self.now c.feed.new.self c.args.rest.now c.feed.result
    c.in_default.not-Done c.feed.ensures
