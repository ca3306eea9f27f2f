use Rattle.std.proofs.Common.{◌≡◌}
use Rattle.desk_core.specs.Session.{SessionValue, session_out}
use Rattle.desk_core.proofs.Machines.{by_opener}
use Rattle.desk_core.proofs.session.Session.given.Goals as goal

pub returns-in-Opening : goal.returns-in-Opening
returns-in-Opening c =
    by_opener (λ (s : SessionValue). c.out-in-Opening.result.now ≡ session_out s) c.args.self.now c.in-Opening.opener c.in-Opening.is (λ v stands. c.out-in-Opening.ensures v stands)
