use Rattle.std.proofs.Common.{None, Some}
use Rattle.stream_open.proofs.Standing.{only_told}
use Rattle.stream_open.proofs.session.Opener.only.Goals as goal

pub returns-in-None : goal.returns-in-None
returns-in-None c = λ v stands. only_told c.args.self.now v None c.in-None.is stands

pub returns-in-Some : goal.returns-in-Some
returns-in-Some c = λ v stands. only_told c.args.self.now v (Some c.in-Some.unlocked) c.in-Some.is stands
