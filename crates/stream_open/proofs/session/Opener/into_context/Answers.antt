use Rattle.std.proofs.Common.{None, Some}
use Rattle.stream_open.proofs.Standing.{context_told}
use Rattle.stream_open.proofs.session.Opener.into_context.Goals as goal

pub returns-in-None : goal.returns-in-None
returns-in-None c = λ v stands. context_told c.args.self v None c.in-None.is stands

pub returns : goal.returns
returns c = λ v stands. context_told c.args.self v (Some c.in-Some.unlocked) c.in-Some.is stands
