use Rattle.armour_core.proofs.Sources.{awaits_none}
use Rattle.armour_core.proofs.source.UnarmouredSource.await_some.Goals as goal

pub returns-then-self-gt0-clause-awaits : goal.returns-then-self-gt0-clause-awaits
returns-then-self-gt0-clause-awaits g c = awaits_none (g.S.Source.state c.args.self.now.text.now) c.args.self.now.reader c.args.self.now.faults
