use Rattle.std.proofs.Common.{map}
use Rattle.esdk_args.proofs.Bounds.{read_frame, read_range, read_size}
use Rattle.esdk_args.proofs.words.read_words.Goals as goal

pub returns-clause-frame : goal.returns-clause-frame
returns-clause-frame c = read_frame c.in-Some-command_named.name (map (λ w. w.now) c.deref.result.now) c.read_behind.result c.read_behind.ensures

pub returns-clause-size : goal.returns-clause-size
returns-clause-size c = read_size c.in-Some-command_named.name (map (λ w. w.now) c.deref.result.now) c.read_behind.result c.read_behind.ensures

pub returns-clause-range : goal.returns-clause-range
returns-clause-range c = read_range c.in-Some-command_named.name (map (λ w. w.now) c.deref.result.now) c.read_behind.result c.read_behind.ensures
