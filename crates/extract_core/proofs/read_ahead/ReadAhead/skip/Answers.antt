use Rattle.std.proofs.Common.{◌∙◌, ap, drop}
use Rattle.extract_core.proofs.Cuts.{skipped}
use Rattle.extract_core.proofs.read_ahead.ReadAhead.skip.Goals as goal

pub returns : goal.returns
returns c =
    skipped c.self.inside.begin c.self.inside.end c.args.count c.self.inside.buffer.items ∙ ap (drop c.args.count) c.self.view_is
