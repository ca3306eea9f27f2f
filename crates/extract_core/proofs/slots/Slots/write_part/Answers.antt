use Rattle.std.proofs.Common.{◌+◌, ◌-◌, length, ap, arith, subst}
use Rattle.std.specs.Io.KnownBytes.{Appends}
use Rattle.extract_core.proofs.Cuts.{cut_within}
use Rattle.extract_core.proofs.slots.Slots.write_part.Goals as goal

pub returns-in-Ok-clause-length : goal.returns-in-Ok-clause-length
returns-in-Ok-clause-length g c =
    ap length (cut_within (c.args.at - c.args.first) (c.args.at + c.args.count - c.args.first) c.min-begin.result c.min-end.result c.out-content.result.now _ c.out-content.ensures (omega arith) (omega arith))

pub returns-in-Ok-clause-part : goal.returns-in-Ok-clause-part
returns-in-Ok-clause-part g c =
    subst (Appends (g.O.Sink.state c.args.output.now).written (g.O.Sink.state c.put.new.self).written)
    (cut_within (c.args.at - c.args.first) (c.args.at + c.args.count - c.args.first) c.min-begin.result c.min-end.result c.out-content.result.now _ c.out-content.ensures (omega arith) (omega arith)) c.in-Ok.ensures.bytes
