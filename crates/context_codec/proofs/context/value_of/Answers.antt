use Rattle.std.proofs.Common.{sym}
use Rattle.context_codec.proofs.Lookups.{lookup_absent}
use Rattle.context_codec.proofs.context.value_of.Goals as goal

pub returns-in-Err : goal.returns-in-Err
returns-in-Err c = sym (lookup_absent c.args.key.now c.args.pairs.now c.in-Err.ensures.absent)
