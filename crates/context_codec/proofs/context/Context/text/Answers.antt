use Rattle.std.proofs.Common.{arith}
use Rattle.context_codec.proofs.Sizes.{sized_from_short, few_from_short}
use Rattle.context_codec.proofs.context.Context.text.Goals as goal

pub overflow_cast-len : goal.overflow_cast-len
overflow_cast-len c = omega (arith, few_from_short c.self.inside.pairs.items c.self.invariant.0.short, c.len.ensures)

pub put_pairs-requires : goal.put_pairs-requires
put_pairs-requires c = rw c.deref.ensures.value (sized_from_short c.self.inside.pairs.items c.self.invariant.0.short)
