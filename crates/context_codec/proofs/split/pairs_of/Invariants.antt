-- What was read so far, followed by what is still read, is the whole.
use Rattle.esdk_fields.specs.Reading.{repeat}
use Rattle.esdk_fields.proofs.Repeat.{Goes}
use Rattle.context_codec.specs.Split.{pair}
use Rattle.context_codec.proofs.split.pairs_of.Given as goal

abbrev pub invariant-loop : goal.invariant-loop
invariant-loop l = Goes pair l.pairs.items l.count l.counter l.cursor (repeat pair l.count l.fn.cursor)
