use Rattle.std.proofs.Common.{sym, subst}
use Rattle.context_codec.specs.Fitting.{AreSized}
use Rattle.context_codec.proofs.Sizes.{sized_from_short}
use Rattle.c_session.proofs.Contexts.{sized_at}
use Rattle.c_session.proofs.file_session.FileSession.pair_at.Goals as goal

pub returns-clause-sized : goal.returns-clause-sized
returns-clause-sized c =
    sized_at c.pairs.result.now c.args.index c.get.result
    (subst AreSized (sym c.pairs.ensures.pairs)
    (sized_from_short c.in_ok-context.field-0.now c.pairs.ensures.context.short))
    c.get.ensures.lookup
