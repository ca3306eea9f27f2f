use Rattle.std.proofs.Common.{refl}
use Rattle.esdk_seen.specs.Calls.{creates}
use Rattle.esdk_batch.specs.ShelfCalls.{IsWrite}
use Rattle.esdk_batch.proofs.Named.{makes_keep}
use Rattle.esdk_batch.proofs.ShelfCalls.{told_call}
use Rattle.esdk_batch.proofs.Watched.{makes_seen}
use Rattle.esdk_batch.proofs.files.make.Goals as goal

pub returns-clause-makes : goal.returns-clause-makes
returns-clause-makes g c = λ by from. makes_seen by _ _ c.args.name.now c.create.result from c.create.ensures.bytes c.create.ensures.calls

pub returns-clause-kept : goal.returns-clause-kept
returns-clause-kept g c = makes_keep _ _ c.args.name.now c.create.result c.create.ensures.bytes

pub returns-clause-calls : goal.returns-clause-calls
returns-clause-calls g c = told_call (IsWrite c.args.name.now) _ _ c.create.result (creates c.args.name.now) refl c.create.ensures.cause.later c.create.ensures.calls
