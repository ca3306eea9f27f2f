use Rattle.std.proofs.Common.{rules}
use Rattle.esdk_batch.specs.FileEndLaws.{calls_none}
use Rattle.esdk_batch.specs.ShelfCalls.{IsWrite}
use Rattle.esdk_batch.proofs.Named.{puts_keep, puts_none}
use Rattle.esdk_batch.proofs.ShelfCalls.{told_append}
use Rattle.esdk_batch.proofs.Watched.{puts_seen}
use Rattle.esdk_batch.proofs.files.put.Goals as goal

pub returns-then-is_empty-clause-puts : goal.returns-then-is_empty-clause-puts
returns-then-is_empty-clause-puts g c = λ by from. puts_none _ c.args.name.now c.args.bytes.now (search rules)

pub returns-clause-puts : goal.returns-clause-puts
returns-clause-puts g c = λ by from. puts_seen by _ _ c.args.name.now c.args.bytes.now c.append.result from c.append.ensures.bytes c.append.ensures.calls

pub returns-clause-kept : goal.returns-clause-kept
returns-clause-kept g c = puts_keep _ _ c.args.name.now c.args.bytes.now c.append.result c.append.ensures.bytes

pub returns-clause-cause : goal.returns-clause-cause
returns-clause-cause g c = c.append.ensures.cause.failed

pub returns-then-is_empty-clause-calls : goal.returns-then-is_empty-clause-calls
returns-then-is_empty-clause-calls g c = calls_none (IsWrite c.args.name.now) _

pub returns-clause-calls : goal.returns-clause-calls
returns-clause-calls g c = told_append _ _ c.append.result c.args.name.now c.args.bytes.now c.append.ensures.cause.later c.append.ensures.calls
