use Rattle.std.proofs.Common.{rules}
use Rattle.esdk_run.proofs.Given.{none_inserted, pair_inserted, pair_refused}
use Rattle.esdk_run.proofs.pair_input.insert_pair.Goals as goal

pub returns-in-Some-clause-inserted : goal.returns-in-Some-clause-inserted
returns-in-Some-clause-inserted c = rw c.in-Some.is (pair_inserted c.insert.result c.args.context.now c.insert.new.self (c.args.word.now.key, c.in-Some.value) (search rules) (search rules))

pub returns-in-Some-clause-cause : goal.returns-in-Some-clause-cause
returns-in-Some-clause-cause c = rw c.in-Some.is (pair_refused c.insert.result c.args.context.now (c.args.word.now.key, c.in-Some.value) (search rules))

pub returns-in-None-clause-inserted : goal.returns-in-None-clause-inserted
returns-in-None-clause-inserted c = rw c.in-None.is (none_inserted c.args.context.now)
