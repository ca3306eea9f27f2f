-- The whole of the array is filled.
use Rattle.std.proofs.Common.{rules}
use Rattle.suite_table.proofs.keys.encryption_key.Goals as goal

pub returns : goal.returns
returns c = search rules
