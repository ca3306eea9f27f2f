-- The use is counted with its bytes.
use Rattle.std.proofs.Common.{rules}
use Rattle.cmm_caching.proofs.kept.Kept.use_again.Goals as goal

pub returns-in-Some : goal.returns-in-Some
returns-in-Some c = search rules
