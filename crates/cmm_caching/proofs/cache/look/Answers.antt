-- It is what the entries hold under the name.
use Rattle.std.proofs.Common.{rules}
use Rattle.cmm_caching.proofs.cache.look.Goals as goal

pub returns : goal.returns
returns c = search rules
