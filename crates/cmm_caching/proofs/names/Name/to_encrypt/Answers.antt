-- The name has the request's parts.
use Rattle.std.proofs.Common.{rules}
use Rattle.cmm_caching.proofs.names.Name.to_encrypt.Goals as goal

pub returns : goal.returns
returns c = search rules
