-- The materials have the request's parts.
use Rattle.std.proofs.Common.{rules}
use Rattle.cmm_default.proofs.encrypting.enc_materials.Goals as goal

pub returns : goal.returns
returns c = search rules
