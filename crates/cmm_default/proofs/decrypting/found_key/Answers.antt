-- What the keyring answers is over the whole context.
use Rattle.std.proofs.Common.{rules}
use Rattle.cmm_default.proofs.decrypting.found_key.Goals as goal

pub returns-in-Ok-Some-clause-opens : goal.returns-in-Ok-Some-clause-opens
returns-in-Ok-Some-clause-opens g c = search rules

pub returns-in-Ok-None-clause-cause : goal.returns-in-Ok-None-clause-cause
returns-in-Ok-None-clause-cause g c = search rules

pub returns-in-Err-KeyringFault-clause-cause : goal.returns-in-Err-KeyringFault-clause-cause
returns-in-Err-KeyringFault-clause-cause g c = search rules
