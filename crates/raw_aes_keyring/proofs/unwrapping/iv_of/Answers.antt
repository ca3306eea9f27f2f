use Rattle.std.proofs.Common.{rules}
use Rattle.raw_aes_keyring.proofs.Entries.{finds_iv}
use Rattle.raw_aes_keyring.proofs.unwrapping.iv_of.Goals as goal

pub returns-clause-iv : goal.returns-clause-iv
returns-clause-iv c = finds_iv c.args.key.now c.args.entry.now c.info_parts.result (search rules) (search rules) (search rules) (search rules) (search rules)
