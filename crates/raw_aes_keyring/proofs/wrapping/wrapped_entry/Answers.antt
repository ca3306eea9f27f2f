use Rattle.std.proofs.Common.{rules}
use Rattle.raw_aes_keyring.proofs.Entries.{wrap_made, info_is_short}
use Rattle.raw_aes_keyring.proofs.wrapping.wrapped_entry.Goals as goal

pub new-requires-clause-info : goal.new-requires-clause-info
new-requires-clause-info c = info_is_short c.bytes.result.now c.args.wrap_key.now.name c.args.iv.now (search rules) (search rules) (search rules)

pub returns-clause-wrap : goal.returns-clause-wrap
returns-clause-wrap c =
    wrap_made c.new.result c.args.wrap_key.now c.as_bytes-provider.result.now c.bytes.result.now c.bytes-2.result.now c.args.iv.now c.args.key.now c.args.aad.now (search rules) (search rules) (search rules) (search rules)
