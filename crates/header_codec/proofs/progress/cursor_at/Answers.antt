use Rattle.std.proofs.Common.{◌<◌, arith}
use Rattle.std.proofs.lemmas.List.Elements.{All-from_get_or}
use Rattle.header_codec.proofs.progress.cursor_at.Goals as goal

pub returns-clause-bytes : goal.returns-clause-bytes
returns-clause-bytes c = All-from_get_or (λ b. b < 256) c.args.bytes.now 0 (λ i lt. omega (arith, c.type_inv.bytes i))
