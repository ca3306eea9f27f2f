use Rattle.std.proofs.Common.{arith}
use Rattle.std.proofs.lemmas.Str.Pattern.{split_once_first}
use Rattle.keyring_file.proofs.Splitting.{splits_at_space}
use Rattle.keyring_file.proofs.key_line.split_at_space.Goals as goal

pub returns : goal.returns
returns c = splits_at_space c.args.text.now c.split_once.result (split_once_first 32 c.args.text.now c.split_once.result c.split_once.ensures.cases (omega arith))
