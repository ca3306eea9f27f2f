use Rattle.std.proofs.Common.{◌+◌, ◌-◌, arith}
use Rattle.gcm_core.proofs.Masking.{get_or-put_sum}
use Rattle.gcm_core.proofs.masks.add_whole_mask.Goals as goal

pub returns-clause-there : goal.returns-clause-there
returns-clause-there c = λ i h. get_or-put_sum _ c.args.text.now c.args.mask.now c.args.at (c.args.at + 16 - c.args.at) i (omega arith) (omega arith) c.told-mask h
