use Rattle.std.proofs.Common.{◌++◌, ◌∙◌}
use Rattle.std.specs.Int.{w32, to_be_bytes}
use Rattle.gcm_core.proofs.Groups.{gctr-group}
use Rattle.gcm_core.proofs.counter_mode.gctr_wide_group.Goals as goal

pub returns-clause-enciphered : goal.returns-clause-enciphered
returns-clause-enciphered c =
    c.add_masks.ensures ∙ gctr-group 16 c.args.key.now (c.args.iv.now ++ to_be_bytes w32 c.args.first) c.args.text.now c.counters16-masks.result c.counters16-masks.ensures.blocks c.requires.short
