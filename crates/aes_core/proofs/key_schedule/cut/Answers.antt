use Rattle.std.proofs.Common.{refl, arith}
use Rattle.aes_core.proofs.Schedule.{one_key_more, all_keys}
use Rattle.aes_core.proofs.key_schedule.cut.Goals as goal

pub keys-preserved : goal.keys-preserved
keys-preserved c = one_key_more c.args.w.now c.keys.keys c.keys.r _ (omega arith) c.keys.invariant.long c.keys.invariant.done
    (rw c.joined.ensures refl)

pub returns : goal.returns
returns c = all_keys c.args.w.now c.keys.keys c.keys.r (omega arith) c.keys.invariant.long c.keys.invariant.done
