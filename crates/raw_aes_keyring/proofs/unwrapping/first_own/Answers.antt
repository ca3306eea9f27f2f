use Rattle.std.proofs.Common.{rules}
use Rattle.raw_aes_keyring.proofs.Entries.{not_own, passed_more}
use Rattle.raw_aes_keyring.proofs.unwrapping.first_own.Goals as goal

pub loop-at-preserved : goal.loop-at-preserved
loop-at-preserved c =
    let entry = c.index-entries-at.result in
    let other = not_own c.args.key.now entry c.iv_of.result c.iv_of.ensures.iv (search rules) in
    passed_more c.args.key.now c.args.entries.now c.loop-at.at entry c.loop-at-test.true c.index-entries-at.is other c.loop-at.invariant
