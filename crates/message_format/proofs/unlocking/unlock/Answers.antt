use Rattle.message_format.proofs.KeptLocks.{lock_opened, kept_locked}
use Rattle.message_format.proofs.unlocking.unlock.Goals as goal

pub returns-clause-unlocked : goal.returns-clause-unlocked
returns-clause-unlocked g c =
    lock_opened _ _ c.args.now c.args.given.now c.args.header c.in_ok-asked.asked.lock c.in_ok-asked.asked.materials c.unlocked_by.result c.in_ok-asked.ensures.found c.in_ok-asked.ensures.lock c.unlocked_by.ensures.unlocked

pub returns-clause-cause : goal.returns-clause-cause
returns-clause-cause g c =
    kept_locked _ _ c.args.now c.args.given.now c.args.header c.in_ok-asked.asked.lock c.in_ok-asked.asked.materials c.unlocked_by.result c.in_ok-asked.ensures.found c.in_ok-asked.ensures.lock c.unlocked_by.ensures.cause
