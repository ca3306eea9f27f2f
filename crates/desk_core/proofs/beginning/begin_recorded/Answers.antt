-- The session begins with the materials that the manager gives, and ends where it gives none.
use Rattle.desk_core.proofs.Beginnings.{begins_given, begins_not}
use Rattle.desk_core.proofs.beginning.begin_recorded.Goals as goal

pub returns-in-Ok-clause-begins : goal.returns-in-Ok-clause-begins
returns-in-Ok-clause-begins g c =
    let gives = rw c.wish.ensures at (rw c.split_at.ensures.back at c.in-Ok.ensures.gives) in
    let gave = rw c.wish.ensures at (rw c.split_at.ensures.back at c.in-Ok.ensures.gave) in
    let stands = rw c.split_at.ensures.front at c.begin.ensures.stands in
    let taken = rw c.split_at.ensures.front at c.begin.ensures.taken in
    let cause = rw c.split_at.ensures.front at c.begin.ensures.cause in
    begins_given _ c.args.request.now c.args.id c.args.now c.args.random.now c.in-Ok.materials c.begin.result c.args.journal.now.items c.record.new.journal.items (gives, gave) c.begin.ensures.writable c.record.ensures
    stands taken cause

pub returns-in-Err-clause-begins : goal.returns-in-Err-clause-begins
returns-in-Err-clause-begins g c =
    rw c.manager_failed.ensures
    (begins_not _ c.args.request.now c.args.id c.args.now c.args.random.now c.in-Err.error c.args.journal.now.items (λ fault none. none) (rw c.wish.ensures at c.in-Err.ensures.cause))
