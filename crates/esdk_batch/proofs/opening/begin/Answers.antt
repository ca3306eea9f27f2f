-- The session stands as it did, or it is dropped.
use Rattle.std.proofs.Common.{◌≡◌, ℕ, List, false, refl, sym, subst, arith}
use Rattle.esdk_fields.specs.declared.refusals.Outside.TheVariants as outsides
use Rattle.esdk_base.specs.Shelf.{is_missing}
use Rattle.desk_core.specs.Desk.{DropSession, after_desk_call}
use Rattle.batch_report.specs.declared.job_lines.JobEnd.TheVariants as ends
use Rattle.esdk_batch.proofs.Counting.{rose_none}
use Rattle.esdk_batch.proofs.FirstTurns.{file_begun, file_failed}
use Rattle.esdk_batch.proofs.Keeping.{keeps_dropped, keeps_same}
use Rattle.esdk_batch.proofs.TurnCounting.{ended_counts, live_counts}
use Rattle.esdk_batch.proofs.opening.begin.Goals as goal

pub returns-in-Ok-clause-begins : goal.returns-in-Ok-clause-begins
returns-in-Ok-clause-begins g c = λ by v s from stands live.
    (v, stands, file_begun c.args.session c.args.kind c.args.served s v _ _ c.args.to.now live (c.in-Ok.ensures.makes by v s from stands live))

pub returns-in-Err-clause-begins : goal.returns-in-Err-clause-begins
returns-in-Err-clause-begins g c = λ by v s from stands live. (
  after_desk_call v c.args.session false DropSession,
  c.drop_session.ensures.stands v stands,
  file_failed c.args.session c.args.kind c.args.served s v _ _ c.args.to.now _ c.ended_job.ensures live (c.in-Err.ensures.makes by v s from stands live),
)

pub returns-in-Ok-clause-counts : goal.returns-in-Ok-clause-counts
returns-in-Ok-clause-counts g c = λ job entropy keyring to.
    live_counts job _ _ _ (record { session = c.args.session; at = 0; served = c.args.served }) refl
    (subst (λ (n : List ℕ). is_missing (g.F.Shelf.state c.make_file.new.shelf).files n ≡ false) (sym to) c.in-Ok.ensures.there) (omega arith) (omega arith) c.in-Ok.ensures.calls.later

pub returns-in-Err-clause-counts : goal.returns-in-Err-clause-counts
returns-in-Err-clause-counts g c = λ job entropy keyring to.
    ended_counts job c.ended_job.result _ _ (record { kind = c.args.kind; end = ends.Outside outsides.ShelfFault; served = c.args.served }) c.ended_job.ensures
    (rose_none entropy entropy (omega arith)) (rose_none keyring keyring (omega arith)) c.in-Err.ensures.cause

-- ---- the other sessions

pub returns-in-Ok-clause-sessions : goal.returns-in-Ok-clause-sessions
returns-in-Ok-clause-sessions g c = λ last beyond. keeps_same last 0 c.args.desk.now

pub returns-in-Err-clause-sessions : goal.returns-in-Err-clause-sessions
returns-in-Err-clause-sessions g c = λ last beyond.
    keeps_dropped last c.args.session c.args.desk.now c.drop_session.new.self (c.requires.0, c.requires.1) c.drop_session.ensures.stands beyond
