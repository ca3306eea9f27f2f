-- No job had a turn yet; and all ended.
use Rattle.std.proofs.Common.{◌≡◌, ◌≤◌, length, arith, ap, inr, refl, sym, subst, ◌∙◌}
use Rattle.std.specs.Prelude.{All}
use Rattle.std.proofs.lemmas.List.{with_items_is}
use Rattle.std.proofs.lemmas.Result.{IfOk-from_err, IfOk-weaker}
use Rattle.desk_core.specs.Stands.{last_of, manager_of}
use Rattle.esdk_batch.specs.declared.progress.Progress.TheVariants.{Waiting}
use Rattle.esdk_batch.specs.Rounds.{Beginning, all_waits}
use Rattle.esdk_batch.specs.Failures.{Tally, tally_of}
use Rattle.esdk_batch.specs.ShelfCalls.{announced}
use Rattle.esdk_batch.specs.Watching.{IsFrom, as_shown, as_told, files_by}
use Rattle.esdk_batch.proofs.AllCounting.{counted_all, counted_none}
use Rattle.esdk_batch.proofs.Announced.{only_behind, still_told, told_as, told_front, told_longer, told_only}
use Rattle.esdk_batch.proofs.Beginnings.{count_waits, stand_begins}
use Rattle.esdk_batch.proofs.Beside.{rest_ended}
use Rattle.esdk_batch.proofs.Conclusion.{batch_ends_at, begun_as, counted_as, on_ok, shown_batch}
use Rattle.esdk_batch.proofs.Keeping.{beyond_waiting, keeps_drawn_before}
use Rattle.esdk_batch.proofs.Managers.{admits_between}
use Rattle.esdk_batch.proofs.Moments.{reads_none}
use Rattle.esdk_batch.proofs.ShelfCalls.{jobs_at_most, jobs_finished, jobs_none, most_never, most_since}
use Rattle.esdk_batch.proofs.batch.run_batch.Goals as goal

pub run_rounds-requires-clause-room : goal.run_rounds-requires-clause-room
run_rounds-requires-clause-room g c =
    let progress = c.in_ok-progress.progress.items in
    let jobs : c.jobs-2.result.now ≡ c.args.jobs.now.jobs = c.jobs-2.ensures.jobs in
    let count : length progress ≡ length c.jobs-2.result.now = c.in_ok-progress.ensures.count in
    omega (arith, ap all_waits c.deref_mut.ensures.value, count_waits progress c.in_ok-progress.ensures.waiting, count, c.jobs-2.ensures.file.few, ap length jobs, c.requires.room)

pub returns-clause-runs : goal.returns-clause-runs
returns-clause-runs g c = λ v stands.
    let told : g.F.Shelf.state c.announce.new.shelf ≡ announced c.args.jobs.now.jobs (g.F.Shelf.state c.args.shelf.now) =
    told_as _ c.args.jobs.now.jobs _ _ c.jobs.ensures.jobs c.in_ok-announce.ensures.all in
    let shelf = g.F.Shelf.state c.announce.new.shelf in
    let old = c.deref_mut.result.now in
    let new = c.run_rounds.new.progress in
    let wait = subst (All (λ one. one ≡ Waiting)) (sym c.deref_mut.ensures.value) c.in_ok-progress.ensures.waiting in
    let began : Beginning = record { live = v.live; files = shelf.files; entropy = g.W.Entropy.state c.args.entropy.now; journal = v.journal; last = v.last } in
    let (w, then, stand) = c.in_ok-run_rounds.ensures.stand as_told (manager_of c.args.desk.now) (manager_of c.run_rounds.new.desk) began v tt (admits_between _ _) stands
    (stand_begins _ c.jobs-3.result.now c.width.result began.files began.entropy v old wait) in
    let made = c.in_ok-progress.progress in
    let kept : length new ≡ length old = c.run_rounds.auto.progress in
    let as_made : length old ≡ length made.items = ap length c.deref_mut.ensures.value in
    let count : length made.items ≡ length c.jobs-2.result.now = c.in_ok-progress.ensures.count in
    let jobs : c.jobs-2.result.now ≡ c.args.jobs.now.jobs = c.jobs-2.ensures.jobs in
    let again : c.jobs-3.result.now ≡ c.args.jobs.now.jobs = c.jobs-3.ensures.jobs in
    let items = with_items_is made new (omega (arith, kept, as_made, made.ok.0)) in
    IfOk-weaker c.report_of.result _ _
    (λ lines ended. begun_as _ c.args.jobs.now v.last as_told (announced c.args.jobs.now.jobs (g.F.Shelf.state c.args.shelf.now)) shelf _ _ _ _ _ lines told
    (batch_ends_at _ c.args.jobs.now v w shelf.files _ _ _ _ _ lines c.jobs-3.result.now c.width.result new again c.width.ensures.width (sym items ∙ ended)
    (omega (arith, kept, as_made, count, ap length jobs, ap length again))
    stands.journal then.journal stand)) c.report_of.ensures

pub returns-clause-shown : goal.returns-clause-shown
returns-clause-shown g c = λ before v stands.
    let by = as_shown (length (g.F.Shelf.state c.args.shelf.now).calls) before in
    let from : length (g.F.Shelf.state c.args.shelf.now).calls ≤ length (announced c.args.jobs.now.jobs (g.F.Shelf.state c.args.shelf.now)).calls =
    told_longer c.args.jobs.now.jobs (g.F.Shelf.state c.args.shelf.now) in
    let told : g.F.Shelf.state c.announce.new.shelf ≡ announced c.args.jobs.now.jobs (g.F.Shelf.state c.args.shelf.now) =
    told_as _ c.args.jobs.now.jobs _ _ c.jobs.ensures.jobs c.in_ok-announce.ensures.all in
    let shelf = g.F.Shelf.state c.announce.new.shelf in
    let old = c.deref_mut.result.now in
    let new = c.run_rounds.new.progress in
    let wait = subst (All (λ one. one ≡ Waiting)) (sym c.deref_mut.ensures.value) c.in_ok-progress.ensures.waiting in
    let began : Beginning = record { live = v.live; files = files_by by shelf; entropy = g.W.Entropy.state c.args.entropy.now; journal = v.journal; last = v.last } in
    let (w, then, stand) = c.in_ok-run_rounds.ensures.stand by (manager_of c.args.desk.now) (manager_of c.run_rounds.new.desk) began v (subst (IsFrom by) (sym told) from) (admits_between _ _) stands
    (stand_begins _ c.jobs-3.result.now c.width.result began.files began.entropy v old wait) in
    let made = c.in_ok-progress.progress in
    let kept : length new ≡ length old = c.run_rounds.auto.progress in
    let as_made : length old ≡ length made.items = ap length c.deref_mut.ensures.value in
    let count : length made.items ≡ length c.jobs-2.result.now = c.in_ok-progress.ensures.count in
    let jobs : c.jobs-2.result.now ≡ c.args.jobs.now.jobs = c.jobs-2.ensures.jobs in
    let again : c.jobs-3.result.now ≡ c.args.jobs.now.jobs = c.jobs-3.ensures.jobs in
    let items = with_items_is made new (omega (arith, kept, as_made, made.ok.0)) in
    IfOk-weaker c.report_of.result _ _
    (λ lines ended. shown_batch _ c.args.jobs.now v.last before (g.F.Shelf.state c.args.shelf.now) (g.F.Shelf.state c.run_rounds.new.shelf) _ _ _ _ lines
    (begun_as _ c.args.jobs.now v.last by (announced c.args.jobs.now.jobs (g.F.Shelf.state c.args.shelf.now)) shelf _ _ _ _ _ lines told
    (batch_ends_at _ c.args.jobs.now v w (files_by by shelf) _ _ _ _ _ lines c.jobs-3.result.now c.width.result new again c.width.ensures.width (sym items ∙ ended)
    (omega (arith, kept, as_made, count, ap length jobs, ap length again))
    stands.journal then.journal stand))) c.report_of.ensures

pub returns-clause-sessions : goal.returns-clause-sessions
returns-clause-sessions g c = λ v stands.
    let shelf = g.F.Shelf.state c.announce.new.shelf in
    let old = c.deref_mut.result.now in
    let wait = subst (All (λ one. one ≡ Waiting)) (sym c.deref_mut.ensures.value) c.in_ok-progress.ensures.waiting in
    let began : Beginning = record { live = v.live; files = shelf.files; entropy = g.W.Entropy.state c.args.entropy.now; journal = v.journal; last = v.last } in
    let (w, then, stand) = c.in_ok-run_rounds.ensures.stand as_told (manager_of c.args.desk.now) (manager_of c.run_rounds.new.desk) began v tt (admits_between _ _) stands
    (stand_begins _ c.jobs-3.result.now c.width.result began.files began.entropy v old wait) in
    on_ok c.report_of.result (w, then, λ session. sym (rest_ended c.run_rounds.new.progress w.live c.in_ok-run_rounds.ensures.ended session) ∙ stand.rest session)

pub returns-clause-failures : goal.returns-clause-failures
returns-clause-failures g c =
    let old = c.deref_mut.result.now in
    let new = c.run_rounds.new.progress in
    let wait = subst (All (λ one. one ≡ Waiting)) (sym c.deref_mut.ensures.value) c.in_ok-progress.ensures.waiting in
    let made = c.in_ok-progress.progress in
    let kept : length new ≡ length old = c.run_rounds.auto.progress in
    let as_made : length old ≡ length made.items = ap length c.deref_mut.ensures.value in
    let items = with_items_is made new (omega (arith, kept, as_made, made.ok.0)) in
    let began : Tally = tally_of (g.F.Shelf.state c.announce.new.shelf) (g.W.Entropy.state c.args.entropy.now).faults (g.M.Manager.state (manager_of c.args.desk.now)).meaning.faults in
    let all = c.in_ok-run_rounds.ensures.counts began (counted_none c.jobs-3.result.now began old wait) in
    IfOk-weaker c.report_of.result _ _ (λ lines ended. counted_as c.args.jobs.now.jobs _ _ (announced c.args.jobs.now.jobs (g.F.Shelf.state c.args.shelf.now)) (g.F.Shelf.state c.announce.new.shelf) _ lines
    (told_as _ c.args.jobs.now.jobs _ _ c.jobs.ensures.jobs c.in_ok-announce.ensures.all)
    (counted_all c.jobs-3.result.now c.args.jobs.now.jobs began _ new lines c.jobs-3.ensures.jobs (sym items ∙ ended) all)) c.report_of.ensures

-- ---- the sessions that were live before, and the numbers

pub returns-clause-kept : goal.returns-clause-kept
returns-clause-kept g c =
    let wait = subst (All (λ one. one ≡ Waiting)) (sym c.deref_mut.ensures.value) c.in_ok-progress.ensures.waiting in
    let last = last_of c.args.desk.now in
    keeps_drawn_before _ c.args.desk.now c.run_rounds.new.desk (c.in_ok-run_rounds.ensures.sessions last (omega arith) (beyond_waiting last c.deref_mut.result.now wait))

pub returns-in_err-run_rounds-clause-kept : goal.returns-in_err-run_rounds-clause-kept
returns-in_err-run_rounds-clause-kept g c =
    let wait = subst (All (λ one. one ≡ Waiting)) (sym c.deref_mut.ensures.value) c.in_ok-progress.ensures.waiting in
    let last = last_of c.args.desk.now in
    keeps_drawn_before _ c.args.desk.now c.run_rounds.new.desk (c.in_err-run_rounds.ensures.sessions last (omega arith) (beyond_waiting last c.deref_mut.result.now wait))

pub returns-in_err-announce-clause-kept : goal.returns-in_err-announce-clause-kept
returns-in_err-announce-clause-kept g c = λ v stands. (v, stands, λ session under. refl)

pub returns-in_err-buffer-clause-kept : goal.returns-in_err-buffer-clause-kept
returns-in_err-buffer-clause-kept g c = λ v stands. (v, stands, λ session under. refl)

pub returns-in_err-progress-clause-kept : goal.returns-in_err-progress-clause-kept
returns-in_err-progress-clause-kept g c = λ v stands. (v, stands, λ session under. refl)

pub returns-clause-numbers : goal.returns-clause-numbers
returns-clause-numbers g c =
    let progress = c.in_ok-progress.progress.items in
    let wait = subst (All (λ one. one ≡ Waiting)) (sym c.deref_mut.ensures.value) c.in_ok-progress.ensures.waiting in
    let last = last_of c.args.desk.now in
    let kept = c.in_ok-run_rounds.ensures.sessions last (omega arith) (beyond_waiting last c.deref_mut.result.now wait) in
    let jobs : c.jobs-2.result.now ≡ c.args.jobs.now.jobs = c.jobs-2.ensures.jobs in
    let count : length progress ≡ length c.jobs-2.result.now = c.in_ok-progress.ensures.count in
    omega (arith, kept.few, ap all_waits c.deref_mut.ensures.value, count_waits progress c.in_ok-progress.ensures.waiting, count, ap length jobs)

pub returns-in_err-run_rounds-clause-numbers : goal.returns-in_err-run_rounds-clause-numbers
returns-in_err-run_rounds-clause-numbers g c =
    let progress = c.in_ok-progress.progress.items in
    let wait = subst (All (λ one. one ≡ Waiting)) (sym c.deref_mut.ensures.value) c.in_ok-progress.ensures.waiting in
    let last = last_of c.args.desk.now in
    let kept = c.in_err-run_rounds.ensures.sessions last (omega arith) (beyond_waiting last c.deref_mut.result.now wait) in
    let jobs : c.jobs-2.result.now ≡ c.args.jobs.now.jobs = c.jobs-2.ensures.jobs in
    let count : length progress ≡ length c.jobs-2.result.now = c.in_ok-progress.ensures.count in
    omega (arith, kept.few, ap all_waits c.deref_mut.ensures.value, count_waits progress c.in_ok-progress.ensures.waiting, count, ap length jobs)

-- ---- the calls of the shelf

pub returns-clause-finished : goal.returns-clause-finished
returns-clause-finished g c =
    let old = c.deref_mut.result.now in
    let new = c.run_rounds.new.progress in
    let wait = subst (All (λ one. one ≡ Waiting)) (sym c.deref_mut.ensures.value) c.in_ok-progress.ensures.waiting in
    let made = c.in_ok-progress.progress in
    let kept : length new ≡ length old = c.run_rounds.auto.progress in
    let as_made : length old ≡ length made.items = ap length c.deref_mut.ensures.value in
    let count : length made.items ≡ length c.jobs-2.result.now = c.in_ok-progress.ensures.count in
    let jobs : c.jobs-2.result.now ≡ c.args.jobs.now.jobs = c.jobs-2.ensures.jobs in
    let again : c.jobs-3.result.now ≡ c.args.jobs.now.jobs = c.jobs-3.ensures.jobs in
    let items = with_items_is made new (omega (arith, kept, as_made, made.ok.0)) in
    let began = g.F.Shelf.state c.announce.new.shelf in
    let told : g.F.Shelf.state c.announce.new.shelf ≡ announced c.args.jobs.now.jobs (g.F.Shelf.state c.args.shelf.now) =
    told_as _ c.args.jobs.now.jobs _ _ c.jobs.ensures.jobs c.in_ok-announce.ensures.all in
    IfOk-weaker c.report_of.result _ _
    (λ lines ended. jobs_finished c.jobs-3.result.now c.args.jobs.now.jobs (announced c.args.jobs.now.jobs (g.F.Shelf.state c.args.shelf.now)) began _ new lines again told (omega (arith, kept, as_made, count, ap length jobs, ap length again))
    (c.in_ok-run_rounds.ensures.calls began (jobs_none c.jobs-3.result.now began old wait)) (sym items ∙ ended)) c.report_of.ensures

pub returns-clause-calls : goal.returns-clause-calls
returns-clause-calls g c =
    let old = c.deref_mut.result.now in
    let new = c.run_rounds.new.progress in
    let wait = subst (All (λ one. one ≡ Waiting)) (sym c.deref_mut.ensures.value) c.in_ok-progress.ensures.waiting in
    let kept : length new ≡ length old = c.run_rounds.auto.progress in
    let as_made : length old ≡ length c.in_ok-progress.progress.items = ap length c.deref_mut.ensures.value in
    let count : length c.in_ok-progress.progress.items ≡ length c.jobs-2.result.now = c.in_ok-progress.ensures.count in
    let jobs : c.jobs-2.result.now ≡ c.args.jobs.now.jobs = c.jobs-2.ensures.jobs in
    let again : c.jobs-3.result.now ≡ c.args.jobs.now.jobs = c.jobs-3.ensures.jobs in
    let began = g.F.Shelf.state c.announce.new.shelf in
    let told : g.F.Shelf.state c.announce.new.shelf ≡ announced c.args.jobs.now.jobs (g.F.Shelf.state c.args.shelf.now) =
    told_as _ c.args.jobs.now.jobs _ _ c.jobs.ensures.jobs c.in_ok-announce.ensures.all in
    inr (most_since c.jobs-3.result.now c.args.jobs.now.jobs (announced c.args.jobs.now.jobs (g.F.Shelf.state c.args.shelf.now)) began _ again told
    (jobs_at_most c.jobs-3.result.now began _ new (omega (arith, kept, as_made, count, ap length jobs, ap length again)) (c.in_ok-run_rounds.ensures.calls began (jobs_none c.jobs-3.result.now began old wait))))

pub returns-in_err-run_rounds-clause-calls : goal.returns-in_err-run_rounds-clause-calls
returns-in_err-run_rounds-clause-calls g c =
    let wait = subst (All (λ one. one ≡ Waiting)) (sym c.deref_mut.ensures.value) c.in_ok-progress.ensures.waiting in
    let began = g.F.Shelf.state c.announce.new.shelf in
    let told : g.F.Shelf.state c.announce.new.shelf ≡ announced c.args.jobs.now.jobs (g.F.Shelf.state c.args.shelf.now) =
    told_as _ c.args.jobs.now.jobs _ _ c.jobs.ensures.jobs c.in_ok-announce.ensures.all in
    inr (most_since c.jobs-3.result.now c.args.jobs.now.jobs (announced c.args.jobs.now.jobs (g.F.Shelf.state c.args.shelf.now)) began _ c.jobs-3.ensures.jobs told
    (c.in_err-run_rounds.ensures.broken began (jobs_none c.jobs-3.result.now began c.deref_mut.result.now wait)))

pub returns-in_err-announce-clause-calls : goal.returns-in_err-announce-clause-calls
returns-in_err-announce-clause-calls g c = told_front _ c.args.jobs.now.jobs _ _ c.jobs.ensures.jobs c.announce.ensures.some

pub returns-in_err-buffer-clause-calls : goal.returns-in_err-buffer-clause-calls
returns-in_err-buffer-clause-calls g c = inr (most_never c.args.jobs.now.jobs _ _ (told_as _ c.args.jobs.now.jobs _ _ c.jobs.ensures.jobs c.in_ok-announce.ensures.all))

pub returns-in_err-progress-clause-calls : goal.returns-in_err-progress-clause-calls
returns-in_err-progress-clause-calls g c = inr (most_never c.args.jobs.now.jobs _ _ (told_as _ c.args.jobs.now.jobs _ _ c.jobs.ensures.jobs c.in_ok-announce.ensures.all))

-- ---- the files

pub returns-clause-others : goal.returns-clause-others
returns-clause-others g c = only_behind _ c.args.jobs.now.jobs _ _ (g.F.Shelf.state c.announce.new.shelf) (g.F.Shelf.state c.run_rounds.new.shelf) c.jobs-3.ensures.jobs c.in_ok-announce.ensures.all c.run_rounds.ensures.others

pub returns-clause-told : goal.returns-clause-told
returns-clause-told g c = c.run_rounds.ensures.told ∙ still_told _ _ _ c.in_ok-announce.ensures.all

pub returns-in_err-run_rounds-clause-others : goal.returns-in_err-run_rounds-clause-others
returns-in_err-run_rounds-clause-others g c = only_behind _ c.args.jobs.now.jobs _ _ (g.F.Shelf.state c.announce.new.shelf) (g.F.Shelf.state c.run_rounds.new.shelf) c.jobs-3.ensures.jobs c.in_ok-announce.ensures.all c.run_rounds.ensures.others

pub returns-in_err-run_rounds-clause-told : goal.returns-in_err-run_rounds-clause-told
returns-in_err-run_rounds-clause-told g c = c.run_rounds.ensures.told ∙ still_told _ _ _ c.in_ok-announce.ensures.all

pub returns-in_err-announce-clause-others : goal.returns-in_err-announce-clause-others
returns-in_err-announce-clause-others g c = told_only c.args.jobs.now.jobs _ _ _ c.announce.ensures.some.1

pub returns-in_err-announce-clause-told : goal.returns-in_err-announce-clause-told
returns-in_err-announce-clause-told g c = still_told _ _ _ c.announce.ensures.some.1

pub returns-in_err-buffer-clause-others : goal.returns-in_err-buffer-clause-others
returns-in_err-buffer-clause-others g c = told_only c.args.jobs.now.jobs _ _ _ c.in_ok-announce.ensures.all

pub returns-in_err-buffer-clause-told : goal.returns-in_err-buffer-clause-told
returns-in_err-buffer-clause-told g c = still_told _ _ _ c.in_ok-announce.ensures.all

pub returns-in_err-progress-clause-others : goal.returns-in_err-progress-clause-others
returns-in_err-progress-clause-others g c = told_only c.args.jobs.now.jobs _ _ _ c.in_ok-announce.ensures.all

pub returns-in_err-progress-clause-told : goal.returns-in_err-progress-clause-told
returns-in_err-progress-clause-told g c = still_told _ _ _ c.in_ok-announce.ensures.all

-- ---- where memory ran out

pub returns-in_err-announce-clause-runs : goal.returns-in_err-announce-clause-runs
returns-in_err-announce-clause-runs g c = λ v stands. IfOk-from_err c.from_residual.result _ c.from_residual.ensures.0

pub returns-in_err-announce-clause-shown : goal.returns-in_err-announce-clause-shown
returns-in_err-announce-clause-shown g c = λ before v stands. IfOk-from_err c.from_residual.result _ c.from_residual.ensures.0

pub returns-in_err-announce-clause-sessions : goal.returns-in_err-announce-clause-sessions
returns-in_err-announce-clause-sessions g c = λ v stands. IfOk-from_err c.from_residual.result _ c.from_residual.ensures.0

pub returns-in_err-announce-clause-finished : goal.returns-in_err-announce-clause-finished
returns-in_err-announce-clause-finished g c = IfOk-from_err c.from_residual.result _ c.from_residual.ensures.0

pub returns-in_err-announce-clause-failures : goal.returns-in_err-announce-clause-failures
returns-in_err-announce-clause-failures g c = IfOk-from_err c.from_residual.result _ c.from_residual.ensures.0

pub returns-in_err-announce-clause-moments : goal.returns-in_err-announce-clause-moments
returns-in_err-announce-clause-moments g c = reads_none _ _ _ _ refl refl

pub returns-in_err-announce-clause-worth : goal.returns-in_err-announce-clause-worth
returns-in_err-announce-clause-worth g c = c.requires.worth

pub returns-in_err-announce-clause-went : goal.returns-in_err-announce-clause-went
returns-in_err-announce-clause-went g c = c.draws-draws.ensures.went

pub returns-in_err-announce-clause-bears : goal.returns-in_err-announce-clause-bears
returns-in_err-announce-clause-bears g c = λ bears. bears

pub returns-in_err-buffer-clause-runs : goal.returns-in_err-buffer-clause-runs
returns-in_err-buffer-clause-runs g c = λ v stands. IfOk-from_err c.from_residual-in_err-buffer.result _ c.from_residual-in_err-buffer.ensures.0

pub returns-in_err-buffer-clause-shown : goal.returns-in_err-buffer-clause-shown
returns-in_err-buffer-clause-shown g c = λ before v stands. IfOk-from_err c.from_residual-in_err-buffer.result _ c.from_residual-in_err-buffer.ensures.0

pub returns-in_err-buffer-clause-sessions : goal.returns-in_err-buffer-clause-sessions
returns-in_err-buffer-clause-sessions g c = λ v stands. IfOk-from_err c.from_residual-in_err-buffer.result _ c.from_residual-in_err-buffer.ensures.0

pub returns-in_err-buffer-clause-finished : goal.returns-in_err-buffer-clause-finished
returns-in_err-buffer-clause-finished g c = IfOk-from_err c.from_residual-in_err-buffer.result _ c.from_residual-in_err-buffer.ensures.0

pub returns-in_err-buffer-clause-failures : goal.returns-in_err-buffer-clause-failures
returns-in_err-buffer-clause-failures g c = IfOk-from_err c.from_residual-in_err-buffer.result _ c.from_residual-in_err-buffer.ensures.0

pub returns-in_err-buffer-clause-moments : goal.returns-in_err-buffer-clause-moments
returns-in_err-buffer-clause-moments g c = reads_none _ _ _ _ refl refl

pub returns-in_err-buffer-clause-worth : goal.returns-in_err-buffer-clause-worth
returns-in_err-buffer-clause-worth g c = c.requires.worth

pub returns-in_err-buffer-clause-went : goal.returns-in_err-buffer-clause-went
returns-in_err-buffer-clause-went g c = c.draws-draws.ensures.went

pub returns-in_err-buffer-clause-bears : goal.returns-in_err-buffer-clause-bears
returns-in_err-buffer-clause-bears g c = λ bears. bears

pub returns-in_err-progress-clause-runs : goal.returns-in_err-progress-clause-runs
returns-in_err-progress-clause-runs g c = λ v stands. IfOk-from_err c.from_residual-in_err-progress.result _ c.from_residual-in_err-progress.ensures.0

pub returns-in_err-progress-clause-shown : goal.returns-in_err-progress-clause-shown
returns-in_err-progress-clause-shown g c = λ before v stands. IfOk-from_err c.from_residual-in_err-progress.result _ c.from_residual-in_err-progress.ensures.0

pub returns-in_err-progress-clause-sessions : goal.returns-in_err-progress-clause-sessions
returns-in_err-progress-clause-sessions g c = λ v stands. IfOk-from_err c.from_residual-in_err-progress.result _ c.from_residual-in_err-progress.ensures.0

pub returns-in_err-progress-clause-finished : goal.returns-in_err-progress-clause-finished
returns-in_err-progress-clause-finished g c = IfOk-from_err c.from_residual-in_err-progress.result _ c.from_residual-in_err-progress.ensures.0

pub returns-in_err-progress-clause-failures : goal.returns-in_err-progress-clause-failures
returns-in_err-progress-clause-failures g c = IfOk-from_err c.from_residual-in_err-progress.result _ c.from_residual-in_err-progress.ensures.0

pub returns-in_err-progress-clause-moments : goal.returns-in_err-progress-clause-moments
returns-in_err-progress-clause-moments g c = reads_none _ _ _ _ refl refl

pub returns-in_err-progress-clause-worth : goal.returns-in_err-progress-clause-worth
returns-in_err-progress-clause-worth g c = c.requires.worth

pub returns-in_err-progress-clause-went : goal.returns-in_err-progress-clause-went
returns-in_err-progress-clause-went g c = c.draws-draws.ensures.went

pub returns-in_err-progress-clause-bears : goal.returns-in_err-progress-clause-bears
returns-in_err-progress-clause-bears g c = λ bears. bears

pub returns-in_err-run_rounds-clause-runs : goal.returns-in_err-run_rounds-clause-runs
returns-in_err-run_rounds-clause-runs g c = λ v stands. IfOk-from_err c.from_residual-in_err-run_rounds.result _ c.from_residual-in_err-run_rounds.ensures.0

pub returns-in_err-run_rounds-clause-shown : goal.returns-in_err-run_rounds-clause-shown
returns-in_err-run_rounds-clause-shown g c = λ before v stands. IfOk-from_err c.from_residual-in_err-run_rounds.result _ c.from_residual-in_err-run_rounds.ensures.0

pub returns-in_err-run_rounds-clause-sessions : goal.returns-in_err-run_rounds-clause-sessions
returns-in_err-run_rounds-clause-sessions g c = λ v stands. IfOk-from_err c.from_residual-in_err-run_rounds.result _ c.from_residual-in_err-run_rounds.ensures.0

pub returns-in_err-run_rounds-clause-finished : goal.returns-in_err-run_rounds-clause-finished
returns-in_err-run_rounds-clause-finished g c = IfOk-from_err c.from_residual-in_err-run_rounds.result _ c.from_residual-in_err-run_rounds.ensures.0

pub returns-in_err-run_rounds-clause-failures : goal.returns-in_err-run_rounds-clause-failures
returns-in_err-run_rounds-clause-failures g c = IfOk-from_err c.from_residual-in_err-run_rounds.result _ c.from_residual-in_err-run_rounds.ensures.0

-- ---- the moments, and the manager

pub returns-in_err-run_rounds-clause-moments : goal.returns-in_err-run_rounds-clause-moments
returns-in_err-run_rounds-clause-moments g c = c.run_rounds.ensures.moments

pub returns-in_err-run_rounds-clause-worth : goal.returns-in_err-run_rounds-clause-worth
returns-in_err-run_rounds-clause-worth g c = c.run_rounds.ensures.worth

pub returns-in_err-run_rounds-clause-went : goal.returns-in_err-run_rounds-clause-went
returns-in_err-run_rounds-clause-went g c = c.run_rounds.ensures.went.went

pub returns-in_err-run_rounds-clause-bears : goal.returns-in_err-run_rounds-clause-bears
returns-in_err-run_rounds-clause-bears g c = c.run_rounds.ensures.went.bears

pub returns-clause-moments : goal.returns-clause-moments
returns-clause-moments g c = c.run_rounds.ensures.moments

pub returns-clause-worth : goal.returns-clause-worth
returns-clause-worth g c = c.run_rounds.ensures.worth

pub returns-clause-went : goal.returns-clause-went
returns-clause-went g c = c.run_rounds.ensures.went.went

pub returns-clause-bears : goal.returns-clause-bears
returns-clause-bears g c = c.run_rounds.ensures.went.bears
