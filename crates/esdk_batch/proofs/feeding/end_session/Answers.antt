-- The session ends as the desk says, and what it gives is put behind its job's file.
use Rattle.std.proofs.Common.{◌≡◌, ◌∙◌, [], Ok, Err, IfOk, Some, None, sym, rules}
use Rattle.desk_core.specs.Desk.{DeskValue}
use Rattle.desk_core.specs.Stands.{Stands}
use Rattle.batch_report.specs.declared.job_lines.JobEnd.{JobEnd}
use Rattle.batch_report.specs.declared.job_lines.JobEnd.TheVariants as ends
use Rattle.esdk_batch.specs.Ending.{EndsSession}
use Rattle.esdk_batch.specs.Failures.{PieceCounts}
use Rattle.esdk_batch.specs.Files.{KeepsOthers}
use Rattle.esdk_batch.specs.FileEnd.{file_fails, file_takes}
use Rattle.esdk_batch.specs.ShelfCalls.{HasCalls, IsWrite}
use Rattle.esdk_batch.specs.Watching.{files_by}
use Rattle.esdk_batch.proofs.Ends.{session_broken, session_calls, session_keeps, session_put, session_same, session_whole}
use Rattle.esdk_batch.proofs.Faulting.{ended_soundly, errors_counted, session_counted}
use Rattle.esdk_batch.proofs.Keeping.{keeps_handed}
use Rattle.esdk_batch.proofs.Writing.{along, writes_file, writes_seen}
use Rattle.esdk_batch.proofs.feeding.end_session.Goals as goal

pub end_by-requires : goal.end_by-requires
end_by-requires g c = λ is.
    let (v, stands, (s, live)) = c.requires in
    let dead = (c.in-Err.ensures.not_live v stands).0 (λ i. Err (is i)) in
    let no : Some s ≡ None = sym live ∙ dead in cc

pub returns-in-Ok-clause-ends : goal.returns-in-Ok-clause-ends
returns-in-Ok-clause-ends g c = λ by v s from stands live.
    let after = c.end_into.new.output in
    let finishes = c.in-Ok.ensures.finishes v stands in
    let same = session_same (file_takes g.F.Shelf.state) (file_fails g.F.Shelf.state) _ after c.args.to.now _ _ _ _ _ (writes_file g.F.Shelf.state _ after) v c.args.session s (Ok tt) live finishes in
    along (λ (f : g.row.F.Denot). (w : DeskValue) × Stands c.end_into.new.self w × EndsSession c.args.session s v w c.args.to.now (files_by by (g.F.Shelf.state c.args.shelf.now)) (files_by by (g.F.Shelf.state f)) ends.Done) _ after.shelf.now
    (session_whole (file_takes g.F.Shelf.state) (file_fails g.F.Shelf.state) _ after c.args.to.now _ _ _ _ _ (writes_seen g.F.Shelf.state by _ after from) c.end_into.new.self v c.args.session s live finishes (c.in-Ok.ensures.stands v stands))
    (search (rules, same))

pub returns-in-Err-clause-ends : goal.returns-in-Err-clause-ends
returns-in-Err-clause-ends g c = λ by v s from stands live.
    let after = c.end_into.new.output in
    let finishes = c.in-Err.ensures.finishes v stands in
    let same = session_same (file_takes g.F.Shelf.state) (file_fails g.F.Shelf.state) _ after c.args.to.now _ _ _ _ _ (writes_file g.F.Shelf.state _ after) v c.args.session s (Err c.in-Err.error) live finishes in
    along (λ (f : g.row.F.Denot). IfOk c.end_by.result (λ (end : JobEnd). (w : DeskValue) × Stands c.end_into.new.self w × EndsSession c.args.session s v w c.args.to.now (files_by by (g.F.Shelf.state c.args.shelf.now)) (files_by by (g.F.Shelf.state f)) end))
    _ after.shelf.now
    (session_broken (file_takes g.F.Shelf.state) (file_fails g.F.Shelf.state) _ after c.args.to.now _ _ _ _ _ (writes_seen g.F.Shelf.state by _ after from) c.end_into.new.self v c.args.session s c.in-Err.error c.end_by.result live c.end_by.ensures
    finishes (c.in-Err.ensures.stands v stands))
    (search (rules, same))

pub returns-in-Err-clause-counts : goal.returns-in-Err-clause-counts
returns-in-Err-clause-counts g c = λ keyring there.
    let (v, stands, (s, live)) = c.requires in
    let after = c.end_into.new.output in
    let finishes = c.in-Err.ensures.finishes v stands in
    let put = session_put (file_takes g.F.Shelf.state) (file_fails g.F.Shelf.state) _ after c.args.to.now _ _ _ _ _ (writes_file g.F.Shelf.state _ after) v c.args.session s (Err c.in-Err.error) live finishes in
    let same = session_same (file_takes g.F.Shelf.state) (file_fails g.F.Shelf.state) _ after c.args.to.now _ _ _ _ _ (writes_file g.F.Shelf.state _ after) v c.args.session s (Err c.in-Err.error) live finishes in
    along (λ (f : g.row.F.Denot). IfOk c.end_by.result (λ (end : JobEnd). PieceCounts c.args.to.now (Some end) (g.F.Shelf.state c.args.shelf.now) (g.F.Shelf.state f) keyring keyring)) _ after.shelf.now
    (errors_counted c.in-Err.error c.end_by.result c.args.to.now _ _ _ _ keyring c.end_by.ensures put there
    (ended_soundly (file_takes g.F.Shelf.state) (file_fails g.F.Shelf.state) _ after (v.live c.args.session) s c.in-Err.error live finishes))
    (search (rules, same))

-- ---- the other sessions

pub returns-in-Ok-clause-sessions : goal.returns-in-Ok-clause-sessions
returns-in-Ok-clause-sessions g c = λ last beyond.
    keeps_handed last c.args.session c.args.desk.now c.end_into.new.self (c.requires.0, c.requires.1) (λ v stands. ([], (None, c.in-Ok.ensures.stands v stands))) beyond

pub returns-in-Err-clause-sessions : goal.returns-in-Err-clause-sessions
returns-in-Err-clause-sessions g c = λ last beyond.
    keeps_handed last c.args.session c.args.desk.now c.end_into.new.self (c.requires.0, c.requires.1) (λ v stands. ([], (None, c.in-Err.ensures.stands v stands))) beyond

-- ---- the calls of the shelf

pub returns-in-Ok-clause-calls : goal.returns-in-Ok-clause-calls
returns-in-Ok-clause-calls g c =
    let (v, stands, (s, live)) = c.requires in
    let after = c.end_into.new.output in
    let finishes = c.in-Ok.ensures.finishes v stands in
    let calls = session_calls (file_takes g.F.Shelf.state) (file_fails g.F.Shelf.state) _ after c.args.to.now _ _ _ _ _ (writes_file g.F.Shelf.state _ after) v c.args.session s (Ok tt) live finishes in
    let same = session_same (file_takes g.F.Shelf.state) (file_fails g.F.Shelf.state) _ after c.args.to.now _ _ _ _ _ (writes_file g.F.Shelf.state _ after) v c.args.session s (Ok tt) live finishes in
    along (λ (f : g.row.F.Denot). HasCalls (IsWrite c.args.to.now) (g.F.Shelf.state c.args.shelf.now) (g.F.Shelf.state f)) _ after.shelf.now calls (search (rules, same))

pub returns-in-Err-clause-calls : goal.returns-in-Err-clause-calls
returns-in-Err-clause-calls g c =
    let (v, stands, (s, live)) = c.requires in
    let after = c.end_into.new.output in
    let finishes = c.in-Err.ensures.finishes v stands in
    let calls = session_calls (file_takes g.F.Shelf.state) (file_fails g.F.Shelf.state) _ after c.args.to.now _ _ _ _ _ (writes_file g.F.Shelf.state _ after) v c.args.session s (Err c.in-Err.error) live finishes in
    let same = session_same (file_takes g.F.Shelf.state) (file_fails g.F.Shelf.state) _ after c.args.to.now _ _ _ _ _ (writes_file g.F.Shelf.state _ after) v c.args.session s (Err c.in-Err.error) live finishes in
    along (λ (f : g.row.F.Denot). HasCalls (IsWrite c.args.to.now) (g.F.Shelf.state c.args.shelf.now) (g.F.Shelf.state f)) _ after.shelf.now calls (search (rules, same))

-- ---- the other files

pub returns-in-Ok-clause-kept : goal.returns-in-Ok-clause-kept
returns-in-Ok-clause-kept g c =
    let (v, stands, (s, live)) = c.requires in
    let after = c.end_into.new.output in
    let finishes = c.in-Ok.ensures.finishes v stands in
    let same = session_same (file_takes g.F.Shelf.state) (file_fails g.F.Shelf.state) _ after c.args.to.now _ _ _ _ _ (writes_file g.F.Shelf.state _ after) v c.args.session s (Ok tt) live finishes in
    let keeps = session_keeps (file_takes g.F.Shelf.state) (file_fails g.F.Shelf.state) _ after c.args.to.now _ _ _ _ _ (writes_file g.F.Shelf.state _ after) v c.args.session s (Ok tt) live finishes in
    along (λ (f : g.row.F.Denot). KeepsOthers (g.F.Shelf.state c.args.shelf.now).files (g.F.Shelf.state f).files c.args.to.now) _ after.shelf.now keeps (search (rules, same))

pub returns-in-Err-clause-kept : goal.returns-in-Err-clause-kept
returns-in-Err-clause-kept g c =
    let (v, stands, (s, live)) = c.requires in
    let after = c.end_into.new.output in
    let finishes = c.in-Err.ensures.finishes v stands in
    let same = session_same (file_takes g.F.Shelf.state) (file_fails g.F.Shelf.state) _ after c.args.to.now _ _ _ _ _ (writes_file g.F.Shelf.state _ after) v c.args.session s (Err c.in-Err.error) live finishes in
    let keeps = session_keeps (file_takes g.F.Shelf.state) (file_fails g.F.Shelf.state) _ after c.args.to.now _ _ _ _ _ (writes_file g.F.Shelf.state _ after) v c.args.session s (Err c.in-Err.error) live finishes in
    along (λ (f : g.row.F.Denot). KeepsOthers (g.F.Shelf.state c.args.shelf.now).files (g.F.Shelf.state f).files c.args.to.now) _ after.shelf.now keeps (search (rules, same))

pub returns-in-Ok-clause-counts : goal.returns-in-Ok-clause-counts
returns-in-Ok-clause-counts g c = λ keyring there.
    let (v, stands, (s, live)) = c.requires in
    let after = c.end_into.new.output in
    let finishes = c.in-Ok.ensures.finishes v stands in
    let same = session_same (file_takes g.F.Shelf.state) (file_fails g.F.Shelf.state) _ after c.args.to.now _ _ _ _ _ (writes_file g.F.Shelf.state _ after) v c.args.session s (Ok tt) live finishes in
    along (λ (f : g.row.F.Denot). PieceCounts c.args.to.now (Some ends.Done) (g.F.Shelf.state c.args.shelf.now) (g.F.Shelf.state f) keyring keyring) _ after.shelf.now
    (session_counted (file_takes g.F.Shelf.state) (file_fails g.F.Shelf.state) _ after c.args.to.now _ _ _ _ _ (writes_file g.F.Shelf.state _ after) v c.args.session s keyring live finishes there) (search (rules, same))
