-- What the session hands over is put behind the file, and where an error ends it the job ends so.
use Rattle.std.proofs.Common.{◌≡◌, ◌∙◌, Ok, Err, Some, None, sym, rules}
use Rattle.keyring_trait.specs.Saying.{said_between}
use Rattle.desk_core.specs.Desk.{DeskValue, open_lines}
use Rattle.desk_core.specs.Stands.{Stands, manager_of}
use Rattle.esdk_batch.specs.Ending.{FeedsJobPiece}
use Rattle.esdk_batch.specs.Failures.{PieceCounts}
use Rattle.esdk_batch.specs.Files.{KeepsOthers}
use Rattle.esdk_batch.specs.FileEnd.{file_fails, file_takes}
use Rattle.esdk_batch.specs.ShelfCalls.{HasCalls, IsWrite}
use Rattle.esdk_batch.specs.Watching.{files_by}
use Rattle.esdk_batch.proofs.Faulting.{error_counted, feed_rose}
use Rattle.esdk_batch.proofs.FedPieces.{piece_calls, piece_counted, piece_ended, piece_keeps, piece_put, piece_same, piece_whole}
use Rattle.esdk_batch.proofs.Keeping.{keeps_handed}
use Rattle.esdk_batch.proofs.Managers.{admits_last}
use Rattle.esdk_batch.proofs.Writing.{along, writes_file, writes_seen}
use Rattle.esdk_batch.proofs.feeding.feed_piece.Goals as goal

pub feed_into-requires : goal.feed_into-requires
feed_into-requires g c = (c.requires.0, c.requires.1)

pub end_by-requires : goal.end_by-requires
end_by-requires g c = λ is.
    let (v, stands, (s, live)) = c.requires in
    let dead = (c.in-Err.ensures.not_live v stands).0 (λ i. Err (is i)) in
    let no : Some s ≡ None = sym live ∙ dead in cc

pub returns-in-Ok-clause-feeds : goal.returns-in-Ok-clause-feeds
returns-in-Ok-clause-feeds g c = λ by first last v s from admits stands live.
    let manager = said_between (g.M.Manager.state first) (g.M.Manager.state last) in
    let after = c.feed_into.new.output in
    let fed = c.in-Ok.ensures.feeds v stands in
    let same = piece_same g.M.Manager.state (file_takes g.F.Shelf.state) (file_fails g.F.Shelf.state) manager c.args.session c.args.now s c.args.piece.now c.args.to.now v c.args.desk.now c.feed_into.new.self _ after _ _ _ _ _
    (writes_file g.F.Shelf.state _ after) stands live (Ok tt) fed in
    along (λ (f : g.row.F.Denot). (w : DeskValue) × Stands c.feed_into.new.self w × FeedsJobPiece manager c.args.session s c.args.piece.now v w c.args.to.now (files_by by (g.F.Shelf.state c.args.shelf.now)) (files_by by (g.F.Shelf.state f)) None)
    _ after.shelf.now
    (piece_whole g.M.Manager.state (file_takes g.F.Shelf.state) (file_fails g.F.Shelf.state) manager c.args.session c.args.now s c.args.piece.now c.args.to.now v c.args.desk.now c.feed_into.new.self _ after _ _ _ _ _
    (writes_seen g.F.Shelf.state by _ after from) stands live (admits_last _ _ _ admits) fed)
    (search (rules, same))

pub returns-in_ok-end_by-in-Err-clause-feeds : goal.returns-in_ok-end_by-in-Err-clause-feeds
returns-in_ok-end_by-in-Err-clause-feeds g c = λ by first last v s from admits stands live.
    let manager = said_between (g.M.Manager.state first) (g.M.Manager.state last) in
    let after = c.feed_into.new.output in
    let fed = c.in-Err.ensures.feeds v stands in
    let end = c.in_ok-end_by-in-Err.field-0 in
    let same = piece_same g.M.Manager.state (file_takes g.F.Shelf.state) (file_fails g.F.Shelf.state) manager c.args.session c.args.now s c.args.piece.now c.args.to.now v c.args.desk.now c.feed_into.new.self _ after _ _ _ _ _
    (writes_file g.F.Shelf.state _ after) stands live (Err c.in-Err.error) fed in
    along (λ (f : g.row.F.Denot). (w : DeskValue) × Stands c.feed_into.new.self w × FeedsJobPiece manager c.args.session s c.args.piece.now v w c.args.to.now (files_by by (g.F.Shelf.state c.args.shelf.now)) (files_by by (g.F.Shelf.state f)) (Some end))
    _ after.shelf.now
    (piece_ended g.M.Manager.state (file_takes g.F.Shelf.state) (file_fails g.F.Shelf.state) manager c.args.session c.args.now s c.args.piece.now c.args.to.now v c.args.desk.now c.feed_into.new.self _ after _ _ _ _ _
    (writes_seen g.F.Shelf.state by _ after from) stands live c.in-Err.error end c.in_ok-end_by-in-Err.ensures (admits_last _ _ _ admits) fed)
    (search (rules, same))

pub returns-in_ok-end_by-in-Err-clause-counts : goal.returns-in_ok-end_by-in-Err-clause-counts
returns-in_ok-end_by-in-Err-clause-counts g c = λ there.
    let (v, stands, (s, live)) = c.requires in
    let manager = said_between (g.M.Manager.state (manager_of c.args.desk.now)) (g.M.Manager.state (manager_of c.args.desk.now)) in
    let after = c.feed_into.new.output in
    let fed = c.in-Err.ensures.feeds v stands in
    let end = c.in_ok-end_by-in-Err.field-0 in
    let put = piece_put g.M.Manager.state (file_takes g.F.Shelf.state) (file_fails g.F.Shelf.state) manager c.args.session c.args.now s c.args.piece.now c.args.to.now v c.args.desk.now c.feed_into.new.self _ after _ _ _ _ _
    (writes_file g.F.Shelf.state _ after) stands live (Err c.in-Err.error) fed in
    let same = piece_same g.M.Manager.state (file_takes g.F.Shelf.state) (file_fails g.F.Shelf.state) manager c.args.session c.args.now s c.args.piece.now c.args.to.now v c.args.desk.now c.feed_into.new.self _ after _ _ _ _ _
    (writes_file g.F.Shelf.state _ after) stands live (Err c.in-Err.error) fed in
    along (λ (f : g.row.F.Denot). PieceCounts c.args.to.now (Some end) (g.F.Shelf.state c.args.shelf.now) (g.F.Shelf.state f) (g.M.Manager.state (manager_of c.args.desk.now)).meaning.faults (g.M.Manager.state (manager_of c.feed_into.new.self)).meaning.faults)
    _ after.shelf.now
    (error_counted c.in-Err.error end c.args.to.now _ _ _ _ (g.M.Manager.state (manager_of c.args.desk.now)).meaning.faults (g.M.Manager.state (manager_of c.feed_into.new.self)).meaning.faults c.in_ok-end_by-in-Err.ensures put there
    c.in-Err.ensures.went.goes.later
    (feed_rose g.M.Manager.state (file_takes g.F.Shelf.state) (file_fails g.F.Shelf.state) v c.args.session c.args.now s c.args.piece.now c.args.desk.now c.feed_into.new.self _ after c.in-Err.error live fed))
    (search (rules, same))

-- ---- the other sessions

pub returns-in-Ok-clause-sessions : goal.returns-in-Ok-clause-sessions
returns-in-Ok-clause-sessions g c = λ last beyond.
    keeps_handed last c.args.session c.args.desk.now c.feed_into.new.self (c.requires.0, c.requires.1)
    (λ v stands. let fed = c.in-Ok.ensures.feeds v stands in (open_lines c.args.session c.args.now fed.heard, (fed.left, fed.stands))) beyond

pub returns-in_ok-end_by-in-Err-clause-sessions : goal.returns-in_ok-end_by-in-Err-clause-sessions
returns-in_ok-end_by-in-Err-clause-sessions g c = λ last beyond.
    keeps_handed last c.args.session c.args.desk.now c.feed_into.new.self (c.requires.0, c.requires.1)
    (λ v stands. let fed = c.in-Err.ensures.feeds v stands in (open_lines c.args.session c.args.now fed.heard, (fed.left, fed.stands))) beyond

pub returns-in_err-end_by-in-Err-clause-sessions : goal.returns-in_err-end_by-in-Err-clause-sessions
returns-in_err-end_by-in-Err-clause-sessions g c = λ last beyond.
    keeps_handed last c.args.session c.args.desk.now c.feed_into.new.self (c.requires.0, c.requires.1)
    (λ v stands. let fed = c.in-Err.ensures.feeds v stands in (open_lines c.args.session c.args.now fed.heard, (fed.left, fed.stands))) beyond

-- ---- the calls of the shelf

pub returns-in-Ok-clause-calls : goal.returns-in-Ok-clause-calls
returns-in-Ok-clause-calls g c =
    let (v, stands, (s, live)) = c.requires in
    let manager = said_between (g.M.Manager.state (manager_of c.args.desk.now)) (g.M.Manager.state (manager_of c.args.desk.now)) in
    let after = c.feed_into.new.output in
    let fed = c.in-Ok.ensures.feeds v stands in
    let calls = piece_calls g.M.Manager.state (file_takes g.F.Shelf.state) (file_fails g.F.Shelf.state) manager c.args.session c.args.now s c.args.piece.now c.args.to.now v c.args.desk.now c.feed_into.new.self _ after _ _ _ _ _
    (writes_file g.F.Shelf.state _ after) stands live (Ok tt) fed in
    let same = piece_same g.M.Manager.state (file_takes g.F.Shelf.state) (file_fails g.F.Shelf.state) manager c.args.session c.args.now s c.args.piece.now c.args.to.now v c.args.desk.now c.feed_into.new.self _ after _ _ _ _ _
    (writes_file g.F.Shelf.state _ after) stands live (Ok tt) fed in
    along (λ (f : g.row.F.Denot). HasCalls (IsWrite c.args.to.now) (g.F.Shelf.state c.args.shelf.now) (g.F.Shelf.state f)) _ after.shelf.now calls (search (rules, same))

pub returns-in_ok-end_by-in-Err-clause-calls : goal.returns-in_ok-end_by-in-Err-clause-calls
returns-in_ok-end_by-in-Err-clause-calls g c =
    let (v, stands, (s, live)) = c.requires in
    let manager = said_between (g.M.Manager.state (manager_of c.args.desk.now)) (g.M.Manager.state (manager_of c.args.desk.now)) in
    let after = c.feed_into.new.output in
    let fed = c.in-Err.ensures.feeds v stands in
    let calls = piece_calls g.M.Manager.state (file_takes g.F.Shelf.state) (file_fails g.F.Shelf.state) manager c.args.session c.args.now s c.args.piece.now c.args.to.now v c.args.desk.now c.feed_into.new.self _ after _ _ _ _ _
    (writes_file g.F.Shelf.state _ after) stands live (Err c.in-Err.error) fed in
    let same = piece_same g.M.Manager.state (file_takes g.F.Shelf.state) (file_fails g.F.Shelf.state) manager c.args.session c.args.now s c.args.piece.now c.args.to.now v c.args.desk.now c.feed_into.new.self _ after _ _ _ _ _
    (writes_file g.F.Shelf.state _ after) stands live (Err c.in-Err.error) fed in
    along (λ (f : g.row.F.Denot). HasCalls (IsWrite c.args.to.now) (g.F.Shelf.state c.args.shelf.now) (g.F.Shelf.state f)) _ after.shelf.now calls (search (rules, same))

pub returns-in_err-end_by-in-Err-clause-calls : goal.returns-in_err-end_by-in-Err-clause-calls
returns-in_err-end_by-in-Err-clause-calls g c =
    let (v, stands, (s, live)) = c.requires in
    let manager = said_between (g.M.Manager.state (manager_of c.args.desk.now)) (g.M.Manager.state (manager_of c.args.desk.now)) in
    let after = c.feed_into.new.output in
    let fed = c.in-Err.ensures.feeds v stands in
    let calls = piece_calls g.M.Manager.state (file_takes g.F.Shelf.state) (file_fails g.F.Shelf.state) manager c.args.session c.args.now s c.args.piece.now c.args.to.now v c.args.desk.now c.feed_into.new.self _ after _ _ _ _ _
    (writes_file g.F.Shelf.state _ after) stands live (Err c.in-Err.error) fed in
    let same = piece_same g.M.Manager.state (file_takes g.F.Shelf.state) (file_fails g.F.Shelf.state) manager c.args.session c.args.now s c.args.piece.now c.args.to.now v c.args.desk.now c.feed_into.new.self _ after _ _ _ _ _
    (writes_file g.F.Shelf.state _ after) stands live (Err c.in-Err.error) fed in
    along (λ (f : g.row.F.Denot). HasCalls (IsWrite c.args.to.now) (g.F.Shelf.state c.args.shelf.now) (g.F.Shelf.state f)) _ after.shelf.now calls (search (rules, same))

-- ---- the other files

pub returns-in-Ok-clause-kept : goal.returns-in-Ok-clause-kept
returns-in-Ok-clause-kept g c =
    let (v, stands, (s, live)) = c.requires in
    let manager = said_between (g.M.Manager.state (manager_of c.args.desk.now)) (g.M.Manager.state (manager_of c.args.desk.now)) in
    let after = c.feed_into.new.output in
    let fed = c.in-Ok.ensures.feeds v stands in
    let same = piece_same g.M.Manager.state (file_takes g.F.Shelf.state) (file_fails g.F.Shelf.state) manager c.args.session c.args.now s c.args.piece.now c.args.to.now v c.args.desk.now c.feed_into.new.self _ after _ _ _ _ _
    (writes_file g.F.Shelf.state _ after) stands live (Ok tt) fed in
    let keeps = piece_keeps g.M.Manager.state (file_takes g.F.Shelf.state) (file_fails g.F.Shelf.state) manager c.args.session c.args.now s c.args.piece.now c.args.to.now v c.args.desk.now c.feed_into.new.self _ after _ _ _ _ _
    (writes_file g.F.Shelf.state _ after) stands live (Ok tt) fed in
    along (λ (f : g.row.F.Denot). KeepsOthers (g.F.Shelf.state c.args.shelf.now).files (g.F.Shelf.state f).files c.args.to.now) _ after.shelf.now keeps (search (rules, same))

pub returns-in_ok-end_by-in-Err-clause-kept : goal.returns-in_ok-end_by-in-Err-clause-kept
returns-in_ok-end_by-in-Err-clause-kept g c =
    let (v, stands, (s, live)) = c.requires in
    let manager = said_between (g.M.Manager.state (manager_of c.args.desk.now)) (g.M.Manager.state (manager_of c.args.desk.now)) in
    let after = c.feed_into.new.output in
    let fed = c.in-Err.ensures.feeds v stands in
    let same = piece_same g.M.Manager.state (file_takes g.F.Shelf.state) (file_fails g.F.Shelf.state) manager c.args.session c.args.now s c.args.piece.now c.args.to.now v c.args.desk.now c.feed_into.new.self _ after _ _ _ _ _
    (writes_file g.F.Shelf.state _ after) stands live (Err c.in-Err.error) fed in
    let keeps = piece_keeps g.M.Manager.state (file_takes g.F.Shelf.state) (file_fails g.F.Shelf.state) manager c.args.session c.args.now s c.args.piece.now c.args.to.now v c.args.desk.now c.feed_into.new.self _ after _ _ _ _ _
    (writes_file g.F.Shelf.state _ after) stands live (Err c.in-Err.error) fed in
    along (λ (f : g.row.F.Denot). KeepsOthers (g.F.Shelf.state c.args.shelf.now).files (g.F.Shelf.state f).files c.args.to.now) _ after.shelf.now keeps (search (rules, same))

pub returns-in_err-end_by-in-Err-clause-kept : goal.returns-in_err-end_by-in-Err-clause-kept
returns-in_err-end_by-in-Err-clause-kept g c =
    let (v, stands, (s, live)) = c.requires in
    let manager = said_between (g.M.Manager.state (manager_of c.args.desk.now)) (g.M.Manager.state (manager_of c.args.desk.now)) in
    let after = c.feed_into.new.output in
    let fed = c.in-Err.ensures.feeds v stands in
    let same = piece_same g.M.Manager.state (file_takes g.F.Shelf.state) (file_fails g.F.Shelf.state) manager c.args.session c.args.now s c.args.piece.now c.args.to.now v c.args.desk.now c.feed_into.new.self _ after _ _ _ _ _
    (writes_file g.F.Shelf.state _ after) stands live (Err c.in-Err.error) fed in
    let keeps = piece_keeps g.M.Manager.state (file_takes g.F.Shelf.state) (file_fails g.F.Shelf.state) manager c.args.session c.args.now s c.args.piece.now c.args.to.now v c.args.desk.now c.feed_into.new.self _ after _ _ _ _ _
    (writes_file g.F.Shelf.state _ after) stands live (Err c.in-Err.error) fed in
    along (λ (f : g.row.F.Denot). KeepsOthers (g.F.Shelf.state c.args.shelf.now).files (g.F.Shelf.state f).files c.args.to.now) _ after.shelf.now keeps (search (rules, same))

pub returns-in-Ok-clause-counts : goal.returns-in-Ok-clause-counts
returns-in-Ok-clause-counts g c = λ there.
    let (v, stands, (s, live)) = c.requires in
    let manager = said_between (g.M.Manager.state (manager_of c.args.desk.now)) (g.M.Manager.state (manager_of c.args.desk.now)) in
    let after = c.feed_into.new.output in
    let fed = c.in-Ok.ensures.feeds v stands in
    let same = piece_same g.M.Manager.state (file_takes g.F.Shelf.state) (file_fails g.F.Shelf.state) manager c.args.session c.args.now s c.args.piece.now c.args.to.now v c.args.desk.now c.feed_into.new.self _ after _ _ _ _ _
    (writes_file g.F.Shelf.state _ after) stands live (Ok tt) fed in
    let asked = (g.M.Manager.state (manager_of c.args.desk.now)).meaning.faults in
    let failed = (g.M.Manager.state (manager_of c.feed_into.new.self)).meaning.faults in
    along (λ (f : g.row.F.Denot). PieceCounts c.args.to.now None (g.F.Shelf.state c.args.shelf.now) (g.F.Shelf.state f) asked failed) _ after.shelf.now
    (piece_counted g.M.Manager.state (file_takes g.F.Shelf.state) (file_fails g.F.Shelf.state) manager c.args.session c.args.now s c.args.piece.now c.args.to.now v c.args.desk.now c.feed_into.new.self _ after _ _ _ _ _
    (writes_file g.F.Shelf.state _ after) stands live asked failed fed there c.in-Ok.ensures.went.goes.later) (search (rules, same))
