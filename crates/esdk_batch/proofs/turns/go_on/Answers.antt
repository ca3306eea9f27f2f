-- A further turn is what its reading and its feeding come to.
use Rattle.std.proofs.Common.{◌≡◌, ◌∙◌, ◌+◌, false, Some, None, length, take, refl, sym, ap, arith, subst}
use Rattle.std.proofs.lemmas.List.{length-take-le}
use Rattle.std.proofs.lemmas.Result.{IfOk-from_err}
use Rattle.desk_core.specs.Desk.{DropSession, after_desk_call}
use Rattle.desk_core.specs.Stands.{manager_of, journal_of}
use Rattle.esdk_batch.specs.Failures.{tally_of}
use Rattle.esdk_batch.specs.FileEndLaws.{from_later}
use Rattle.esdk_batch.specs.ShelfCalls.{IsReadOf}
use Rattle.esdk_batch.specs.Turns.{HasKind}
use Rattle.esdk_batch.specs.Watching.{as_told, files_by}
use Rattle.esdk_batch.proofs.FedTurns.{broken_so, fed_as, fed_so, reported_is}
use Rattle.esdk_batch.proofs.FurtherLines.{broken_lines_so, draws_none, fed_lines, known, no_lines_so}
use Rattle.esdk_batch.proofs.FurtherTurns.{finished_so, turn_sooner, unread_so}
use Rattle.esdk_batch.proofs.Keeping.{keeps_dropped}
use Rattle.esdk_batch.proofs.Managers.{admits_between}
use Rattle.esdk_batch.proofs.Moments.{gains_none}
use Rattle.esdk_batch.proofs.ShelfCalls.{read_writes_turn, reads_further, reads_last, reads_no_more, reads_turn}
use Rattle.esdk_batch.proofs.TurnCounting.{counts_from, piece_as, piece_ended, piece_goes, there_mid, unread_counts}
use Rattle.esdk_batch.proofs.Watched.{piece_seen, read_known, still_seen}
use Rattle.esdk_batch.proofs.turns.go_on.Goals as goal

pub returns-in-Err-clause-turn : goal.returns-in-Err-clause-turn
returns-in-Err-clause-turn g c = λ by first last v from admits stands has. (
  after_desk_call v c.args.live.session false DropSession,
  c.drop_session.ensures.stands v stands,
  unread_so _ c.args.job.now c.args.live c.ended_job.result c.kind_of-kind.result c.as_str.result.now has.0 v _ _ _ _ c.in-Err.outside c.kind_of-kind.ensures c.ended_job.ensures has.1
      c.in-Err.ensures.reads (still_seen by _ _ c.read_piece.ensures.stays c.in-Err.ensures.tells),
)

pub returns-then-count-eq0-clause-turn : goal.returns-then-count-eq0-clause-turn
returns-then-count-eq0-clause-turn g c = λ by first last v from admits stands has.
    let mid = g.F.Shelf.state c.read_piece.new.shelf in
    let ends = c.in_ok-end.ensures.ends by v has.0 (from_later (IsReadOf c.as_str.result.now) by _ _ c.read_piece.ensures.calls from) stands has.1 in (
      ends.0,
      ends.1,
      turn_sooner _ c.args.job.now c.args.live c.ended_job-then-count-eq0.result v ends.0 _ (files_by by mid) _
          (λ held. read_known by _ _ c.as_str.result.now c.args.live.at (take c.in-Ok.count c.read_piece.new.buffer) from c.read_piece.ensures.stays c.in-Ok.ensures.tells held)
          (finished_so _ c.args.job.now c.args.live c.ended_job-then-count-eq0.result c.kind_of-kind.result c.as_str.result.now c.as_str-to.result.now has.0 v ends.0 (files_by by mid) (files_by by mid) _
          c.read_piece.new.buffer c.in-Ok.count c.in_ok-end.end c.kind_of-kind.ensures c.ended_job-then-count-eq0.ensures c.as_str.ensures.text c.as_str-to.ensures.text refl has.1
          (piece_seen by _ _ c.as_str.result.now c.args.live.at c.in-Ok.count c.read_piece.new.buffer from c.read_piece.ensures.stays c.in-Ok.ensures.tells c.in-Ok.ensures.reads.0) c.if-count-eq0.true ends.2),
    )

pub returns-then-count-eq0-clause-numbers : goal.returns-then-count-eq0-clause-numbers
returns-then-count-eq0-clause-numbers g c =
    let ready = c.requires.ready in
    let ends = c.in_ok-end.ensures.ends as_told ready.0 ready.2.0 tt ready.1 ready.2.1 in
    draws_none c.args.live c.ended_job-then-count-eq0.result c.kind_of-kind.result c.in_ok-end.end c.args.live.served _ _ c.ended_job-then-count-eq0.ensures (ends.1.last ∙ ends.2.desk.last ∙ sym ready.1.last)

pub returns-then-count-eq0-clause-lines : goal.returns-then-count-eq0-clause-lines
returns-then-count-eq0-clause-lines g c = λ v stands knows.
    let s = known c.args.job.now.work c.args.live v.live knows in
    let ends = c.in_ok-end.ensures.ends as_told v s.0 tt stands s.1 in
    (ends.0, ends.1, no_lines_so c.args.job.now c.args.live c.ended_job-then-count-eq0.result c.kind_of-kind.result c.in_ok-end.end v ends.0 c.ended_job-then-count-eq0.ensures ends.2.desk.journal)

pub returns-in-Some-clause-turn : goal.returns-in-Some-clause-turn
returns-in-Some-clause-turn g c = λ by first last v from admits stands has.
    let mid = g.F.Shelf.state c.read_piece.new.shelf in
    let feeds = c.in_ok-end-2.ensures.feeds by first last v has.0 (from_later (IsReadOf c.as_str.result.now) by _ _ c.read_piece.ensures.calls from) admits stands has.1 in
    let fed = fed_as _ c.args.live.session has.0 (take c.in-Ok.count c.read_piece.new.buffer) v feeds.0 _ c.args.job.now.to (files_by by mid) (files_by by mid) _ _ (Some c.in-Some.end)
    c.as_str-to.ensures.text refl c.in-Some.is feeds.2 in
    let journal : journal_of c.feed_piece.new.desk ≡ feeds.0.journal = feeds.1.journal in (
      feeds.0,
      feeds.1,
      turn_sooner _ c.args.job.now c.args.live c.ended_job-in-Some.result v feeds.0 _ (files_by by mid) _
          (λ held. read_known by _ _ c.as_str.result.now c.args.live.at (take c.in-Ok.count c.read_piece.new.buffer) from c.read_piece.ensures.stays c.in-Ok.ensures.tells held)
          (broken_so _ c.args.job.now c.args.live c.ended_job-in-Some.result c.kind_of-kind.result c.as_str.result.now c.either-served.result has.0 v feeds.0 (files_by by mid) _ c.read_piece.new.buffer c.in-Ok.count
          c.in-Some.end c.kind_of-kind.ensures c.ended_job-in-Some.ensures c.as_str.ensures.text has.1
          (piece_seen by _ _ c.as_str.result.now c.args.live.at c.in-Ok.count c.read_piece.new.buffer from c.read_piece.ensures.stays c.in-Ok.ensures.tells c.in-Ok.ensures.reads.0) fed
          (reported_is c.args.live.served c.served_since.result c.either-served.result (journal_of c.feed_piece.new.desk) v.journal fed.gained _ c.either-served.ensures
          c.served_since.ensures (journal ∙ fed.desk.journal) (ap length (c.journal-lines.ensures.lines v stands)))),
    )

pub returns-in-Some-clause-numbers : goal.returns-in-Some-clause-numbers
returns-in-Some-clause-numbers g c =
    let ready = c.requires.ready in
    let feeds = c.in_ok-end-2.ensures.feeds as_told (manager_of c.args.desk.now) (manager_of c.feed_piece.new.desk) ready.0 ready.2.0 tt (admits_between _ _) ready.1 ready.2.1 in
    draws_none c.args.live c.ended_job-in-Some.result c.kind_of-kind.result c.in-Some.end c.either-served.result _ _ c.ended_job-in-Some.ensures
    (feeds.1.last ∙ feeds.2.desk.last ∙ sym ready.1.last)

pub returns-in-Some-clause-lines : goal.returns-in-Some-clause-lines
returns-in-Some-clause-lines g c = λ v stands knows.
    let s = known c.args.job.now.work c.args.live v.live knows in
    let feeds = c.in_ok-end-2.ensures.feeds as_told (manager_of c.args.desk.now) (manager_of c.feed_piece.new.desk) v s.0 tt (admits_between _ _) stands s.1 in
    let fed = fed_as _ c.args.live.session s.0 (take c.in-Ok.count c.read_piece.new.buffer) v feeds.0 _ c.args.job.now.to _ _ _ _ (Some c.in-Some.end)
    c.as_str-to.ensures.text c.read_piece.ensures.stays c.in-Some.is feeds.2 in
    let journal : journal_of c.feed_piece.new.desk ≡ feeds.0.journal = feeds.1.journal in (
      feeds.0,
      feeds.1,
      broken_lines_so _ c.args.job.now c.args.live c.ended_job-in-Some.result c.kind_of-kind.result c.either-served.result v feeds.0 _ _ _ c.in-Some.end knows fed c.ended_job-in-Some.ensures
          (reported_is c.args.live.served c.served_since.result c.either-served.result (journal_of c.feed_piece.new.desk) v.journal fed.gained _ c.either-served.ensures
          c.served_since.ensures (journal ∙ fed.desk.journal) (ap length (c.journal-lines.ensures.lines v stands))),
    )

pub returns-in-None-clause-turn : goal.returns-in-None-clause-turn
returns-in-None-clause-turn g c = λ by first last v from admits stands has.
    let mid = g.F.Shelf.state c.read_piece.new.shelf in
    let feeds = c.in_ok-end-2.ensures.feeds by first last v has.0 (from_later (IsReadOf c.as_str.result.now) by _ _ c.read_piece.ensures.calls from) admits stands has.1 in
    let fed = fed_as _ c.args.live.session has.0 (take c.in-Ok.count c.read_piece.new.buffer) v feeds.0 _ c.args.job.now.to (files_by by mid) (files_by by mid) _ _ None
    c.as_str-to.ensures.text refl c.in-None.is feeds.2 in
    let journal : journal_of c.feed_piece.new.desk ≡ feeds.0.journal = feeds.1.journal in (
      feeds.0,
      feeds.1,
      turn_sooner _ c.args.job.now c.args.live _ v feeds.0 _ (files_by by mid) _
          (λ held. read_known by _ _ c.as_str.result.now c.args.live.at (take c.in-Ok.count c.read_piece.new.buffer) from c.read_piece.ensures.stays c.in-Ok.ensures.tells held)
          (fed_so _ c.args.job.now c.args.live c.as_str.result.now c.either-served.result has.0 v feeds.0 (files_by by mid) _ c.read_piece.new.buffer c.in-Ok.count
          c.as_str.ensures.text has.1
          (piece_seen by _ _ c.as_str.result.now c.args.live.at c.in-Ok.count c.read_piece.new.buffer from c.read_piece.ensures.stays c.in-Ok.ensures.tells c.in-Ok.ensures.reads.0) fed
          (reported_is c.args.live.served c.served_since.result c.either-served.result (journal_of c.feed_piece.new.desk) v.journal fed.gained _ c.either-served.ensures
          c.served_since.ensures (journal ∙ fed.desk.journal) (ap length (c.journal-lines.ensures.lines v stands)))),
    )

pub returns-in-None-clause-numbers : goal.returns-in-None-clause-numbers
returns-in-None-clause-numbers g c =
    let ready = c.requires.ready in
    let feeds = c.in_ok-end-2.ensures.feeds as_told (manager_of c.args.desk.now) (manager_of c.feed_piece.new.desk) ready.0 ready.2.0 tt (admits_between _ _) ready.1 ready.2.1 in
    (refl, feeds.1.last ∙ feeds.2.desk.last ∙ sym ready.1.last)

pub returns-in-None-clause-lines : goal.returns-in-None-clause-lines
returns-in-None-clause-lines g c = λ v stands knows.
    let s = known c.args.job.now.work c.args.live v.live knows in
    let feeds = c.in_ok-end-2.ensures.feeds as_told (manager_of c.args.desk.now) (manager_of c.feed_piece.new.desk) v s.0 tt (admits_between _ _) stands s.1 in
    let fed = fed_as _ c.args.live.session s.0 (take c.in-Ok.count c.read_piece.new.buffer) v feeds.0 _ c.args.job.now.to _ _ _ _ None
    c.as_str-to.ensures.text c.read_piece.ensures.stays c.in-None.is feeds.2 in
    let journal : journal_of c.feed_piece.new.desk ≡ feeds.0.journal = feeds.1.journal in (
      feeds.0,
      feeds.1,
      fed_lines _ c.args.job.now c.args.live (record { session = c.args.live.session; at = c.args.live.at + c.in-Ok.count; served = c.either-served.result }) v feeds.0 _ _ _ knows fed refl
          (reported_is c.args.live.served c.served_since.result c.either-served.result (journal_of c.feed_piece.new.desk) v.journal fed.gained _ c.either-served.ensures
          c.served_since.ensures (journal ∙ fed.desk.journal) (ap length (c.journal-lines.ensures.lines v stands))),
    )

-- ---- the moment

pub returns-in-Err-clause-moment : goal.returns-in-Err-clause-moment
returns-in-Err-clause-moment g c = gains_none c.args.now _ _ c.drop_session.ensures.journal

pub returns-then-count-eq0-clause-moment : goal.returns-then-count-eq0-clause-moment
returns-then-count-eq0-clause-moment g c = gains_none c.args.now _ _ c.end_session.ensures.journal

pub returns-in_err-end-clause-moment : goal.returns-in_err-end-clause-moment
returns-in_err-end-clause-moment g c = gains_none c.args.now _ _ c.end_session.ensures.journal

-- ---- what was counted

pub returns-in-Err-clause-counts : goal.returns-in-Err-clause-counts
returns-in-Err-clause-counts g c = λ entropy has.
    unread_counts c.args.job.now c.ended_job.result c.kind_of-kind.result c.args.live.served c.as_str.result.now (g.F.Shelf.state c.args.shelf.now) (g.F.Shelf.state c.read_piece.new.shelf) entropy _ _ c.args.live.at c.in-Err.outside c.ended_job.ensures c.as_str.ensures.text
    (ap (λ m. (g.M.Manager.state m).meaning.faults) c.drop_session.ensures.manager) c.in-Err.ensures.reads

pub returns-then-count-eq0-clause-counts : goal.returns-then-count-eq0-clause-counts
returns-then-count-eq0-clause-counts g c = λ entropy has.
    let there = there_mid _ _ c.args.job.now.to c.as_str-to.result.now c.read_piece.ensures.stays c.as_str-to.ensures.text has in
    let keyring = (g.M.Manager.state (manager_of c.end_session.new.desk)).meaning.faults in
    counts_from c.args.job.now c.ended_job-then-count-eq0.result
    (tally_of (g.F.Shelf.state c.args.shelf.now) entropy (g.M.Manager.state (manager_of c.args.desk.now)).meaning.faults)
    (tally_of (g.F.Shelf.state c.args.shelf.now) entropy (g.M.Manager.state (manager_of c.end_session.new.desk)).meaning.faults)
    (tally_of (g.F.Shelf.state c.end_session.new.shelf) entropy (g.M.Manager.state (manager_of c.end_session.new.desk)).meaning.faults) refl (omega arith)
    (omega (arith, ap (λ m. (g.M.Manager.state m).meaning.faults) c.in_ok-end.ensures.manager)) refl
    (piece_ended c.args.job.now c.ended_job-then-count-eq0.result c.as_str-to.result.now (g.F.Shelf.state c.args.shelf.now) (g.F.Shelf.state c.read_piece.new.shelf) (g.F.Shelf.state c.end_session.new.shelf) entropy keyring keyring c.in-Ok.ensures.reads.1
    (record { kind = c.kind_of-kind.result; end = c.in_ok-end.end; served = c.args.live.served }) c.ended_job-then-count-eq0.ensures (c.in_ok-end.ensures.counts keyring there))

pub returns-in-Some-clause-counts : goal.returns-in-Some-clause-counts
returns-in-Some-clause-counts g c = λ entropy has.
    let there = there_mid _ _ c.args.job.now.to c.as_str-to.result.now c.read_piece.ensures.stays c.as_str-to.ensures.text has in
    piece_ended c.args.job.now c.ended_job-in-Some.result c.as_str-to.result.now (g.F.Shelf.state c.args.shelf.now) (g.F.Shelf.state c.read_piece.new.shelf) (g.F.Shelf.state c.feed_piece.new.shelf) entropy _ _ c.in-Ok.ensures.reads.1
    (record { kind = c.kind_of-kind.result; end = c.in-Some.end; served = c.either-served.result }) c.ended_job-in-Some.ensures
    (piece_as c.as_str-to.result.now _ _ (g.F.Shelf.state c.read_piece.new.shelf) (g.F.Shelf.state c.feed_piece.new.shelf) _ _ c.in-Some.is (c.in_ok-end-2.ensures.counts there))

pub returns-in-None-clause-counts : goal.returns-in-None-clause-counts
returns-in-None-clause-counts g c = λ entropy has.
    let there = there_mid _ _ c.args.job.now.to c.as_str-to.result.now c.read_piece.ensures.stays c.as_str-to.ensures.text has in
    piece_goes c.args.job.now _ c.as_str-to.result.now (g.F.Shelf.state c.args.shelf.now) (g.F.Shelf.state c.read_piece.new.shelf) (g.F.Shelf.state c.feed_piece.new.shelf) entropy _ _ c.in-Ok.ensures.reads.1
    (record { session = c.args.live.session; at = c.args.live.at + c.in-Ok.count; served = c.either-served.result }) refl c.as_str-to.ensures.text
    (piece_as c.as_str-to.result.now _ _ (g.F.Shelf.state c.read_piece.new.shelf) (g.F.Shelf.state c.feed_piece.new.shelf) _ _ c.in-None.is (c.in_ok-end-2.ensures.counts there))

-- ---- the other sessions

pub returns-in-Err-clause-sessions : goal.returns-in-Err-clause-sessions
returns-in-Err-clause-sessions g c = λ last beyond.
    keeps_dropped last c.args.live.session c.args.desk.now c.drop_session.new.self (c.requires.ready.0, c.requires.ready.1) c.drop_session.ensures.stands beyond

-- ---- the calls of the shelf

pub returns-in-Err-clause-calls : goal.returns-in-Err-clause-calls
returns-in-Err-clause-calls g c = reads_turn c.args.job.now c.as_str.result.now _ _ c.as_str.ensures.text c.read_piece.ensures.calls

pub returns-then-count-eq0-clause-calls : goal.returns-then-count-eq0-clause-calls
returns-then-count-eq0-clause-calls g c =
    read_writes_turn c.args.job.now c.as_str.result.now c.as_str-to.result.now _ _ _ c.as_str.ensures.text c.as_str-to.ensures.text c.read_piece.ensures.calls c.end_session.ensures.calls

pub returns-in_err-end-clause-calls : goal.returns-in_err-end-clause-calls
returns-in_err-end-clause-calls g c =
    read_writes_turn c.args.job.now c.as_str.result.now c.as_str-to.result.now _ _ _ c.as_str.ensures.text c.as_str-to.ensures.text c.read_piece.ensures.calls c.end_session.ensures.calls

pub returns-in_err-end-2-clause-calls : goal.returns-in_err-end-2-clause-calls
returns-in_err-end-2-clause-calls g c =
    read_writes_turn c.args.job.now c.as_str.result.now c.as_str-to.result.now _ _ _ c.as_str.ensures.text c.as_str-to.ensures.text c.read_piece.ensures.calls c.feed_piece.ensures.calls

pub returns-in-Some-clause-calls : goal.returns-in-Some-clause-calls
returns-in-Some-clause-calls g c =
    read_writes_turn c.args.job.now c.as_str.result.now c.as_str-to.result.now _ _ _ c.as_str.ensures.text c.as_str-to.ensures.text c.read_piece.ensures.calls c.feed_piece.ensures.calls

pub returns-in-None-clause-calls : goal.returns-in-None-clause-calls
returns-in-None-clause-calls g c =
    read_writes_turn c.args.job.now c.as_str.result.now c.as_str-to.result.now _ _ _ c.as_str.ensures.text c.as_str-to.ensures.text c.read_piece.ensures.calls c.feed_piece.ensures.calls

-- ---- what of its file is read

pub returns-in-Err-clause-further : goal.returns-in-Err-clause-further
returns-in-Err-clause-further g c = reads_no_more c.args.job.now c.args.live c.ended_job.result _ _ _ c.ended_job.ensures c.in-Err.ensures.tells c.read_piece.ensures.calls.later

pub returns-then-count-eq0-clause-further : goal.returns-then-count-eq0-clause-further
returns-then-count-eq0-clause-further g c =
    reads_last c.args.job.now c.args.live c.as_str.result.now c.as_str-to.result.now _ _ _ (take c.in-Ok.count c.read_piece.new.buffer) c.as_str.ensures.text c.as_str-to.ensures.text
    c.read_piece.ensures.calls.later c.in-Ok.ensures.tells c.end_session.ensures.calls c.ended_job-then-count-eq0.result _ c.ended_job-then-count-eq0.ensures

pub returns-in-Some-clause-further : goal.returns-in-Some-clause-further
returns-in-Some-clause-further g c =
    reads_last c.args.job.now c.args.live c.as_str.result.now c.as_str-to.result.now _ _ _ (take c.in-Ok.count c.read_piece.new.buffer) c.as_str.ensures.text c.as_str-to.ensures.text
    c.read_piece.ensures.calls.later c.in-Ok.ensures.tells c.feed_piece.ensures.calls c.ended_job-in-Some.result _ c.ended_job-in-Some.ensures

pub returns-in-None-clause-further : goal.returns-in-None-clause-further
returns-in-None-clause-further g c =
    let long : length (take c.in-Ok.count c.read_piece.new.buffer) ≡ c.in-Ok.count = length-take-le c.in-Ok.count c.read_piece.new.buffer c.in-Ok.ensures.reads.0.fits in
    reads_further c.args.job.now c.args.live c.as_str.result.now c.as_str-to.result.now _ _ _ (take c.in-Ok.count c.read_piece.new.buffer) c.as_str.ensures.text c.as_str-to.ensures.text
    c.read_piece.ensures.calls.later c.in-Ok.ensures.tells c.feed_piece.ensures.calls (record { session = c.args.live.session; at = c.args.live.at + c.in-Ok.count; served = c.either-served.result })
    (omega (arith, long, c.if-count-eq0.false)) (omega (arith, long))

-- ---- memory ran out at the end

pub returns-in_err-end-clause-turn : goal.returns-in_err-end-clause-turn
returns-in_err-end-clause-turn g c = λ by first last v from admits stands has. IfOk-from_err c.from_residual.result _ c.from_residual.ensures.0

pub returns-in_err-end-clause-numbers : goal.returns-in_err-end-clause-numbers
returns-in_err-end-clause-numbers g c = IfOk-from_err c.from_residual.result _ c.from_residual.ensures.0

pub returns-in_err-end-clause-lines : goal.returns-in_err-end-clause-lines
returns-in_err-end-clause-lines g c = λ v stands knows. IfOk-from_err c.from_residual.result _ c.from_residual.ensures.0

pub returns-in_err-end-clause-kind : goal.returns-in_err-end-clause-kind
returns-in_err-end-clause-kind g c = IfOk-from_err c.from_residual.result _ c.from_residual.ensures.0

pub returns-in_err-end-clause-further : goal.returns-in_err-end-clause-further
returns-in_err-end-clause-further g c = IfOk-from_err c.from_residual.result _ c.from_residual.ensures.0

pub returns-in_err-end-clause-counts : goal.returns-in_err-end-clause-counts
returns-in_err-end-clause-counts g c = λ entropy has. IfOk-from_err c.from_residual.result _ c.from_residual.ensures.0

pub returns-in_err-end-clause-falls : goal.returns-in_err-end-clause-falls
returns-in_err-end-clause-falls g c = IfOk-from_err c.from_residual.result _ c.from_residual.ensures.0

-- ---- memory ran out at a piece

pub returns-in_err-end-2-clause-turn : goal.returns-in_err-end-2-clause-turn
returns-in_err-end-2-clause-turn g c = λ by first last v from admits stands has. IfOk-from_err c.from_residual-in_err-end-2.result _ c.from_residual-in_err-end-2.ensures.0

pub returns-in_err-end-2-clause-numbers : goal.returns-in_err-end-2-clause-numbers
returns-in_err-end-2-clause-numbers g c = IfOk-from_err c.from_residual-in_err-end-2.result _ c.from_residual-in_err-end-2.ensures.0

pub returns-in_err-end-2-clause-lines : goal.returns-in_err-end-2-clause-lines
returns-in_err-end-2-clause-lines g c = λ v stands knows. IfOk-from_err c.from_residual-in_err-end-2.result _ c.from_residual-in_err-end-2.ensures.0

pub returns-in_err-end-2-clause-kind : goal.returns-in_err-end-2-clause-kind
returns-in_err-end-2-clause-kind g c = IfOk-from_err c.from_residual-in_err-end-2.result _ c.from_residual-in_err-end-2.ensures.0

pub returns-in_err-end-2-clause-further : goal.returns-in_err-end-2-clause-further
returns-in_err-end-2-clause-further g c = IfOk-from_err c.from_residual-in_err-end-2.result _ c.from_residual-in_err-end-2.ensures.0

pub returns-in_err-end-2-clause-counts : goal.returns-in_err-end-2-clause-counts
returns-in_err-end-2-clause-counts g c = λ entropy has. IfOk-from_err c.from_residual-in_err-end-2.result _ c.from_residual-in_err-end-2.ensures.0

pub returns-in_err-end-2-clause-falls : goal.returns-in_err-end-2-clause-falls
returns-in_err-end-2-clause-falls g c = IfOk-from_err c.from_residual-in_err-end-2.result _ c.from_residual-in_err-end-2.ensures.0

-- ---- what the session's call keeps

pub returns-in_err-end-clause-sessions : goal.returns-in_err-end-clause-sessions
returns-in_err-end-clause-sessions g c = c.end_session.ensures.sessions

pub returns-in_err-end-clause-kept : goal.returns-in_err-end-clause-kept
returns-in_err-end-clause-kept g c = rw (c.as_str-to.ensures.text, c.read_piece.ensures.stays) at c.end_session.ensures.kept

pub returns-in_err-end-clause-worth : goal.returns-in_err-end-clause-worth
returns-in_err-end-clause-worth g c = c.end_session.ensures.worth

pub returns-then-count-eq0-clause-sessions : goal.returns-then-count-eq0-clause-sessions
returns-then-count-eq0-clause-sessions g c = c.end_session.ensures.sessions

pub returns-then-count-eq0-clause-kept : goal.returns-then-count-eq0-clause-kept
returns-then-count-eq0-clause-kept g c = rw (c.as_str-to.ensures.text, c.read_piece.ensures.stays) at c.end_session.ensures.kept

pub returns-then-count-eq0-clause-worth : goal.returns-then-count-eq0-clause-worth
returns-then-count-eq0-clause-worth g c = c.end_session.ensures.worth

pub returns-in_err-end-2-clause-sessions : goal.returns-in_err-end-2-clause-sessions
returns-in_err-end-2-clause-sessions g c = c.feed_piece.ensures.sessions

pub returns-in_err-end-2-clause-kept : goal.returns-in_err-end-2-clause-kept
returns-in_err-end-2-clause-kept g c = rw (c.as_str-to.ensures.text, c.read_piece.ensures.stays) at c.feed_piece.ensures.kept

pub returns-in_err-end-2-clause-worth : goal.returns-in_err-end-2-clause-worth
returns-in_err-end-2-clause-worth g c = c.feed_piece.ensures.worth

pub returns-in_err-end-2-clause-moment : goal.returns-in_err-end-2-clause-moment
returns-in_err-end-2-clause-moment g c = c.feed_piece.ensures.moment

pub returns-in_err-end-2-clause-went : goal.returns-in_err-end-2-clause-went
returns-in_err-end-2-clause-went g c = c.feed_piece.ensures.went

pub returns-in-Some-clause-sessions : goal.returns-in-Some-clause-sessions
returns-in-Some-clause-sessions g c = c.feed_piece.ensures.sessions

pub returns-in-Some-clause-kept : goal.returns-in-Some-clause-kept
returns-in-Some-clause-kept g c = rw (c.as_str-to.ensures.text, c.read_piece.ensures.stays) at c.feed_piece.ensures.kept

pub returns-in-Some-clause-worth : goal.returns-in-Some-clause-worth
returns-in-Some-clause-worth g c = c.feed_piece.ensures.worth

pub returns-in-Some-clause-moment : goal.returns-in-Some-clause-moment
returns-in-Some-clause-moment g c = c.feed_piece.ensures.moment

pub returns-in-Some-clause-went : goal.returns-in-Some-clause-went
returns-in-Some-clause-went g c = c.feed_piece.ensures.went

pub returns-in-None-clause-sessions : goal.returns-in-None-clause-sessions
returns-in-None-clause-sessions g c = c.feed_piece.ensures.sessions

pub returns-in-None-clause-kept : goal.returns-in-None-clause-kept
returns-in-None-clause-kept g c = rw (c.as_str-to.ensures.text, c.read_piece.ensures.stays) at c.feed_piece.ensures.kept

pub returns-in-None-clause-worth : goal.returns-in-None-clause-worth
returns-in-None-clause-worth g c = c.feed_piece.ensures.worth

pub returns-in-None-clause-moment : goal.returns-in-None-clause-moment
returns-in-None-clause-moment g c = c.feed_piece.ensures.moment

pub returns-in-None-clause-went : goal.returns-in-None-clause-went
returns-in-None-clause-went g c = c.feed_piece.ensures.went

-- ---- the kind

pub returns-in-Err-clause-kind : goal.returns-in-Err-clause-kind
returns-in-Err-clause-kind g c = subst (HasKind c.args.job.now.work) (sym c.ended_job.ensures) c.kind_of-kind.ensures

pub returns-then-count-eq0-clause-kind : goal.returns-then-count-eq0-clause-kind
returns-then-count-eq0-clause-kind g c = subst (HasKind c.args.job.now.work) (sym c.ended_job-then-count-eq0.ensures) c.kind_of-kind.ensures

pub returns-in-Some-clause-kind : goal.returns-in-Some-clause-kind
returns-in-Some-clause-kind g c = subst (HasKind c.args.job.now.work) (sym c.ended_job-in-Some.ensures) c.kind_of-kind.ensures

pub returns-in-None-clause-kind : goal.returns-in-None-clause-kind
returns-in-None-clause-kind g c = tt
