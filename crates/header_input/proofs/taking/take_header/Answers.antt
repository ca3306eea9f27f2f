use Rattle.std.proofs.Common.{true, false, Ok, Err}
use Rattle.std.proofs.lemmas.Result.{err_from_is_err_and}
use Rattle.header_input.proofs.Feeding.{fed_same, going_first, going_on, going_refused, going_whole, lacks_buffer}
use Rattle.header_input.proofs.taking.take_header.Goals as goal

pub reading-init : goal.reading-init
reading-init g c = (
  going_first c.args.settings _ c.in_ok-pieces.pieces _ c.in_ok-pieces.ensures c.new-reader.ensures,
  g.met.S.Source.lasts_none _,
)

pub reading-preserved : goal.reading-preserved
reading-preserved g c =
    let going = c.reading.invariant.0 in
    let next = c.in_default.ensures.next in
    let fed = rw c.if-branch.false at (c.in_ok-feed.ensures c.args.settings going.bytes going.waits) in (
      going_on c.args.settings _ _ _ c.reading.pieces.taken c.next.new.self c.reading.reader
          c.feed.new.reader going next.0 next.1 next.2
          (fed_same c.args.settings going.bytes _ c.next.new.self.piece c.feed.new.reader (Ok false)
          c.piece.ensures fed),
      g.met.S.Source.lasts_more _ _ _ c.reading.invariant.1 c.in_default.ensures.lasts,
    )

pub returns-then-branch-clause-whole : goal.returns-then-branch-clause-whole
returns-then-branch-clause-whole g c =
    let going = c.reading.invariant.0 in
    let fed = rw c.if-branch.true at (c.in_ok-feed.ensures c.args.settings going.bytes going.waits) in
    going_whole c.args.settings _ _ _ c.reading.pieces.taken c.next.new.self.piece c.reading.reader
    c.feed.new.reader going c.in_default.ensures.next.0
    (fed_same c.args.settings going.bytes _ c.next.new.self.piece c.feed.new.reader (Ok true)
    c.piece.ensures fed)

pub returns-then-branch-clause-lasts : goal.returns-then-branch-clause-lasts
returns-then-branch-clause-lasts g c =
    g.met.S.Source.lasts_more _ _ _ c.reading.invariant.1 c.in_default.ensures.lasts

pub returns-in_err-feed-clause-cause : goal.returns-in_err-feed-clause-cause
returns-in_err-feed-clause-cause g c =
    let going = c.reading.invariant.0 in
    let fed = c.in_err-feed.ensures c.args.settings going.bytes going.waits in
    let p = err_from_is_err_and c.from_residual-in_err-feed.result c.from_residual-in_err-feed.ensures.1 in
    rw (p.1, p.2) (going_refused c.args.settings _ _ _ c.reading.pieces.taken c.next.new.self.piece c.reading.reader
    c.feed.new.reader c.in_err-feed.field-0.0 going c.in_default.ensures.next.0
    (fed_same c.args.settings going.bytes _ c.next.new.self.piece c.feed.new.reader
    (Err c.in_err-feed.field-0.0) c.piece.ensures fed))

pub returns-in_err-feed-clause-lasts : goal.returns-in_err-feed-clause-lasts
returns-in_err-feed-clause-lasts g c =
    g.met.S.Source.lasts_more _ _ _ c.reading.invariant.1 c.in_default.ensures.lasts

pub returns-in-Err-clause-lasts : goal.returns-in-Err-clause-lasts
returns-in-Err-clause-lasts g c =
    g.met.S.Source.lasts_more _ _ _ c.reading.invariant.1 c.in-Err.ensures.lasts

pub returns-in_err-pieces-clause-cause : goal.returns-in_err-pieces-clause-cause
returns-in_err-pieces-clause-cause g c =
    let p = err_from_is_err_and c.from_residual.result c.from_residual.ensures.1 in
    rw (p.1, p.2) (lacks_buffer c.args.settings _)
