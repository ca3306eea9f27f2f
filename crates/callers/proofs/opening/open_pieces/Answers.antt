use Rattle.std.proofs.Common.{◌∙◌, [], sym}
use Rattle.std.proofs.lemmas.List.{take_all, take_more, map-append, append-nil}
use Rattle.std.proofs.lemmas.List.Folds.{concat-append}
use Rattle.header_codec.specs.Header.{no_limits}
use Rattle.stream_open.specs.Session.{opening_finished}
use Rattle.callers.proofs.Opened.{opening_first, opening_more, opens_whole}
use Rattle.callers.proofs.opening.open_pieces.Goals as goal

pub loop-piece-init : goal.loop-piece-init
loop-piece-init g c = opening_first no_limits c.args.given _ c.new-opener.result (rw c.none.ensures at c.new-opener.ensures)

pub loop-piece-preserved : goal.loop-piece-preserved
loop-piece-preserved g c =
    rw (take_more c.args.pieces.now c.loop-piece.piece-index (record { ref_ptr = (0, 0); now = [] }) c.loop-piece-test.true, map-append, concat-append, append-nil)
    (opening_more g.M.Manager.state g.O.Sink.state c.args.now no_limits _ _ _ _ _ _ _ _ _ c.loop-piece.invariant c.in_ok-feed.ensures.fed)

pub returns-in-Some : goal.returns-in-Some
returns-in-Some g c =
    let taken = rw (take_all c.loop-piece.piece-index c.args.pieces.now c.loop-piece-test.false) at c.loop-piece.invariant in
    let finish = c.in_default.ensures in
    record {
      whole = opens_whole no_limits _ _ _ c.loop-piece.opener c.in-Some.context taken (sym (finish.answer taken.session taken.stands))
          (sym (c.into_context.ensures (opening_finished taken.session) (finish.stands taken.session taken.stands)) ∙ c.in-Some.is);
    }
