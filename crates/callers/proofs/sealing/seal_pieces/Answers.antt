use Rattle.std.proofs.Common.{[], None}
use Rattle.std.proofs.lemmas.List.{take_all, take_more, map-append, append-nil}
use Rattle.std.proofs.lemmas.List.Folds.{concat-append}
use Rattle.stream_seal.specs.Session.{new_sealing_session}
use Rattle.callers.proofs.Sealed.{sealing_ends, sealing_first, sealing_more}
use Rattle.callers.proofs.sealing.seal_pieces.Goals as goal

pub loop-piece-init : goal.loop-piece-init
loop-piece-init g c =
    let stands = c.in-Ok.ensures.stands in
    sealing_first c.args.materials.now c.args.frame_length c.args.message_id.now _ _ c.in-Ok.sealer c.header.result.now c.requires.some stands (c.header.ensures (new_sealing_session c.args.materials.now None c.args.frame_length c.args.message_id.now) stands) c.in_default.ensures.bytes

pub loop-piece-preserved : goal.loop-piece-preserved
loop-piece-preserved g c =
    rw (take_more c.args.pieces.now c.loop-piece.piece-index (record { ref_ptr = (0, 0); now = [] }) c.loop-piece-test.true, map-append, concat-append, append-nil)
    (sealing_more g.O.Sink.state c.args.materials.now c.args.frame_length c.args.message_id.now _ _ _ _ _ c.loop-piece.invariant _ _ c.in_ok-feed.ensures.feeds)

pub returns : goal.returns
returns g c = record {
  message = sealing_ends g.O.Sink.state c.args.materials.now c.args.frame_length c.args.message_id.now _ _ _ _ _
      (rw (take_all c.loop-piece.piece-index c.args.pieces.now c.loop-piece-test.false) at c.loop-piece.invariant) c.finish_into.result c.finish_into.ensures.ends;
}
