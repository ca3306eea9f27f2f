use Rattle.stream_seal.proofs.Feeding.{is_feeding}
use Rattle.c_session.proofs.Sealings.{piece_not, piece_taken}
use Rattle.c_session.proofs.sealing.feed_sealer.Goals as goal

pub returns-in-Ok : goal.returns-in-Ok
returns-in-Ok c = λ v given seals.
    piece_taken (Unit {0}) c.args.sealer.now c.args.waiting.now c.feed.new.output v given seals
    c.args.piece.now c.feed.new.self
    (c.in-Ok.ensures.feeds v seals.stands (is_feeding v c.args.piece.now seals.fed))

pub returns-in-Err : goal.returns-in-Err
returns-in-Err c = λ v given seals.
    rw c.unsealed.ensures
    (piece_not _ c.args.sealer.now c.args.waiting.now c.feed.new.output v given seals
    c.args.piece.now c.feed.new.self c.in-Err.error
    (c.in-Err.ensures.feeds v seals.stands (is_feeding v c.args.piece.now seals.fed)))
