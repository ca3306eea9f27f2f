use Rattle.c_session.proofs.Openings.{piece_opened, piece_not}
use Rattle.c_session.proofs.opening.feed_opener.Goals as goal

pub returns-in-Ok-clause-opens : goal.returns-in-Ok-clause-opens
returns-in-Ok-clause-opens g c = λ begun settings pairs taken given opens.
    piece_opened g.M.Manager.state begun c.args.manager.now c.args.opener.now c.args.waiting.now c.open_piece.new.waiting
    settings pairs taken given opens c.args.piece.now c.open_piece.new.manager c.open_piece.new.opener c.in-Ok.ensures.went
    (c.in-Ok.ensures.fed opens.fed.session opens.fed.stands)

pub returns-in-Err-clause-opens : goal.returns-in-Err-clause-opens
returns-in-Err-clause-opens g c = λ begun settings pairs taken given opens.
    rw c.unopened.ensures
    (piece_not g.M.Manager.state begun c.args.manager.now c.args.opener.now c.args.waiting.now c.open_piece.new.waiting
    settings pairs taken given opens c.args.piece.now c.open_piece.new.manager c.open_piece.new.opener c.in-Err.error
    (c.in-Err.ensures.fed opens.fed.session opens.fed.stands))
