-- The piece is fed to its end, unless memory is wanting.
use Rattle.esdk_gen.proofs.Openings.{opening_not, piece_opened}
use Rattle.esdk_gen.proofs.opening.feed_piece.Goals as goal

pub feed_into-requires : goal.feed_into-requires
feed_into-requires c = let (key, message, text, more, is) = c.requires in (is.at.value, is.at.stands)

pub unopened-requires : goal.unopened-requires
unopened-requires c =
    let (key, message, text, more, is) = c.requires in
    opening_not _ c.args.desk.now c.feed_into.new.self key c.args.id message text c.args.piece.now more c.args.opened.now c.feed_into.new.output is c.in-Err.error
    (λ old new bytes e over. over) (c.in-Err.ensures.feeds is.at.value is.at.stands)

pub returns-in-Ok : goal.returns-in-Ok
returns-in-Ok c = λ key message text more is.
    piece_opened _ c.args.desk.now c.feed_into.new.self key c.args.id message text c.args.piece.now more c.args.opened.now c.feed_into.new.output is
    (c.in-Ok.ensures.feeds is.at.value is.at.stands) c.in-Ok.ensures.went.tells
