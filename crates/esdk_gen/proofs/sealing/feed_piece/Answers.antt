-- The piece is fed to its end, since there is room for it.
use Rattle.esdk_gen.proofs.Sealings.{never_refused, piece_fed}
use Rattle.esdk_gen.proofs.sealing.feed_piece.Goals as goal

pub feed_into-requires : goal.feed_into-requires
feed_into-requires c = let (key, s, sealing, few) = c.requires in (sealing.at.value, sealing.at.stands)

pub ungathered-requires : goal.ungathered-requires
ungathered-requires c = λ machine is.
    let (key, s, sealing, few) = c.requires in
    never_refused _ _ c.args.desk.now c.feed_into.new.self key c.args.id s c.args.piece.now c.args.message.now c.feed_into.new.output sealing few c.in-Err.error
    (c.in-Err.ensures.feeds sealing.at.value sealing.at.stands) machine is

pub returns-in-Ok : goal.returns-in-Ok
returns-in-Ok c = λ key s sealing few.
    piece_fed _ _ c.args.desk.now c.feed_into.new.self key c.args.id s c.args.piece.now c.args.message.now c.feed_into.new.output sealing few
    (c.in-Ok.ensures.feeds sealing.at.value sealing.at.stands)
