use Rattle.esdk_decrypt.proofs.Breaking.{never_off}
use Rattle.esdk_decrypt.proofs.decryption.feed_piece.Goals as goal

pub failure_of-requires : goal.failure_of-requires
failure_of-requires g c =
    let going = c.requires.going in
    never_off g.M.Manager.state g.O.Sink.state c.args.now going.session c.args.piece.now c.args.manager.now c.feed.new.manager c.args.output.now c.feed.new.output c.feed.new.opener
    c.in-Err.error going.goes (c.in-Err.ensures.fed going.session going.stands)

pub returns-in-Ok-clause-fed : goal.returns-in-Ok-clause-fed
returns-in-Ok-clause-fed g c = λ v stands. c.in-Ok.ensures.fed v stands

pub returns-in-Err-clause-fed : goal.returns-in-Err-clause-fed
returns-in-Err-clause-fed g c = λ v stands. (c.in-Err.error, c.in-Err.ensures.fed v stands, c.failure_of.ensures)
