use mir.Syntax.{w32}
use mir.Val.{SFits}
use Rattle.std.proofs.Common.{rules}
use Rattle.std.proofs.lemmas.Int.{to_z-of_z}
use Rattle.c_session.specs.Answer.{is_callers}
use Rattle.c_session.specs.FileSession.{KeepsRead}
use Rattle.c_session.specs.FileTree.{file_state}
use Rattle.c_session.specs.Session.{SessionFeeds}
use Rattle.esdk_c.proofs.Called.{called_so, goes_on}
use Rattle.esdk_c.proofs.going.esdk_feed.Goals as goal

pub returns-clause-feeds : goal.returns-clause-feeds
returns-clause-feeds c =
    let fits : SFits w32 c.hand_out.result = search rules in
    rw (to_z-of_z w32 c.hand_out.result fits)
    (called_so c.args.handle.now c.hand_out.new.handle c.hand_out.result _ c.in-Some.session.value c.in-Some.ensures.0
    (goes_on c.hand_out.new.handle c.hand_out.result
    (λ a s t. KeepsRead s t a (λ x y. SessionFeeds file_state x y c.args.piece.now a)) is_callers
    c.args.room.now c.hand_out.new.written c.hand_out.new.waits c.hand_out.new.room
    c.feed-answer.result _ c.in-Some.session.value c.feed-answer.new.self
    (rw c.deref_mut.ensures.value at c.feed-answer.ensures) c.hand_out.ensures c.is_callers-silent.ensures))
