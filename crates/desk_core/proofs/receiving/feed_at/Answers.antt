-- The machine of this number is fed; it is written back, and taken out after an error.
use Rattle.std.proofs.Common.{Ok, Err, sym, subst, rules}
use Rattle.std.specs.BTreeMap.{get}
use Rattle.std.specs.Box.{with_value}
use Rattle.std.specs.Global.{Box}
use Rattle.std.specs.Ordering.{nat_cmp}
use Rattle.desk_core.specs.declared.session.Session.{Session}
use Rattle.desk_core.specs.Stands.{StandsFor}
use Rattle.desk_core.proofs.Live.{taken_out}
use Rattle.desk_core.proofs.Receivers.{feeds_at}
use Rattle.desk_core.proofs.receiving.feed_at.Goals as goal

pub returns-in-Ok-clause-feeds : goal.returns-in-Ok-clause-feeds
returns-in-Ok-clause-feeds g c = λ live alive.
    let next : Box Session = with_value c.in-Some.session.now c.feed_session-answer.new.session in
    let written = (c.get_mut.follows.holds next).3 (search rules) in
    feeds_at g.M.Manager.state g.R.Receiver.takes g.R.Receiver.fails live c.args.id c.args.now c.args.piece.now _ _ _ _ (Ok tt) c.args.sessions.now (c.get_mut.follows.lender next) c.in-Some.session.now next
    c.args.journal.now.items c.feed_session-answer.new.journal.items alive c.in-Some.ensures.value
    (λ s stands. c.in-Ok.ensures.feeds s (subst (λ (m : Session). StandsFor m s) (sym c.deref_mut.ensures.value) stands)) written.0

pub returns-in-Err-clause-feeds : goal.returns-in-Err-clause-feeds
returns-in-Err-clause-feeds g c = λ live alive.
    let next : Box Session = with_value c.in-Some.session.now c.feed_session-answer.new.session in
    let written = (c.get_mut.follows.holds next).3 (search rules) in
    feeds_at g.M.Manager.state g.R.Receiver.takes g.R.Receiver.fails live c.args.id c.args.now c.args.piece.now _ _ _ _ (Err c.in-Err.error) c.args.sessions.now c.remove.new.self c.in-Some.session.now next
    c.args.journal.now.items c.feed_session-answer.new.journal.items alive c.in-Some.ensures.value
    (λ s stands. c.in-Err.ensures.feeds s (subst (λ (m : Session). StandsFor m s) (sym c.deref_mut.ensures.value) stands))
    (λ q. taken_out _ (get nat_cmp c.args.sessions.now q) _ _ _ (written.0 q) (c.remove.ensures.updates.0 q))
