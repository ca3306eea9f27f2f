use Rattle.std.proofs.Common.{◌∙◌, ap, rules, Err}
use Rattle.esdk_base.specs.declared.receiver.FeedError.TheVariants as feeds
use Rattle.esdk_decrypt.proofs.GatheredContents.{fails_behind_error, fails_behind_piece, fails_early, fed_short, fed_whole, same_then}
use Rattle.esdk_decrypt.proofs.decryption.feed.Goals as goal

-- ---- the piece was fed to its end

pub returns-in-Ok-hand_on-clause-fed : goal.returns-in-Ok-hand_on-clause-fed
returns-in-Ok-hand_on-clause-fed g c = λ v stands.
    let fed = c.in-Ok.ensures.fed v stands in
    let same = c.hand_on.ensures.same.output ∙ fed.taken.0.output ∙ ap (λ r. r.ghost_name) c.new-gathering.ensures.output in
    fed_whole g.M.Manager.state g.O.Sink.state c.args.now v c.args.piece.now c.args.manager.now c.feed.new.manager c.new-gathering.result c.feed.new.output c.feed.new.self (ap (λ r. r.now) c.new-gathering.ensures.gathered ∙ c.requires.empty)
    c.args.output.now _ (ap (λ r. r.now) c.new-gathering.ensures.output) c.hand_on.new.self.output.now (search (rules, same)) fed c.in-Ok-hand_on.ensures.handed c.hand_on.ensures.none

pub returns-in-Err-clause-fed : goal.returns-in-Err-clause-fed
returns-in-Err-clause-fed g c = λ v stands.
    let fed = c.in-Ok.ensures.fed v stands in
    let same = c.hand_on.ensures.same.output ∙ fed.taken.0.output ∙ ap (λ r. r.ghost_name) c.new-gathering.ensures.output in
    fails_behind_piece g.M.Manager.state g.O.Sink.state c.args.now v c.args.piece.now c.args.manager.now c.feed.new.manager c.new-gathering.result c.feed.new.output c.feed.new.self (ap (λ r. r.now) c.new-gathering.ensures.gathered ∙ c.requires.empty)
    c.args.output.now _ (ap (λ r. r.now) c.new-gathering.ensures.output) c.hand_on.new.self.output.now (search (rules, same)) c.in-Err.error fed c.in-Err.ensures.handed

pub returns-in-Ok-hand_on-clause-empty : goal.returns-in-Ok-hand_on-clause-empty
returns-in-Ok-hand_on-clause-empty g c =
    let going = c.requires.going in
    let fed = c.in-Ok.ensures.fed going.session going.stands in
    let same = c.hand_on.ensures.same.gathered ∙ fed.taken.0.gathered ∙ ap (λ r. r.ghost_name) c.new-gathering.ensures.gathered in
    search (rules, same) ∙ c.hand_on.ensures.empty

-- ---- the opener failed

pub returns-in-Ok-hand_on-2-clause-fed : goal.returns-in-Ok-hand_on-2-clause-fed
returns-in-Ok-hand_on-2-clause-fed g c = λ v stands.
    let fed = rw c.in-Err-Machine.field-0-is at c.in-Err-Machine.ensures.fed v stands in
    let still = same_then g.M.Manager.state g.O.Sink.state c.args.now v c.args.piece.now c.args.manager.now c.feed.new.manager c.new-gathering.result c.feed.new.output c.feed.new.self (Err (feeds.Machine c.in-Err-Machine.error)) fed in
    let same = c.hand_on-in-Err-Machine.ensures.same.output ∙ still.output ∙ ap (λ r. r.ghost_name) c.new-gathering.ensures.output in
    fed_short g.M.Manager.state g.O.Sink.state c.args.now v c.args.piece.now c.args.manager.now c.feed.new.manager c.new-gathering.result c.feed.new.output c.feed.new.self (ap (λ r. r.now) c.new-gathering.ensures.gathered ∙ c.requires.empty)
    c.args.output.now _ (ap (λ r. r.now) c.new-gathering.ensures.output) c.hand_on-in-Err-Machine.new.self.output.now (search (rules, same)) c.in-Err-Machine.error fed c.in-Ok-hand_on-2.ensures.handed
    c.hand_on-in-Err-Machine.ensures.none

pub returns-in-Err-hand_on-clause-fed : goal.returns-in-Err-hand_on-clause-fed
returns-in-Err-hand_on-clause-fed g c = λ v stands.
    let fed = rw c.in-Err-Machine.field-0-is at c.in-Err-Machine.ensures.fed v stands in
    let still = same_then g.M.Manager.state g.O.Sink.state c.args.now v c.args.piece.now c.args.manager.now c.feed.new.manager c.new-gathering.result c.feed.new.output c.feed.new.self (Err (feeds.Machine c.in-Err-Machine.error)) fed in
    let same = c.hand_on-in-Err-Machine.ensures.same.output ∙ still.output ∙ ap (λ r. r.ghost_name) c.new-gathering.ensures.output in
    fails_behind_error g.M.Manager.state g.O.Sink.state c.args.now v c.args.piece.now c.args.manager.now c.feed.new.manager c.new-gathering.result c.feed.new.output c.feed.new.self (ap (λ r. r.now) c.new-gathering.ensures.gathered ∙ c.requires.empty)
    c.args.output.now _ (ap (λ r. r.now) c.new-gathering.ensures.output) c.hand_on-in-Err-Machine.new.self.output.now (search (rules, same)) c.in-Err-Machine.error c.in-Err-hand_on.failed fed
    c.in-Err-hand_on.ensures.handed

-- ---- the output failed before

pub returns-in-Err-Receiver-clause-fed : goal.returns-in-Err-Receiver-clause-fed
returns-in-Err-Receiver-clause-fed g c = λ v stands.
    let fed = rw c.in-Err-Receiver.field-0-is at c.in-Err-Receiver.ensures.fed v stands in
    let same = fed.failed.0.output ∙ ap (λ r. r.ghost_name) c.new-gathering.ensures.output in
    fails_early g.M.Manager.state g.O.Sink.state c.args.now v c.args.piece.now c.args.manager.now c.feed.new.manager c.new-gathering.result c.feed.new.output c.feed.new.self (ap (λ r. r.now) c.new-gathering.ensures.gathered ∙ c.requires.empty)
    c.args.output.now _ (ap (λ r. r.now) c.new-gathering.ensures.output) c.in-Err-Receiver.error fed (search (rules, same))
