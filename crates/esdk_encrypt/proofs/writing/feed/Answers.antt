use Rattle.std.proofs.Common.{◌∙◌, ap, rules}
use Rattle.esdk_encrypt.proofs.GatheredFrames.{fails_early, fails_late, fed_short, fed_whole, short_taken}
use Rattle.esdk_encrypt.proofs.writing.feed.Goals as goal

-- ---- the piece was fed to its end

pub returns-in-Ok-hand_on-clause-feeds : goal.returns-in-Ok-hand_on-clause-feeds
returns-in-Ok-hand_on-clause-feeds g c = λ v stands feeding.
    let fed = c.in-Ok.ensures.feeds v stands feeding in
    let same = c.hand_on.ensures.same.output ∙ fed.taken.0.output ∙ ap (λ r. r.ghost_name) c.new-gathering.ensures.output in
    fed_whole g.O.Receiver.takes g.O.Receiver.fails v c.args.piece.now c.new-gathering.result c.feed.new.output c.feed.new.self (ap (λ r. r.now) c.new-gathering.ensures.gathered ∙ c.requires)
    c.args.output.now _ (ap (λ r. r.now) c.new-gathering.ensures.output) g.met.O.Receiver.takes_more g.met.O.Receiver.fails_behind c.hand_on.new.self.output.now (search (rules, same)) fed
    c.in-Ok-hand_on.ensures.handed

pub returns-in-Err-clause-feeds : goal.returns-in-Err-clause-feeds
returns-in-Err-clause-feeds g c = λ v stands feeding.
    let took = (c.in-Ok.ensures.feeds v stands feeding).taken in
    let same = c.hand_on.ensures.same.output ∙ took.0.output ∙ ap (λ r. r.ghost_name) c.new-gathering.ensures.output in
    fails_late g.O.Receiver.takes g.O.Receiver.fails v c.args.piece.now c.new-gathering.result c.feed.new.output c.feed.new.self (ap (λ r. r.now) c.new-gathering.ensures.gathered ∙ c.requires)
    c.args.output.now _ (ap (λ r. r.now) c.new-gathering.ensures.output) g.met.O.Receiver.takes_more g.met.O.Receiver.fails_behind c.hand_on.new.self.output.now (search (rules, same)) c.in-Err.error took
    c.in-Err.ensures.handed

-- ---- a byte of it was refused

pub returns-in-Ok-hand_on-2-clause-feeds : goal.returns-in-Ok-hand_on-2-clause-feeds
returns-in-Ok-hand_on-2-clause-feeds g c = λ v stands feeding.
    let old = c.new-gathering.result in
    let mid = c.feed.new.output in
    let fed = rw c.in-Err-Machine.field-0-is at c.in-Err-Machine.ensures.feeds v stands feeding in
    let took = short_taken g.O.Receiver.takes g.O.Receiver.fails v c.args.piece.now old mid c.feed.new.self c.in-Err-Machine.refused fed in
    let same = c.hand_on-in-Err-Machine.ensures.same.output ∙ took.0.output ∙ ap (λ r. r.ghost_name) c.new-gathering.ensures.output in
    fed_short g.O.Receiver.takes g.O.Receiver.fails v c.args.piece.now old mid c.feed.new.self (ap (λ r. r.now) c.new-gathering.ensures.gathered ∙ c.requires) c.args.output.now _
    (ap (λ r. r.now) c.new-gathering.ensures.output) g.met.O.Receiver.takes_more g.met.O.Receiver.fails_behind c.hand_on-in-Err-Machine.new.self.output.now (search (rules, same)) c.in-Err-Machine.refused fed
    c.in-Ok-hand_on-2.ensures.handed

pub returns-in-Err-hand_on-clause-feeds : goal.returns-in-Err-hand_on-clause-feeds
returns-in-Err-hand_on-clause-feeds g c = λ v stands feeding.
    let old = c.new-gathering.result in
    let mid = c.feed.new.output in
    let took = short_taken g.O.Receiver.takes g.O.Receiver.fails v c.args.piece.now old mid c.feed.new.self c.in-Err-Machine.refused
    (rw c.in-Err-Machine.field-0-is at c.in-Err-Machine.ensures.feeds v stands feeding) in
    let same = c.hand_on-in-Err-Machine.ensures.same.output ∙ took.0.output ∙ ap (λ r. r.ghost_name) c.new-gathering.ensures.output in
    fails_late g.O.Receiver.takes g.O.Receiver.fails v c.args.piece.now old mid c.feed.new.self (ap (λ r. r.now) c.new-gathering.ensures.gathered ∙ c.requires) c.args.output.now _
    (ap (λ r. r.now) c.new-gathering.ensures.output) g.met.O.Receiver.takes_more g.met.O.Receiver.fails_behind c.hand_on-in-Err-Machine.new.self.output.now (search (rules, same)) c.in-Err-hand_on.error took
    c.in-Err-hand_on.ensures.handed

-- ---- the receiver failed before

pub returns-in-Err-Receiver-clause-feeds : goal.returns-in-Err-Receiver-clause-feeds
returns-in-Err-Receiver-clause-feeds g c = λ v stands feeding.
    let fed = rw c.in-Err-Receiver.field-0-is at c.in-Err-Receiver.ensures.feeds v stands feeding in
    let same = fed.failed.0.output ∙ ap (λ r. r.ghost_name) c.new-gathering.ensures.output in
    fails_early g.O.Receiver.takes g.O.Receiver.fails v c.args.piece.now c.new-gathering.result c.feed.new.output c.feed.new.self (ap (λ r. r.now) c.new-gathering.ensures.gathered ∙ c.requires)
    c.args.output.now _ (ap (λ r. r.now) c.new-gathering.ensures.output) c.in-Err-Receiver.error fed (search (rules, same))
