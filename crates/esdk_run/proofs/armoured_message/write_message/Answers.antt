-- Without armour the sink itself takes the message. With armour an armoured output does, which hands
-- its lines on to the sink.
use Rattle.std.proofs.Common.{◌∙◌, ap, rules}
use Rattle.std.specs.Prelude.{⊤}
use Rattle.esdk_decrypt.proofs.Concluding.{passed_on}
use Rattle.esdk_run.proofs.ArmouredMessage.{armour_done, armour_ends, armour_undone, lent_done, lent_ended, sink_done, sink_ended}
use Rattle.esdk_run.proofs.armoured_message.write_message.Goals as goal

pub returns-then-not-armour-clause-done : goal.returns-then-not-armour-clause-done
returns-then-not-armour-clause-done g c =
    rw c.if-not-armour.true (sink_done g.O.Sink.state c.args.output.now c.encrypt.new.output _ _ _ _ _ c.encrypt.result c.encrypt.ensures.done)

pub returns-then-not-armour-clause-ends : goal.returns-then-not-armour-clause-ends
returns-then-not-armour-clause-ends g c =
    rw c.if-not-armour.true (sink_ended g.O.Sink.state c.args.output.now c.encrypt.new.output _ _ _ _ _ _ _ c.encrypt.result c.encrypt.ensures.ends)

pub returns-in_err-encrypt-clause-ends : goal.returns-in_err-encrypt-clause-ends
returns-in_err-encrypt-clause-ends g c =
    let state = g.O.Sink.state in
    let before = c.args.output.now in
    let old = c.new-text.result in
    let mid = c.encrypt-2.new.output in
    let error = c.in_err-encrypt.field-0.0 in
    let same = lent_ended state before old mid _ _ _ _ _ _ _ error c.in_err-encrypt.ensures.ends ∙ ap (λ r. r.ghost_name) c.new-text.ensures.output in
    rw c.if-not-armour.false (passed_on _ c.from_residual.result error c.from_residual.ensures.1
    (armour_ends state before old mid _ _ _ _ _ c.new-text.ensures.empty (ap (λ r. r.now) c.new-text.ensures.output) _ _ _ error c.in_err-encrypt.ensures.ends
    (search (rules, same))))

pub returns-in-Ok-clause-done : goal.returns-in-Ok-clause-done
returns-in-Ok-clause-done g c =
    let state = g.O.Sink.state in
    let before = c.args.output.now in
    let old = c.new-text.result in
    let mid = c.encrypt-2.new.output in
    let new = c.finish.new.self in
    let same = c.finish.ensures.output ∙ lent_done state before old mid _ _ _ _ _ c.in_ok-encrypt.ensures.done ∙ ap (λ r. r.ghost_name) c.new-text.ensures.output in
    rw c.if-not-armour.false (armour_done state before old mid _ _ _ _ _ c.new-text.ensures.empty (ap (λ r. r.now) c.new-text.ensures.output) _ c.in_ok-encrypt.ensures.done new.output.now
    (search (rules, same)) c.in-Ok.ensures.line)

pub returns-in-Err-clause-ends : goal.returns-in-Err-clause-ends
returns-in-Err-clause-ends g c =
    let state = g.O.Sink.state in
    let before = c.args.output.now in
    let old = c.new-text.result in
    let mid = c.encrypt-2.new.output in
    let new = c.finish.new.self in
    let same = c.finish.ensures.output ∙ lent_done state before old mid _ _ _ _ _ c.in_ok-encrypt.ensures.done ∙ ap (λ r. r.ghost_name) c.new-text.ensures.output in
    rw c.if-not-armour.false (armour_undone state before old mid _ _ _ _ _ c.new-text.ensures.empty (ap (λ r. r.now) c.new-text.ensures.output) _ c.in_ok-encrypt.ensures.done new.output.now
    (search (rules, same)) ⊤ ⊤ c.requires.some c.in-Err.ensures.line.0 c.in-Err.ensures.line.1)
