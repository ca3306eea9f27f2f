use Rattle.std.proofs.Common.{◌≡◌, ◌∙◌, Some, None, inr, refl}
use Rattle.std.proofs.lemmas.Result.{on_ok_weaker}
use Rattle.esdk_base.specs.Streams.{EntropyState, SourceState}
use Rattle.esdk_encrypt.specs.Gaining.{Gaining}
use Rattle.esdk_encrypt.proofs.Telling.{encrypts_more}
use Rattle.multi_keyring.specs.Tree.{tree_meaning}
use Rattle.esdk_run.specs.ArmouredMessage.{output_gains}
use Rattle.esdk_run.specs.Encrypt.{encrypt_asked}
use Rattle.esdk_run.specs.Trees.{trees_of}
use Rattle.esdk_run.proofs.Chain.{chain_says_more, errs_more, left_as_read}
use Rattle.esdk_run.proofs.Endings.{encryption_ran}
use Rattle.esdk_run.proofs.Preparing.{encrypt_not_begun, has_tree}
use Rattle.esdk_run.proofs.encrypt.run_encrypt.Goals as goal

pub returns-clause-runs : goal.returns-clause-runs
returns-clause-runs g c =
    let input : SourceState = g.S.Source.state c.args.input.now in
    let taken : SourceState = g.S.Source.state c.write_message-ended.new.input in
    let gains : Gaining = output_gains c.args.asked.now.armour (g.O.Sink.state c.args.output.now) (g.O.Sink.state c.write_message-ended.new.output) in
    let entropy : EntropyState = g.W.Entropy.state c.args.entropy.now in
    let spent : EntropyState = g.W.Entropy.state c.write_message-ended.new.entropy in
    let meaning = tree_meaning g.P.Keyring.meaning in
    let manager = c.in-Ok.prepared.manager in
    let left = c.write_message-ended.new.manager in
    let has = c.in-Ok.ensures.prepared in
    let back = c.into_ring.ensures ∙ c.into_inner.ensures in
    let asked = encrypt_asked c.args.asked.now c.in-Ok.prepared.context (meaning manager.0) (meaning c.into_ring.result) in
    let more = chain_says_more meaning manager left c.new-request.result 0 c.args.asked.now c.in-Ok.prepared.context c.into_ring.result has.keys c.new-request.ensures back in
    encryption_ran (trees_of g.P.Keyring.meaning c.args.plugs.items (Some c.into_ring.result)) c.args.asked.now _ _ _ _
    c.in-Ok.prepared.context _ _ c.write_message-ended.result
    (has_tree g.P.Keyring.meaning _ _ _ _ _ _ manager left c.into_ring.result has back c.write_message-ended.ensures.went)
    (on_ok_weaker c.write_message-ended.result (encrypts_more _ asked input taken gains entropy spent more) c.write_message-ended.ensures.done)
    (errs_more _ asked input taken gains entropy spent ((c.write_message-ended.new.input ≡ c.args.input.now) × (c.write_message-ended.new.output ≡ c.args.output.now))
    (c.write_message-ended.new.manager ≡ manager) (meaning c.into_ring.result ≡ meaning manager.0) c.write_message-ended.result more (left_as_read meaning manager left c.into_ring.result back)
    c.write_message-ended.ensures.ends)
    c.report_end.ensures.done c.report_end.ensures.said

pub returns-in-Err-clause-runs : goal.returns-in-Err-clause-runs
returns-in-Err-clause-runs g c =
    rw c.not_begun.ensures (inr (record {
      failure = c.in-Err.failure;
      because = encrypt_not_begun (trees_of g.P.Keyring.meaning c.args.plugs.items None) c.args.asked.now _ _ _ c.in-Err.failure c.in-Err.ensures.cause
          (record { same = ((refl, refl), refl); none = refl });
      said = c.tell_failure.ensures;
    }))
