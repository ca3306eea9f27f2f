use Rattle.std.proofs.Common.{◌≡◌, ◌∙◌, Some, None, inr, refl}
use Rattle.std.specs.Prelude.{⊤}
use Rattle.esdk_base.specs.Streams.{SinkState, SourceState}
use Rattle.multi_keyring.specs.Tree.{tree_meaning}
use Rattle.esdk_run.specs.Decrypt.{decrypt_settings}
use Rattle.esdk_run.specs.Objects.{as_before}
use Rattle.esdk_run.specs.Pairs.{required_in}
use Rattle.esdk_run.specs.Trees.{trees_of}
use Rattle.esdk_run.proofs.Chain.{chain_allows}
use Rattle.esdk_run.proofs.Endings.{decryption_ran}
use Rattle.esdk_run.proofs.Preparing.{decrypt_not_begun, has_tree}
use Rattle.esdk_run.proofs.UnarmouredReaders.{decrypts_as_more, stops_as_more}
use Rattle.esdk_run.proofs.decrypt.run_decrypt.Goals as goal

pub returns-clause-runs : goal.returns-clause-runs
returns-clause-runs g c = λ entropy.
    let input : SourceState = g.S.Source.state c.args.input.now in
    let taken : SourceState = g.S.Source.state c.decrypt_input-ended.new.input in
    let output : SinkState = g.O.Sink.state c.args.output.now in
    let put : SinkState = g.O.Sink.state c.decrypt_input-ended.new.output in
    let manager = c.in-Ok.prepared.manager in
    let left = c.decrypt_input-ended.new.manager in
    let has = c.in-Ok.ensures.prepared in
    let back = c.into_ring.ensures ∙ c.into_inner.ensures in
    let allows = chain_allows 0 (tree_meaning g.P.Keyring.meaning) manager left (required_in c.args.asked.now.pairs) c.into_ring.result has.keys back in
    decryption_ran (trees_of g.P.Keyring.meaning c.args.plugs.items (Some c.into_ring.result)) c.args.asked.now _ _
    (as_before _ _ _ ⊤) _ c.in-Ok.prepared.context _ _ c.decrypt_input-ended.result
    (has_tree g.P.Keyring.meaning _ _ _ _ _ _ manager left c.into_ring.result has back c.decrypt_input-ended.ensures.went)
    (decrypts_as_more c.args.asked.now.armour _ _ (decrypt_settings c.args.asked.now) c.in-Ok.prepared.context input taken output put c.decrypt_input-ended.result allows c.decrypt_input-ended.ensures.done)
    (stops_as_more c.args.asked.now.armour _ _ (decrypt_settings c.args.asked.now) c.in-Ok.prepared.context input taken output put (c.decrypt_input-ended.new.output ≡ c.args.output.now) c.decrypt_input-ended.result allows c.decrypt_input-ended.ensures.ends)
    c.report_end.ensures.told c.report_end.ensures.said

pub returns-in-Err-clause-runs : goal.returns-in-Err-clause-runs
returns-in-Err-clause-runs g c = λ entropy.
    rw c.not_begun.ensures (inr (record {
      failure = c.in-Err.failure;
      because = decrypt_not_begun (trees_of g.P.Keyring.meaning c.args.plugs.items None) c.args.asked.now _ _ (as_before _ _ _ ⊤)
          c.in-Err.failure c.in-Err.ensures.cause
          (record { same = (refl, refl); none = refl });
      said = c.tell_failure.ensures;
    }))
