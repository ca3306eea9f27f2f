use Rattle.std.proofs.Common.{◌≡◌, ◌∙◌, Some, None, ap, inr, refl}
use Rattle.esdk_base.specs.Streams.{EntropyState, ShelfState, SinkState, SourceState}
use Rattle.multi_keyring.specs.Tree.{tree_meaning}
use Rattle.esdk_run.specs.Pairs.{required_in}
use Rattle.esdk_run.specs.Trees.{Trees, trees_of}
use Rattle.esdk_run.proofs.Chain.{chain_allows, chain_goes, left_as_read}
use Rattle.esdk_run.proofs.Preparing.{has_tree}
use Rattle.esdk_run.proofs.Resealing.{no_second, reseal_not_begun, resealing_ran, second_goes, second_has, tree_ends, tree_reseals}
use Rattle.esdk_run.proofs.Unplugged.{second_read}
use Rattle.esdk_run.proofs.reseal.run_reseal.Goals as goal

pub returns-clause-runs : goal.returns-clause-runs
returns-clause-runs g c =
    let meaning = tree_meaning g.P.Keyring.meaning in
    let input : SourceState = g.S.Source.state c.args.input.now in
    let taken : SourceState = g.S.Source.state c.reseal-ended.new.input in
    let output : SinkState = g.O.Sink.state c.args.output.now in
    let put : SinkState = g.O.Sink.state c.reseal-ended.new.output in
    let entropy : EntropyState = g.W.Entropy.state c.args.entropy.now in
    let spent : EntropyState = g.W.Entropy.state c.reseal-ended.new.entropy in
    let manager = c.in-Ok.prepared.manager in
    let has = c.in-Ok.ensures.prepared in
    let back = c.into_ring-2.ensures ∙ c.into_inner-2.ensures in
    let trees : Trees = trees_of g.P.Keyring.meaning c.args.plugs.items (Some c.into_ring-2.result) in
    let between : ShelfState = g.F.Shelf.state c.prepare.new.shelf in
    let allows = chain_allows 0 meaning manager c.reseal-ended.new.opening (required_in c.args.asked.now.pairs) c.into_ring-2.result has.keys back in
    let sealing =
    second_has meaning trees c.args.asked.now between (g.F.Shelf.state c.read_keyring.new.shelf) c.in-Ok-read_keyring.second c.new-sealing.result c.new-sealing.ensures
    (second_read g.P.Keyring.meaning c.args.plugs.items (Some c.into_ring-2.result) c.args.asked.now between (g.F.Shelf.state c.read_keyring.new.shelf) (meaning c.in-Ok-read_keyring.second)
    (rw c.new-none.ensures.items at (rw c.as_str.ensures.text at c.in-Ok-read_keyring.ensures.tree)) c.in-Ok-read_keyring.ensures.lawful) in
    let goes = second_goes (meaning c.new-sealing.result) (meaning c.reseal-ended.new.sealing) c.reseal-ended.ensures.sealing in
    let stayed = goes.still sealing.steady in
    resealing_ran trees c.args.asked.now _ _ _ _ c.in-Ok.prepared.context (meaning manager.0) (meaning c.into_ring-2.result) between
    (meaning c.new-sealing.result) (meaning c.reseal-ended.new.sealing) c.reseal-ended.result
    (record {
      has = has_tree g.P.Keyring.meaning _ _ _ _ _ _ manager c.reseal-ended.new.opening c.into_ring-2.result has back c.reseal-ended.ensures.opening;
      files = c.in-Ok.ensures.stays;
    })
    sealing goes
    (tree_reseals c.args.asked.now c.in-Ok.prepared.context (meaning manager.0) (meaning c.into_ring-2.result) (meaning c.new-sealing.result) (meaning c.reseal-ended.new.sealing) stayed _ _ allows input taken output put entropy spent c.reseal-ended.result (rw c.options_of.ensures at c.reseal-ended.ensures.done))
    (tree_ends c.args.asked.now c.in-Ok.prepared.context (meaning manager.0) (meaning c.into_ring-2.result) (meaning c.new-sealing.result) (meaning c.reseal-ended.new.sealing) stayed _ _ allows input taken output put entropy spent
    ((c.reseal-ended.new.input ≡ c.args.input.now) × (c.reseal-ended.new.output ≡ c.args.output.now))
    ((c.reseal-ended.new.opening ≡ manager) × (c.reseal-ended.new.sealing ≡ c.new-sealing.result))
    ((meaning c.into_ring-2.result ≡ meaning manager.0) × (meaning c.reseal-ended.new.sealing ≡ meaning c.new-sealing.result)) c.reseal-ended.result
    (λ same. (left_as_read meaning manager c.reseal-ended.new.opening c.into_ring-2.result back same.0, ap meaning same.1)) (rw c.options_of.ensures at c.reseal-ended.ensures.ends))
    c.report_end.ensures.told c.report_end.ensures.said

pub returns-in-Err-read_keyring-clause-runs : goal.returns-in-Err-read_keyring-clause-runs
returns-in-Err-read_keyring-clause-runs g c =
    let meaning = tree_meaning g.P.Keyring.meaning in
    let manager = c.in-Ok.prepared.manager in
    let has = c.in-Ok.ensures.prepared in
    let back = c.into_ring.ensures ∙ c.into_inner.ensures in
    inr (record {
      failure = c.in-Err-read_keyring.failure;
      because = no_second (trees_of g.P.Keyring.meaning c.args.plugs.items (Some c.into_ring.result)) c.args.asked.now _ _ _ c.in-Ok.prepared.context (meaning manager.0)
          (g.F.Shelf.state c.prepare.new.shelf) c.in-Err-read_keyring.failure
          (record {
            has = record {
              given = has.given;
              file = has.file;
              lawful = has.lawful;
              kept = λ i. Some (meaning (back i));
              goes = chain_goes meaning manager manager manager.0 refl c.wraps-wraps.ensures.stays;
            };
            files = c.in-Ok.ensures.stays;
          })
          (rw c.new-none.ensures.items at (rw c.as_str.ensures.text at c.in-Err-read_keyring.ensures.cause))
          ((refl, refl), refl);
      said = c.tell_failure-in-Err-read_keyring.ensures;
    })

pub returns-in-Err-clause-runs : goal.returns-in-Err-clause-runs
returns-in-Err-clause-runs g c =
    rw c.not_begun.ensures (inr (record {
      failure = c.in-Err.failure;
      because = reseal_not_begun (trees_of g.P.Keyring.meaning c.args.plugs.items None) c.args.asked.now _ _ _ c.in-Err.failure c.in-Err.ensures.cause
          (record { same = ((refl, refl), refl); none = refl });
      said = c.tell_failure.ensures;
    }))
