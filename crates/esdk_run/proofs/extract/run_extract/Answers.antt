use Rattle.std.proofs.Common.{◌≡◌, ◌∙◌, Some, None, inr, refl}
use Rattle.std.specs.Prelude.{⊤}
use Rattle.header_codec.specs.Header.{no_limits}
use Rattle.esdk_base.specs.Streams.{ShelfState, SinkState}
use Rattle.multi_keyring.specs.Tree.{tree_meaning}
use Rattle.extract_core.proofs.Allowed.{extract_stops_more, extracts_more}
use Rattle.esdk_run.specs.Extract.{range_asked}
use Rattle.esdk_run.specs.Objects.{as_before}
use Rattle.esdk_run.specs.Pairs.{required_in}
use Rattle.esdk_run.specs.Trees.{trees_of}
use Rattle.esdk_run.proofs.Chain.{chain_allows}
use Rattle.esdk_run.proofs.Extraction.{extract_not_begun, extraction_ran}
use Rattle.esdk_run.proofs.Preparing.{has_tree}
use Rattle.esdk_run.proofs.extract.run_extract.Goals as goal

pub returns-clause-runs : goal.returns-clause-runs
returns-clause-runs g c = λ input entropy.
    let middle : ShelfState = g.F.Shelf.state c.prepare.new.shelf in
    let after : ShelfState = g.F.Shelf.state c.extract-ended.new.shelf in
    let output : SinkState = g.O.Sink.state c.args.output.now in
    let put : SinkState = g.O.Sink.state c.extract-ended.new.output in
    let manager = c.in-Ok.prepared.manager in
    let left = c.extract-ended.new.manager in
    let has = c.in-Ok.ensures.prepared in
    let back = c.into_ring.ensures ∙ c.into_inner.ensures in
    let allows = chain_allows 0 (tree_meaning g.P.Keyring.meaning) manager left (required_in c.args.asked.now.pairs) c.into_ring.result has.keys back in
    extraction_ran (trees_of g.P.Keyring.meaning c.args.plugs.items (Some c.into_ring.result)) c.args.asked.now _ _
    (as_before ⊤ _ _ ⊤) _ c.extract-ended.result
    (record {
      given = c.in-Ok.prepared.context;
      tree = _;
      left = _;
      middle = middle;
      has = has_tree g.P.Keyring.meaning _ _ _ _ _ _ manager left c.into_ring.result has back c.extract-ended.ensures.went;
      files = c.in-Ok.ensures.stays;
    })
    (extracts_more _ _ no_limits c.in-Ok.prepared.context (range_asked c.args.asked.now) middle after c.args.asked.now.from output put c.extract-ended.result allows (rw (c.none.ensures, c.as_str.ensures.text) at c.extract-ended.ensures.done))
    (extract_stops_more _ _ no_limits c.in-Ok.prepared.context (range_asked c.args.asked.now) middle after c.args.asked.now.from output put (c.extract-ended.new.output ≡ c.args.output.now) c.extract-ended.result allows (rw (c.none.ensures, c.as_str.ensures.text) at c.extract-ended.ensures.ends))
    c.extract-ended.ensures.faults c.extract-ended.ensures.calls (rw (c.none.ensures, c.as_str.ensures.text) at c.extract-ended.ensures.given) c.report_end.ensures.done c.report_end.ensures.said

pub returns-in-Err-clause-runs : goal.returns-in-Err-clause-runs
returns-in-Err-clause-runs g c = λ input entropy.
    rw c.not_begun.ensures (inr (record {
      failure = c.in-Err.failure;
      because = extract_not_begun (trees_of g.P.Keyring.meaning c.args.plugs.items None) c.args.asked.now _ _ (as_before ⊤ _ _ ⊤)
          c.in-Err.failure c.in-Err.ensures.cause
          (record { same = refl; none = refl });
      said = c.tell_failure.ensures;
    }))
