use Rattle.std.proofs.Common.{None, inl, refl, rules}
use Rattle.esdk_decrypt.proofs.Concluding.{passed_on}
use Rattle.esdk_run.specs.Trees.{trees_of}
use Rattle.esdk_run.proofs.Preparing.{pairs_not_prepared, tree_not_prepared}
use Rattle.esdk_run.proofs.prepared.prepare.Goals as goal

pub returns-in-Err-clause-cause : goal.returns-in-Err-clause-cause
returns-in-Err-clause-cause g c =
    pairs_not_prepared (trees_of g.P.Keyring.meaning c.args.plugs.items None) _ _ _ _ _ c.in-Err.error
    c.pairs_failure.result c.pairs_failure.ensures (search rules) refl

pub returns-in-Err-required_of-clause-cause : goal.returns-in-Err-required_of-clause-cause
returns-in-Err-required_of-clause-cause g c = inl refl

pub returns-in_err-tree-clause-cause : goal.returns-in_err-tree-clause-cause
returns-in_err-tree-clause-cause g c =
    passed_on _ c.from_residual.result c.in_err-tree.field-0.0 c.from_residual.ensures.1
    (tree_not_prepared (trees_of g.P.Keyring.meaning c.args.plugs.items None) _ _ _ _ _ c.in-Ok.context
    c.in_err-tree.field-0.0 (search rules) (search rules))

pub returns-clause-prepared : goal.returns-clause-prepared
returns-clause-prepared g c =
    record { given = search rules; keys = search rules; file = search rules; lawful = search rules }
