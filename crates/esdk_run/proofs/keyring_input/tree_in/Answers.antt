use Rattle.std.proofs.Common.{Ok, ◌∙◌, ap, arith}
use Rattle.keyring_file.specs.Found.{wraps_of}
use Rattle.esdk_run.specs.Trees.{leaves_mean}
use Rattle.esdk_run.proofs.Auditing.{leaves_of_one}
use Rattle.esdk_run.proofs.Preparing.{tree_refused}
use Rattle.esdk_run.proofs.keyring_input.tree_in.Goals as goal

pub returns-in-Err-clause-cause : goal.returns-in-Err-clause-cause
returns-in-Err-clause-cause g c =
    tree_refused g.P.Keyring.meaning c.args.plugs.items c.args.bytes.now c.in-Err.error c.tree_failure.result
    c.tree_failure.ensures c.in-Err.ensures.answers

pub returns-in-Ok-clause-lawful : goal.returns-in-Ok-clause-lawful
returns-in-Ok-clause-lawful g c =
    record { told = c.wraps-wraps.ensures.told; few = omega (arith, c.wraps-wraps.ensures.value, c.wraps-wraps.ensures.bound) }

pub returns-in-Ok-clause-leaves : goal.returns-in-Ok-clause-leaves
returns-in-Ok-clause-leaves g c =
    ap (leaves_mean g.P.Keyring.meaning) c.in-Ok.ensures.answers ∙ ap Ok (leaves_of_one g.P.Keyring.meaning c.in-Ok.tree)

pub returns-in-Ok-clause-few : goal.returns-in-Ok-clause-few
returns-in-Ok-clause-few g c =
    c.leaves_are_few.ensures (wraps_of g.P.Keyring.meaning) g.P.Keyring.meaning c.args.bytes.now c.args.plugs.items c.in-Ok.tree c.requires.plugs c.in-Ok.ensures.answers
