use Rattle.esdk_decrypt.proofs.Concluding.{passed_on}
use Rattle.esdk_run.specs.Trees.{reading}
use Rattle.esdk_run.proofs.Preparing.{file_not_read, file_not_taken}
use Rattle.esdk_run.proofs.keyring_input.read_keyring.Goals as goal

pub returns-in_err-bytes-clause-cause : goal.returns-in_err-bytes-clause-cause
returns-in_err-bytes-clause-cause g c =
    passed_on _ c.from_residual.result c.in_err-bytes.field-0.0 c.from_residual.ensures.1
    (file_not_taken (reading g.P.Keyring.meaning c.args.plugs.items) _ _ _ _ c.in_err-bytes.ensures.cause)

pub returns-clause-cause : goal.returns-clause-cause
returns-clause-cause g c =
    file_not_read (reading g.P.Keyring.meaning c.args.plugs.items) _ _ _ _ _ c.tree_in.result c.bytes-2.ensures
    c.in_ok-bytes.ensures.file c.tree_in.ensures.cause
