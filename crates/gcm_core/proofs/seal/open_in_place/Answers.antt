use Rattle.std.proofs.Common.{◌++◌}
use Rattle.cipher_spec.proofs.GcmLemmas.{sealed_from_opened, opened_from_sealed}
use Rattle.gcm_core.proofs.seal.open_in_place.Goals as goal

pub returns-clause-exact : goal.returns-clause-exact
returns-clause-exact c = λ t.
    let aad = c.args.first.now ++ c.args.second.now in
    (sealed_from_opened c.args.key.now c.args.iv.now aad t c.args.text.now c.args.tag.now, opened_from_sealed c.args.key.now c.args.iv.now aad t c.args.text.now c.args.tag.now)
