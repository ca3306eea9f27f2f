-- Both ways: counter mode undoes itself, and the tag is the one computed.
use Rattle.cipher_spec.proofs.GcmLemmas.{opened_from_sealed, sealed_from_opened}
use Rattle.cipher_spec.proofs.gcm.opens_what_was_sealed.Goals as goal

pub returns : goal.returns
returns c key iv aad text cipher tag =
    (sealed_from_opened key iv aad text cipher tag, opened_from_sealed key iv aad text cipher tag)
