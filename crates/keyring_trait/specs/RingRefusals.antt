-- What is shown of what a keyring refuses, and of its errors.
use Rattle.std.specs.Prelude.{ℕ, List, codes}
use Rattle.keyring_trait.specs.declared.ring_refusals.RingRefusal.{RingRefusal}
use Rattle.keyring_trait.specs.declared.ring_refusals.RingRefusal.TheVariants as refusals
use Rattle.keyring_trait.specs.declared.ring_refusals.RingError.{RingError}
use Rattle.keyring_trait.specs.declared.ring_refusals.RingError.TheVariants as errors

-- what a keyring refuses
unfoldable pub ring_refusal_text : RingRefusal → List ℕ
ring_refusal_text refusals.NoGenerator = codes "no keyring generates a data key"
ring_refusal_text refusals.GeneratorHasKey = codes "the generator was handed a data key"

-- why it makes or finds no data key
unfoldable pub ring_error_text : RingError → List ℕ
ring_error_text (errors.Refused refusal) = ring_refusal_text refusal
ring_error_text errors.KeyringFault = codes "the keyring failed"
ring_error_text errors.Memory = codes "memory ran out"
