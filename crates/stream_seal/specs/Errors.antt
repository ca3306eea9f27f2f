-- What is shown of the errors.
use Rattle.std.specs.Prelude.{ℕ, List, codes}
use Rattle.esdk_fields.specs.Names.{refusal_name}
use Rattle.stream_seal.specs.declared.errors.SealError.{SealError}
use Rattle.stream_seal.specs.declared.errors.SealError.TheVariants as errors

-- what is shown of an error of a sealer
unfoldable pub seal_error_text : SealError → List ℕ
seal_error_text (errors.Refusal refusal) = refusal_name refusal
seal_error_text errors.Stopped = codes "the sealer has stopped"
seal_error_text errors.Memory = codes "memory ran out"
