-- What is shown of the errors.
use Rattle.std.specs.Prelude.{ℕ, List, codes}
use Rattle.esdk_fields.specs.Names.{outside_name, refusal_name}
use Rattle.esdk_encrypt.specs.declared.errors.EncryptError.{EncryptError}
use Rattle.esdk_encrypt.specs.declared.errors.EncryptError.TheVariants as errors

-- what is shown of why an input isn't encrypted
unfoldable pub encrypt_error_text : EncryptError → List ℕ
encrypt_error_text (errors.Refusal refusal) = refusal_name refusal
encrypt_error_text (errors.Outside outside) = outside_name outside
encrypt_error_text errors.Memory = codes "memory ran out"
