-- What is shown of the errors.
use Rattle.std.specs.Prelude.{ℕ, List, codes}
use Rattle.esdk_fields.specs.Names.{fault_name, outside_name}
use Rattle.esdk_decrypt.specs.declared.errors.DecryptError.{DecryptError}
use Rattle.esdk_decrypt.specs.declared.errors.DecryptError.TheVariants as errors

-- what is shown of why an input isn't decrypted
unfoldable pub decrypt_error_text : DecryptError → List ℕ
decrypt_error_text (errors.Fault fault) = fault_name fault
decrypt_error_text (errors.Outside outside) = outside_name outside
decrypt_error_text errors.Memory = codes "memory ran out"
