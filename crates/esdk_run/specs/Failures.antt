-- What the errors of the calls below are called in the program.
use Rattle.context_codec.specs.declared.insert.PairError.{PairError}
use Rattle.context_codec.specs.declared.insert.PairError.TheVariants as pairs
use Rattle.esdk_args.specs.declared.request.WordsFault.{WordsFault}
use Rattle.esdk_args.specs.declared.request.WordsFault.TheVariants as words
use Rattle.esdk_decrypt.specs.declared.errors.DecryptError.{DecryptError}
use Rattle.esdk_decrypt.specs.declared.errors.DecryptError.TheVariants as decrypting
use Rattle.esdk_encrypt.specs.declared.errors.EncryptError.{EncryptError}
use Rattle.esdk_encrypt.specs.declared.errors.EncryptError.TheVariants as encrypting
use Rattle.extract_core.specs.declared.errors.ExtractError.{ExtractError}
use Rattle.extract_core.specs.declared.errors.ExtractError.TheVariants as extracting
use Rattle.esdk_fields.specs.declared.refusals.FileRefusal.TheVariants.{FileTooLong}
use Rattle.esdk_fields.specs.declared.refusals.Outside.TheVariants.{ShelfFault}
use Rattle.esdk_report.specs.declared.failure.Failure.{Failure}
use Rattle.esdk_report.specs.declared.failure.Failure.TheVariants as failures
use Rattle.json_values.specs.declared.errors.ReadError.{ReadError}
use Rattle.json_values.specs.declared.errors.ReadError.TheVariants as trees
use Rattle.reseal_core.specs.declared.errors.InputError.{InputError}
use Rattle.reseal_core.specs.declared.errors.InputError.TheVariants as resealing
use Rattle.whole_input.specs.declared.file.FileError.{FileError}
use Rattle.whole_input.specs.declared.file.FileError.TheVariants as files

-- of refused words
abbrev pub words_failure : WordsFault → Failure
words_failure words.NotRead = failures.NotRead
words_failure (words.BadNumber name) = failures.BadNumber name
words_failure (words.BadPair number) = failures.BadPair number
words_failure words.Memory = failures.Memory

-- of refused pairs
abbrev pub pairs_failure : PairError → Failure
pairs_failure (pairs.Refusal refusal) = failures.Refusal refusal
pairs_failure pairs.Memory = failures.Memory

-- of a file that wasn't taken
abbrev pub file_failure : FileError → Failure
file_failure files.Shelf = failures.Outside ShelfFault
file_failure files.TooLong = failures.File FileTooLong
file_failure files.Memory = failures.Memory

-- of a file that was taken and is refused: a keyring file, a job file, or the file of an audit
abbrev pub tree_failure : ReadError → Failure
tree_failure (trees.File refusal) = failures.File refusal
tree_failure trees.Memory = failures.Memory

-- of an encryption
abbrev pub encryption_failure : EncryptError → Failure
encryption_failure (encrypting.Refusal refusal) = failures.Refusal refusal
encryption_failure (encrypting.Outside outside) = failures.Outside outside
encryption_failure encrypting.Memory = failures.Memory

-- of a decryption
abbrev pub decryption_failure : DecryptError → Failure
decryption_failure (decrypting.Fault fault) = failures.Fault fault
decryption_failure (decrypting.Outside outside) = failures.Outside outside
decryption_failure decrypting.Memory = failures.Memory

-- of an extraction
abbrev pub extraction_failure : ExtractError → Failure
extraction_failure (extracting.Fault fault) = failures.Fault fault
extraction_failure (extracting.Outside outside) = failures.Outside outside
extraction_failure extracting.Memory = failures.Memory

-- of a resealing
abbrev pub resealing_failure : InputError → Failure
resealing_failure (resealing.Fault fault) = failures.Fault fault
resealing_failure (resealing.Refusal refusal) = failures.Refusal refusal
resealing_failure (resealing.Outside outside) = failures.Outside outside
resealing_failure resealing.Memory = failures.Memory
