use Rattle.std.specs.Prelude.{None, ⊤}
use Rattle.esdk_encrypt.specs.Told.{encrypting_by}
use Rattle.esdk_encrypt.proofs.Fitting.{only_memory_ends, told_granted}
use Rattle.esdk_encrypt.proofs.laws.what_fits_is_encrypted.Goals as goal

pub returns : goal.returns
returns c = λ form writer old new text input taken output put entropy spent error within fits stayed nothing ends.
    only_memory_ends form (encrypting_by writer None old new) text input taken output put entropy spent ⊤ ⊤ error (told_granted writer old new within stayed) fits nothing ends
