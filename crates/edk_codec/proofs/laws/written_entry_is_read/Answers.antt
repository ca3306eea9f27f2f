use Rattle.std.proofs.Common.{ℕ, length, ap, ◌∙◌, zero-add}
use Rattle.esdk_fields.specs.Reading.{Read}
use Rattle.edk_codec.specs.Entry.{edk_text}
use Rattle.edk_codec.proofs.Entry.{entry_again}
use Rattle.edk_codec.proofs.laws.written_entry_is_read.Goals as goal

pub returns : goal.returns
returns c = λ e rest fits. entry_again e rest 0 fits ∙ ap (λ (a : ℕ). Read e (record { at = a; left = rest })) (zero-add (length (edk_text e)))
