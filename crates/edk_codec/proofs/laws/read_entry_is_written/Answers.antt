use Rattle.std.proofs.Common.{length, ◌∙◌, zero-add}
use Rattle.esdk_fields.specs.Place.{start}
use Rattle.edk_codec.specs.Entry.{edk_text}
use Rattle.edk_codec.proofs.Entry.{entry_taken}
use Rattle.edk_codec.proofs.laws.read_entry_is_written.Goals as goal

pub returns : goal.returns
returns c = λ bytes e end fits r.
    let read = entry_taken (start bytes) e end fits r in
    record { is_entry = read.1; text = read.0.front; behind = read.0.end ∙ zero-add (length (edk_text e)) }
